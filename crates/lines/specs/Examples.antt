-- What the programs write for some inputs, by computation. Assumes nothing.
use Rattle.std.specs.Prelude.{ℕ, ◌≡◌, refl, List, [], ◌∷◌, map, length, replicate}
use Rattle.pages.specs.Rows.{flat}
use Rattle.pages.specs.Pages.{has, add}
use Rattle.frames.specs.Frames.{dirty, taken}
use Rattle.trace.specs.Bytes.{number, number_at, bytes}
use Rattle.trace.specs.Layout.{tag_of, field, encode_header, encode_item, encode_items, encode, header, item, items_of, items}
use Rattle.trace.specs.Rules.{allowed}
use Rattle.trace.specs.Verdict.{first, ◌then◌}
use Rattle.trace.specs.Check.{is_field, is_item, items_verdict, verdict}
use Rattle.trace.specs.Examples.{◌at◌, ◌writes◌, top, whole, file_T}
use Rattle.epochs.specs.Epochs.{pages, cut, epochs}
use Rattle.epochs.specs.Keep.{is_first, is_last, phase, keeps, settle, marked, reduce}
use Rattle.slim.specs.Reduce.{is_mode, mode_of, kept_of, reduced_header, reduced_file, falls, reduce_verdict}
use Rattle.lru_cache.specs.Lru.{replay, step, hit, fetch, cost, ◌then◌ as ◌and◌}
use Rattle.lru_cache.specs.Tally.{tally, tallied, is_fetch, is_eviction, per_million}
use Rattle.replays.specs.Replay.{twice, bad_start, replay_verdict, replay_of, summary_of}
use Rattle.lines.specs.Text.{leading, digits, refusal_line}
use Rattle.lines.specs.Report.{report, fetch_lines, tally_line, pages_line, page_fields}
use Rattle.lines.specs.Programs.{reduce_text, reduce_program, replay_text, replay_program}

-- T, to be reduced in a mode with a filter size.
abbrev asked : ℕ → ℕ → List ℕ
asked mode size = 17 ∷ 3 ∷ 0 ∷ mode ∷ size ∷ 0 ∷ file_T

-- Demand with B = 2 writes 175 bytes.
demand : length (reduce_program (asked 2 2)) ≡ 175
unfolding reduce_program reduce_text reduce_verdict reduced_file reduced_header kept_of mode_of is_mode falls reduce epochs cut marked settle keeps phase is_first is_last pages has add
    flat encode encode_header encode_items encode_item tag_of field bytes verdict first ◌then◌ items_verdict is_field is_item allowed header items items_of item number_at number
demand = refl

-- `refused 7 trace 1 item 0` for mode 3, and `refused 15 trace 1 item 0` for another tag and for a field cut short.
refusals : map reduce_program (asked 3 2 ∷ (16 ∷ 3 ∷ 0 ∷ 2 ∷ 2 ∷ 0 ∷ file_T) ∷ (17 ∷ 3 ∷ 0 ∷ 2 ∷ 2 ∷ []) ∷ [])
    ≡ (114 ∷ 101 ∷ 102 ∷ 117 ∷ 115 ∷ 101 ∷ 100 ∷ 32 ∷ 55 ∷ 32 ∷ 116 ∷ 114 ∷ 97 ∷ 99 ∷ 101 ∷ 32 ∷ 49 ∷ 32 ∷ 105 ∷ 116 ∷ 101 ∷ 109 ∷ 32 ∷ 48 ∷ 10 ∷ [])
    ∷ (114 ∷ 101 ∷ 102 ∷ 117 ∷ 115 ∷ 101 ∷ 100 ∷ 32 ∷ 49 ∷ 53 ∷ 32 ∷ 116 ∷ 114 ∷ 97 ∷ 99 ∷ 101 ∷ 32 ∷ 49 ∷ 32 ∷ 105 ∷ 116 ∷ 101 ∷ 109 ∷ 32 ∷ 48 ∷ 10 ∷ [])
    ∷ (114 ∷ 101 ∷ 102 ∷ 117 ∷ 115 ∷ 101 ∷ 100 ∷ 32 ∷ 49 ∷ 53 ∷ 32 ∷ 116 ∷ 114 ∷ 97 ∷ 99 ∷ 101 ∷ 32 ∷ 49 ∷ 32 ∷ 105 ∷ 116 ∷ 101 ∷ 109 ∷ 32 ∷ 48 ∷ 10 ∷ [])
    ∷ []
unfolding reduce_program reduce_text reduce_verdict reduced_file reduced_header kept_of mode_of is_mode falls reduce epochs cut marked settle keeps phase is_first is_last pages has add
    flat encode encode_header encode_items encode_item tag_of field bytes verdict first ◌then◌ items_verdict is_field is_item allowed header items items_of item number_at number
    refusal_line digits leading
refusals = refl

-- What the replay program is given: a cache size, and a trace.
abbrev played : ℕ → List ℕ → List ℕ
played size f = 16 ∷ 2 ∷ 0 ∷ size ∷ 0 ∷ f

-- "Replay of T as a whole file with cache size 2 prints, whole", a line to a line; "replay prints the fourth at the end of each fetch line".
replay_of_T : replay_program (played 2 file_T)
    ≡ (
    49 ∷ 48 ∷ 32 ∷ 49 ∷ 32 ∷ 45 ∷ 32 ∷ 48 ∷ 10
    ∷ 52 ∷ 48 ∷ 32 ∷ 50 ∷ 32 ∷ 45 ∷ 32 ∷ 48 ∷ 10
    ∷ 54 ∷ 48 ∷ 32 ∷ 51 ∷ 32 ∷ 50 ∷ 32 ∷ 49 ∷ 10
    ∷ 56 ∷ 48 ∷ 32 ∷ 52 ∷ 32 ∷ 49 ∷ 32 ∷ 49 ∷ 10
    ∷ 49 ∷ 49 ∷ 48 ∷ 32 ∷ 49 ∷ 32 ∷ 52 ∷ 32 ∷ 49 ∷ 10
    ∷ 105 ∷ 116 ∷ 101 ∷ 109 ∷ 115 ∷ 32 ∷ 49 ∷ 50 ∷ 32 ∷ 102 ∷ 101 ∷ 116 ∷ 99 ∷ 104 ∷ 101 ∷ 115 ∷ 32 ∷ 53 ∷ 32 ∷ 101 ∷ 118 ∷ 105
    ∷ 99 ∷ 116 ∷ 105 ∷ 111 ∷ 110 ∷ 115 ∷ 32 ∷ 51 ∷ 32 ∷ 112 ∷ 101 ∷ 114 ∷ 109 ∷ 105 ∷ 108 ∷ 108 ∷ 105 ∷ 111 ∷ 110 ∷ 32 ∷ 52 ∷ 49
    ∷ 54 ∷ 54 ∷ 54 ∷ 54 ∷ 10
    ∷ 112 ∷ 97 ∷ 103 ∷ 101 ∷ 115 ∷ 32 ∷ 49 ∷ 32 ∷ 51 ∷ 10 ∷ [])
unfolding replay_program replay_text replay_verdict replay_of summary_of report fetch_lines tally_line pages_line page_fields replay step hit fetch cost ◌and◌ tally tallied is_fetch
    is_eviction per_million bad_start twice has dirty taken verdict first ◌then◌ items_verdict is_field is_item allowed header items items_of item number_at number digits leading encode
    encode_header encode_items encode_item tag_of field bytes
replay_of_T = refl

-- `1 7 - 0`, `2 8 7 2`, `3 9 8 1`: page 7 was written and is evicted, then page 8, which was only read; `items 3 fetches 3 evictions 2 permillion 1000000`, `pages 9`.
replay_with_write : replay_program (played 1 (encode (whole 3) (7 writes 1 ∷ 8 at 2 ∷ 9 at 3 ∷ [])))
    ≡ (
    49 ∷ 32 ∷ 55 ∷ 32 ∷ 45 ∷ 32 ∷ 48 ∷ 10
    ∷ 50 ∷ 32 ∷ 56 ∷ 32 ∷ 55 ∷ 32 ∷ 50 ∷ 10
    ∷ 51 ∷ 32 ∷ 57 ∷ 32 ∷ 56 ∷ 32 ∷ 49 ∷ 10
    ∷ 105 ∷ 116 ∷ 101 ∷ 109 ∷ 115 ∷ 32 ∷ 51 ∷ 32 ∷ 102 ∷ 101 ∷ 116 ∷ 99 ∷ 104 ∷ 101 ∷ 115 ∷ 32 ∷ 51 ∷ 32 ∷ 101 ∷ 118 ∷ 105 ∷ 99
    ∷ 116 ∷ 105 ∷ 111 ∷ 110 ∷ 115 ∷ 32 ∷ 50 ∷ 32 ∷ 112 ∷ 101 ∷ 114 ∷ 109 ∷ 105 ∷ 108 ∷ 108 ∷ 105 ∷ 111 ∷ 110 ∷ 32 ∷ 49 ∷ 48 ∷ 48
    ∷ 48 ∷ 48 ∷ 48 ∷ 48 ∷ 10
    ∷ 112 ∷ 97 ∷ 103 ∷ 101 ∷ 115 ∷ 32 ∷ 57 ∷ 10 ∷ [])
unfolding replay_program replay_text replay_verdict replay_of summary_of report fetch_lines tally_line pages_line page_fields replay step hit fetch cost ◌and◌ tally tallied is_fetch
    is_eviction per_million bad_start twice has dirty taken verdict first ◌then◌ items_verdict is_field is_item allowed header items items_of item number_at number digits leading encode
    encode_header encode_items encode_item tag_of field bytes
replay_with_write = refl

-- `1 0 - 0`, `2 18446744073709551615 0 1`, `3 5 18446744073709551615 1`: nothing is evicted, then page 0, then page 2^64−1.
replay_from_the_top : replay_program (played 1 (encode (whole 3) (0 at 1 ∷ top at 2 ∷ 5 at 3 ∷ [])))
    ≡ (
    49 ∷ 32 ∷ 48 ∷ 32 ∷ 45 ∷ 32 ∷ 48 ∷ 10
    ∷ 50 ∷ 32 ∷ 49 ∷ 56 ∷ 52 ∷ 52 ∷ 54 ∷ 55 ∷ 52 ∷ 52 ∷ 48 ∷ 55 ∷ 51 ∷ 55 ∷ 48 ∷ 57 ∷ 53 ∷ 53 ∷ 49 ∷ 54 ∷ 49 ∷ 53 ∷ 32 ∷ 48 ∷ 32 ∷ 49 ∷ 10
    ∷ 51 ∷ 32 ∷ 53 ∷ 32 ∷ 49 ∷ 56 ∷ 52 ∷ 52 ∷ 54 ∷ 55 ∷ 52 ∷ 52 ∷ 48 ∷ 55 ∷ 51 ∷ 55 ∷ 48 ∷ 57 ∷ 53 ∷ 53 ∷ 49 ∷ 54 ∷ 49 ∷ 53 ∷ 32 ∷ 49 ∷ 10
    ∷ 105 ∷ 116 ∷ 101 ∷ 109 ∷ 115 ∷ 32 ∷ 51 ∷ 32 ∷ 102 ∷ 101 ∷ 116 ∷ 99 ∷ 104 ∷ 101 ∷ 115 ∷ 32 ∷ 51 ∷ 32 ∷ 101 ∷ 118 ∷ 105 ∷ 99
    ∷ 116 ∷ 105 ∷ 111 ∷ 110 ∷ 115 ∷ 32 ∷ 50 ∷ 32 ∷ 112 ∷ 101 ∷ 114 ∷ 109 ∷ 105 ∷ 108 ∷ 108 ∷ 105 ∷ 111 ∷ 110 ∷ 32 ∷ 49 ∷ 48 ∷ 48
    ∷ 48 ∷ 48 ∷ 48 ∷ 48 ∷ 10
    ∷ 112 ∷ 97 ∷ 103 ∷ 101 ∷ 115 ∷ 32 ∷ 53 ∷ 10 ∷ [])
unfolding replay_program replay_text replay_verdict replay_of summary_of report fetch_lines tally_line pages_line page_fields replay step hit fetch cost ◌and◌ tally tallied is_fetch
    is_eviction per_million bad_start twice has dirty taken verdict first ◌then◌ items_verdict is_field is_item allowed header items items_of item number_at number digits leading encode
    encode_header encode_items encode_item tag_of field bytes
replay_from_the_top = refl

-- An empty trace: `items 0 fetches 0 evictions 0 permillion 0` and `pages` alone.
nothing_replayed : replay_program (played 2 (encode (record { kind = 0; filter = 0; references = 0; items = 0 }) []))
    ≡ (105 ∷ 116 ∷ 101 ∷ 109 ∷ 115 ∷ 32 ∷ 48 ∷ 32 ∷ 102 ∷ 101 ∷ 116 ∷ 99 ∷ 104 ∷ 101 ∷ 115 ∷ 32 ∷ 48 ∷ 32 ∷ 101 ∷ 118 ∷ 105 ∷ 99 ∷ 116 ∷ 105 ∷ 111 ∷ 110 ∷ 115 ∷ 32 ∷ 48 ∷ 32 ∷ 112 ∷ 101 ∷ 114 ∷ 109 ∷ 105 ∷ 108 ∷ 108 ∷ 105 ∷ 111 ∷ 110 ∷ 32 ∷ 48 ∷ 10 ∷ 112 ∷ 97 ∷ 103 ∷ 101 ∷ 115 ∷ 10 ∷ [])
unfolding replay_program replay_text replay_verdict replay_of summary_of report fetch_lines tally_line pages_line page_fields replay tally per_million bad_start twice has verdict first
    items_verdict is_field is_item allowed header items items_of item number_at number digits leading encode encode_header encode_items field bytes
nothing_replayed = refl

-- `refused 7 trace 1 item 0` for cache size 0, and `refused 15 trace 1 item 0` for the settings of a reduction.
replay_refusals : map replay_program (played 0 file_T ∷ asked 2 2 ∷ [])
    ≡ (114 ∷ 101 ∷ 102 ∷ 117 ∷ 115 ∷ 101 ∷ 100 ∷ 32 ∷ 55 ∷ 32 ∷ 116 ∷ 114 ∷ 97 ∷ 99 ∷ 101 ∷ 32 ∷ 49 ∷ 32 ∷ 105 ∷ 116 ∷ 101 ∷ 109 ∷ 32 ∷ 48 ∷ 10 ∷ [])
    ∷ (114 ∷ 101 ∷ 102 ∷ 117 ∷ 115 ∷ 101 ∷ 100 ∷ 32 ∷ 49 ∷ 53 ∷ 32 ∷ 116 ∷ 114 ∷ 97 ∷ 99 ∷ 101 ∷ 32 ∷ 49 ∷ 32 ∷ 105 ∷ 116 ∷ 101 ∷ 109 ∷ 32 ∷ 48 ∷ 10 ∷ [])
    ∷ []
unfolding replay_program replay_text replay_verdict refusal_line bad_start twice has verdict first ◌then◌ items_verdict is_field is_item allowed header items items_of item number_at number
    digits leading encode encode_header encode_items encode_item tag_of field bytes
replay_refusals = refl

-- An input of 32,769 bytes is refused 16; one of 32,768 is not, and these are no settings.
long_inputs : map (λ (n : ℕ). replay_program (replicate n 0)) (32769 ∷ 32768 ∷ [])
    ≡ (114 ∷ 101 ∷ 102 ∷ 117 ∷ 115 ∷ 101 ∷ 100 ∷ 32 ∷ 49 ∷ 54 ∷ 32 ∷ 116 ∷ 114 ∷ 97 ∷ 99 ∷ 101 ∷ 32 ∷ 49 ∷ 32 ∷ 105 ∷ 116 ∷ 101 ∷ 109 ∷ 32 ∷ 48 ∷ 10 ∷ [])
    ∷ (114 ∷ 101 ∷ 102 ∷ 117 ∷ 115 ∷ 101 ∷ 100 ∷ 32 ∷ 49 ∷ 53 ∷ 32 ∷ 116 ∷ 114 ∷ 97 ∷ 99 ∷ 101 ∷ 32 ∷ 49 ∷ 32 ∷ 105 ∷ 116 ∷ 101 ∷ 109 ∷ 32 ∷ 48 ∷ 10 ∷ [])
    ∷ []
unfolding replay_program refusal_line first is_field number_at number digits leading
long_inputs = refl
