-- Replays of the file of the paper's trace T, and some that are refused, by computation. Assumes nothing.
use Rattle.std.specs.Prelude.{ℕ, ◌≡◌, refl, true, false, List, [], ◌∷◌, take, replicate, Result, Ok, Err}
use Rattle.pages.specs.Rows.{over}
use Rattle.pages.specs.Pages.{has}
use Rattle.frames.specs.Frames.{framed, dirty, taken}
use Rattle.frames.specs.declared.Frame.{Frame}
use Rattle.trace.specs.Bytes.{number, number_at, bytes}
use Rattle.trace.specs.Layout.{tag_of, field, encode_header, encode_item, encode_items, encode, header, item, items_of, items}
use Rattle.trace.specs.Rules.{allowed}
use Rattle.trace.specs.Refusals.{refused}
use Rattle.trace.specs.Verdict.{first}
use Rattle.trace.specs.Verdict as verdicts
use Rattle.trace.specs.Check.{is_field, is_item, items_verdict, verdict}
use Rattle.trace.specs.Examples.{◌at◌, top, whole, file_T}
use Rattle.lru_cache.specs.Lru.{hit, fetch, step, ◌then◌, replay, word, cost, words}
use Rattle.lru_cache.specs.Tally.{is_fetch, is_eviction, tallied, tally, per_million}
use Rattle.replays.specs.Replay.{twice, bad_start, replay_verdict, replay_of, summary_of, replay_answer, frames_after, events_after}
use Rattle.trace.specs.declared.Refusal.{Refusal}
use Rattle.replays.specs.declared.Summary.{Summary}
use Rattle.replays.specs.declared.Unreplayed.{Unreplayed}

-- A refusal and a resident count.
abbrev Refused : Refusal → ℕ → Result Summary Unreplayed
Refused r n = Err (record { refusal = r; resident = n })

-- Frames of some pages that were not written.
abbrev clean : List ℕ → List Frame
clean [] = []
clean (p ∷ ps) = framed p false ∷ clean ps

-- ---- the file of T

answers : replay_answer file_T 2 (clean (0 ∷ 0 ∷ [])) 0 48 ≡ Ok (record { items = 12; fetches = 5; evictions = 3; resident = 2; permillion = 416666 })
unfolding replay_answer replay_verdict summary_of replay_of bad_start twice replay ◌then◌ step hit fetch tally tallied is_fetch is_eviction per_million has dirty taken
    encode encode_header encode_items encode_item tag_of field bytes verdict first verdicts.◌then◌ items_verdict is_field is_item allowed header items items_of item number_at number
answers = refl

leaves : frames_after file_T 2 (framed 8 false ∷ framed 9 true ∷ framed 7 true ∷ []) 0 48 ≡ framed 1 false ∷ framed 3 false ∷ framed 7 true ∷ []
unfolding frames_after replay_verdict replay_of over bad_start twice replay ◌then◌ step hit fetch has dirty taken
    encode encode_header encode_items encode_item tag_of field bytes verdict first verdicts.◌then◌ items_verdict is_field is_item allowed header items items_of item number_at number
leaves = refl

-- ---- a file with writes

-- Page 7 is written, and then 8 and 9 are read. A place beyond the resident ones keeps page and mark.
abbrev file7 : List ℕ
file7 = encode (record { kind = 0; filter = 0; references = 3; items = 3 }) (record { page = 7; time = 1; written = true } ∷ 8 at 2 ∷ 9 at 3 ∷ [])

writes : events_after file7 2 (framed 5 true ∷ framed 6 false ∷ framed 4 true ∷ []) 1 (replicate 13 0)
    ≡ 1 ∷ 7 ∷ 0 ∷ 0 ∷ 2 ∷ 8 ∷ 5 ∷ 2 ∷ 3 ∷ 9 ∷ 7 ∷ 2 ∷ 0 ∷ []
unfolding events_after words word cost replay_verdict replay_of over bad_start twice replay ◌then◌ step hit fetch has dirty taken
    encode encode_header encode_items encode_item tag_of field bytes verdict first verdicts.◌then◌ items_verdict is_field is_item allowed header items items_of item number_at number
writes = refl

stays : frames_after file7 2 (framed 5 true ∷ framed 6 false ∷ framed 4 true ∷ []) 1 12 ≡ framed 9 false ∷ framed 8 false ∷ framed 4 true ∷ []
unfolding frames_after replay_verdict replay_of over bad_start twice replay ◌then◌ step hit fetch has dirty taken
    encode encode_header encode_items encode_item tag_of field bytes verdict first verdicts.◌then◌ items_verdict is_field is_item allowed header items items_of item number_at number
stays = refl

-- ---- page 2^64−1, and page 0

-- Pages 0, 2^64−1, 9 and 8, from a start with page 2^64−1, which was written.
abbrev file_top : List ℕ
file_top = encode (whole 4) (0 at 1 ∷ top at 2 ∷ 9 at 3 ∷ 8 at 4 ∷ [])

-- Page 0 is fetched and nothing goes; page 2^64−1 is there; page 0 goes, and then page 2^64−1.
from_the_top : events_after file_top 2 (framed top true ∷ framed 0 false ∷ []) 1 (replicate 16 7)
    ≡ 1 ∷ 0 ∷ 0 ∷ 0 ∷ 3 ∷ 9 ∷ 0 ∷ 1 ∷ 4 ∷ 8 ∷ top ∷ 2 ∷ 7 ∷ 7 ∷ 7 ∷ 7 ∷ []
unfolding events_after words word cost replay_verdict replay_of over bad_start twice replay ◌then◌ step hit fetch has dirty taken
    encode encode_header encode_items encode_item tag_of field bytes verdict first verdicts.◌then◌ items_verdict is_field is_item allowed header items items_of item number_at number
from_the_top = refl

-- Page 2^64−1 twice is a page twice.
top-twice : replay_answer file_top 2 (clean (top ∷ top ∷ [])) 2 16 ≡ Refused (refused 10 0) 2
unfolding replay_answer replay_verdict bad_start twice has
    encode encode_header encode_items encode_item tag_of field bytes verdict first verdicts.◌then◌ items_verdict is_field is_item allowed header item number_at number
top-twice = refl

-- ---- replays that are refused, a replay for each reason, and one where the file, the start and the room are wrong

-- A reduced file of one item, with the filter size 3.
abbrev filtered : List ℕ
filtered = encode (record { kind = 1; filter = 3; references = 9; items = 1 }) (7 at 5 ∷ [])

refusals : (
    replay_answer file_T 0 (clean (0 ∷ 0 ∷ [])) 0 48
    ∷ replay_answer file_T 4097 (clean (0 ∷ 0 ∷ [])) 0 48
    ∷ replay_answer filtered 2 (clean (0 ∷ 0 ∷ [])) 0 48
    ∷ replay_answer file_T 4096 (clean (0 ∷ 0 ∷ [])) 0 48
    ∷ replay_answer file_T 3 (clean (5 ∷ 6 ∷ [])) 2 48
    ∷ replay_answer file_T 2 (clean (5 ∷ 6 ∷ 7 ∷ [])) 3 48
    ∷ replay_answer file_T 2 (clean (5 ∷ 5 ∷ [])) 2 48
    ∷ replay_answer file_T 2 (clean (5 ∷ 6 ∷ [])) 2 47
    ∷ replay_answer (take 22 file_T) 2 (clean (5 ∷ 6 ∷ 7 ∷ [])) 3 47
    ∷ []
    )
    ≡ Refused (refused 7 0) 0
    ∷ Refused (refused 7 0) 0
    ∷ Refused (refused 9 0) 0
    ∷ Refused (refused 10 0) 0
    ∷ Refused (refused 10 0) 2
    ∷ Refused (refused 10 0) 3
    ∷ Refused (refused 10 0) 2
    ∷ Refused (refused 11 0) 2
    ∷ Refused (refused 1 0) 3
    ∷ []
unfolding replay_answer replay_verdict bad_start twice has
    encode encode_header encode_items encode_item tag_of field bytes verdict first verdicts.◌then◌ items_verdict is_field is_item allowed header item number_at number
refusals = refl
