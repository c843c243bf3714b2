-- The paper's worked examples, one list and one theorem, and some with writes, by computation. Assumes nothing.
use Rattle.std.specs.Prelude.{ℕ, ◌*◌, ◌≡◌, refl, true, false, List, [], ◌∷◌, map, length, take, drop, replicate, Result, Ok, Err}
use Rattle.pages.specs.Rows.{flat, over}
use Rattle.pages.specs.Pages.{has, add}
use Rattle.frames.specs.Frames.{framed, blank, dirty, taken}
use Rattle.frames.specs.Frames.{pages_of as frame_pages}
use Rattle.frames.specs.declared.Frame.{Frame}
use Rattle.trace.specs.Bytes.{number, number_at, bytes}
use Rattle.trace.specs.Layout.{tag_of, field, encode_header, encode_item, encode_items, encode, header, item, item_at, items_of, items}
use Rattle.trace.specs.Rules.{allowed}
use Rattle.trace.specs.Verdict.{first}
use Rattle.trace.specs.Verdict as verdicts
use Rattle.trace.specs.Check.{is_field, is_item, items_verdict, verdict}
use Rattle.trace.specs.Examples.{◌at◌, ◌writes◌, top, T, file_T}
use Rattle.trace.specs.declared.Item.{Item}
use Rattle.trace.specs.declared.Header.{Header}
use Rattle.trace.specs.declared.Refusal.{Refusal}
use Rattle.epochs.specs.Epochs.{pages, cut, epochs}
use Rattle.epochs.specs.Keep.{is_first, is_last, phase, keeps, settle, marked, reduce}
use Rattle.slim.specs.Reduce.{is_mode, mode_of, kept_of, reduced_header, reduced_file, falls, reduce_verdict, reduce_answer}
use Rattle.join.specs.Join.{joined_kind, joined_header, joined_file, meets_falling, too_large, judged, join_answer}
use Rattle.lru_cache.specs.Lru.{Event, hit, fetch, step, ◌then◌, replay, word, cost, words}
use Rattle.lru_cache.specs.Tally.{one_of, is_fetch, is_eviction, tallied, tally, per_million}
use Rattle.replays.specs.Replay.{twice, bad_start, replay_verdict, replay_of, summary_of, replay_answer, frames_after, events_after}
use Rattle.replays.specs.declared.Summary.{Summary}
use Rattle.replays.specs.declared.Unreplayed.{Unreplayed}
use Rattle.faithful.specs.Corollaries.{whole_file as file, second_transfers, told_transfers}

-- One example of the paper: what the definitions compute, and what the paper says.
pub record Example : Type 0 where
  pub found : List ℕ
  pub paper : List ℕ

infix 10 ◌says◌
abbrev pub ◌says◌ : List ℕ → List ℕ → Example
found says paper = record { found = found; paper = paper }

-- ---- files

-- A file reduced by FastSlim-Demand, and by FastSlim, with the filter size B.
abbrev pub demand : ℕ → List ℕ → List ℕ
demand B f = reduced_file f 2 B

abbrev pub fastslim : ℕ → List ℕ → List ℕ
fastslim B f = reduced_file f 1 B

-- T cut after time 70, each part a whole file reduced by demand with B = 2, and the two joined.
abbrev pub before : List ℕ
before = file (take 7 T)

abbrev pub after : List ℕ
after = file (drop 7 T)

abbrev pub rejoined : List ℕ
rejoined = joined_file (demand 2 before) (demand 2 after)

-- Page 7 five times, and once; and pages 1, 2, 1, all at time 5.
abbrev pub sevens : List ℕ
sevens = file (7 at 1 ∷ 7 at 2 ∷ 7 at 3 ∷ 7 at 4 ∷ 7 at 5 ∷ [])

abbrev pub seven : List ℕ
seven = file (7 at 1 ∷ [])

abbrev pub ties : List ℕ
ties = file (1 at 5 ∷ 2 at 5 ∷ 1 at 5 ∷ [])

-- ---- answers as numbers

-- The times of the items of a file, and their pages.
abbrev pub times : List ℕ → List ℕ
times f = map (λ (i : Item). i.time) (items f)

abbrev pub pages_of : List ℕ → List ℕ
pages_of f = map (λ (i : Item). i.page) (items f)

-- The length of a file.
abbrev pub size : List ℕ → List ℕ
size f = length f ∷ []

-- The answer of a reduction or of a join: 0 and the four header values, or the refusal, whose number is not 0.
abbrev pub answered : Result Header Refusal → List ℕ
answered a =
    elim a [
      | Ok h ↦ 0 ∷ h.kind ∷ h.filter ∷ h.references ∷ h.items ∷ []
      | Err r ↦ r.number ∷ r.trace ∷ r.item ∷ []
    ]

-- The answer of a replay: 0 and items, fetches, evictions, resident pages and fetches per million; or the refusal, whose number is not 0, and the resident count.
abbrev pub told : Result Summary Unreplayed → List ℕ
told a =
    elim a [
      | Ok s ↦ 0 ∷ s.items ∷ s.fetches ∷ s.evictions ∷ s.resident ∷ s.permillion ∷ []
      | Err e ↦ e.refusal.number ∷ e.refusal.trace ∷ e.refusal.item ∷ e.resident ∷ []
    ]

-- An empty cache with room for K pages, and 48 places for events, four for each item of T.
abbrev pub empty : ℕ → List Frame
empty K = replicate K blank

abbrev pub places : List ℕ
places = replicate 48 0

-- From the empty cache: the answer, the four numbers that each fetch writes, and the pages in the cache afterwards.
abbrev pub answer : ℕ → List ℕ → List ℕ
answer K f = told (replay_answer f K (empty K) 0 (length places))

abbrev pub fetches : ℕ → List ℕ → List ℕ
fetches K f = take (4 * (summary_of f K (empty K) 0).fetches) (events_after f K (empty K) 0 places)

abbrev pub leaves : ℕ → List ℕ → List ℕ
leaves K f = frame_pages (frames_after f K (empty K) 0 (length places))

-- When a cache of K pages that starts empty would fetch, were the replay of the file not refused.
abbrev pub fetched_at : ℕ → List ℕ → List ℕ
fetched_at K f = map (λ (e : Event). e.time) (replay K [] (items f)).events

-- ---- the examples

abbrev pub examples : List Example
examples =
    -- "Demand, B = 2 keeps times 10, 40, 50, 60, 80, 100, 110, 120; the file is 175 bytes."
    (times (demand 2 file_T) says 10 ∷ 40 ∷ 50 ∷ 60 ∷ 80 ∷ 100 ∷ 110 ∷ 120 ∷ [])
    ∷ (answered (reduce_answer file_T 2 2 (length file_T)) says 0 ∷ 2 ∷ 2 ∷ 12 ∷ 8 ∷ [])
    ∷ (size (demand 2 file_T) says 175 ∷ [])
    -- "FastSlim, B = 2 keeps 10, 30, 40, 50, 60, 70, 80, 100, 110, 120."
    ∷ (times (fastslim 2 file_T) says 10 ∷ 30 ∷ 40 ∷ 50 ∷ 60 ∷ 70 ∷ 80 ∷ 100 ∷ 110 ∷ 120 ∷ [])
    -- "Demand, B = 4 keeps 10, 40, 60, 80, 100, 120; K = 4 ends with pages 1, 3, 4, 2 from either trace."
    ∷ (times (demand 4 file_T) says 10 ∷ 40 ∷ 60 ∷ 80 ∷ 100 ∷ 120 ∷ [])
    ∷ (leaves 4 file_T says 1 ∷ 3 ∷ 4 ∷ 2 ∷ [])
    ∷ (leaves 4 (demand 4 file_T) says 1 ∷ 3 ∷ 4 ∷ 2 ∷ [])
    -- "K = 2 on the B = 2 demand file: the five fetch lines above, per million 625000."
    ∷ (fetches 2 (demand 2 file_T) says
    10 ∷ 1 ∷ 0 ∷ 0 ∷ 40 ∷ 2 ∷ 0 ∷ 0 ∷ 60 ∷ 3 ∷ 2 ∷ 1 ∷ 80 ∷ 4 ∷ 1 ∷ 1 ∷ 110 ∷ 1 ∷ 4 ∷ 1 ∷ [])
    ∷ (answer 2 (demand 2 file_T) says 0 ∷ 8 ∷ 5 ∷ 3 ∷ 2 ∷ 625000 ∷ [])
    -- Replay of T as a whole file with cache size 2: the lines that the paper prints whole.
    ∷ (fetches 2 file_T says
    10 ∷ 1 ∷ 0 ∷ 0 ∷ 40 ∷ 2 ∷ 0 ∷ 0 ∷ 60 ∷ 3 ∷ 2 ∷ 1 ∷ 80 ∷ 4 ∷ 1 ∷ 1 ∷ 110 ∷ 1 ∷ 4 ∷ 1 ∷ [])
    ∷ (answer 2 file_T says 0 ∷ 12 ∷ 5 ∷ 3 ∷ 2 ∷ 416666 ∷ [])
    ∷ (leaves 2 file_T says 1 ∷ 3 ∷ [])
    -- "K = 3 on T: fetches at 10, 40, 60, 80; only page 2 evicted, at 80."
    ∷ (fetches 3 file_T says
    10 ∷ 1 ∷ 0 ∷ 0 ∷ 40 ∷ 2 ∷ 0 ∷ 0 ∷ 60 ∷ 3 ∷ 0 ∷ 0 ∷ 80 ∷ 4 ∷ 2 ∷ 1 ∷ [])
    -- "K = 1 on T: 7 fetches, 6 evictions. On the B = 2 demand file: refused 9. (Page 3's fetch at 90 would have moved to 100.)"
    ∷ (take 4 (answer 1 file_T) says 0 ∷ 12 ∷ 7 ∷ 6 ∷ [])
    ∷ (answer 1 (demand 2 file_T) says 9 ∷ 1 ∷ 0 ∷ 0 ∷ [])
    ∷ (fetched_at 1 file_T says 10 ∷ 40 ∷ 50 ∷ 60 ∷ 80 ∷ 90 ∷ 110 ∷ [])
    ∷ (fetched_at 1 (demand 2 file_T) says 10 ∷ 40 ∷ 50 ∷ 60 ∷ 80 ∷ 100 ∷ 110 ∷ [])
    -- "T cut after time 70, each part reduced by demand with B = 2: 5 and 5 items; the join replays at K = 2 with the same five fetch lines, per million 500000."
    ∷ (answered (reduce_answer before 2 2 (length before)) says 0 ∷ 2 ∷ 2 ∷ 7 ∷ 5 ∷ [])
    ∷ (answered (reduce_answer after 2 2 (length after)) says 0 ∷ 2 ∷ 2 ∷ 5 ∷ 5 ∷ [])
    ∷ (answered (join_answer (demand 2 before) (demand 2 after) (length rejoined)) says 0 ∷ 2 ∷ 2 ∷ 12 ∷ 10 ∷ [])
    ∷ (fetches 2 rejoined says
    10 ∷ 1 ∷ 0 ∷ 0 ∷ 40 ∷ 2 ∷ 0 ∷ 0 ∷ 60 ∷ 3 ∷ 2 ∷ 1 ∷ 80 ∷ 4 ∷ 1 ∷ 1 ∷ 110 ∷ 1 ∷ 4 ∷ 1 ∷ [])
    ∷ (answer 2 rejoined says 0 ∷ 10 ∷ 5 ∷ 3 ∷ 2 ∷ 500000 ∷ [])
    -- "Page 7 five times, B = 1: first and last kept. One item: kept once."
    ∷ (times (demand 1 sevens) says 1 ∷ 5 ∷ [])
    ∷ (times (fastslim 1 sevens) says 1 ∷ 5 ∷ [])
    ∷ (times (demand 1 seven) says 1 ∷ [])
    ∷ (times (fastslim 1 seven) says 1 ∷ [])
    -- "Pages 1, 2, 1, all at time 5, B = 2: all kept, in that order."
    ∷ (pages_of (demand 2 ties) says 1 ∷ 2 ∷ 1 ∷ [])
    ∷ (times (demand 2 ties) says 5 ∷ 5 ∷ 5 ∷ [])
    ∷ (pages_of (fastslim 2 ties) says 1 ∷ 2 ∷ 1 ∷ [])
    ∷ (times (fastslim 2 ties) says 5 ∷ 5 ∷ 5 ∷ [])
    -- "An empty whole trace is 23 bytes, reduces to 23 bytes and, from an empty cache, replays to 0 everywhere."
    ∷ (size (file []) says 23 ∷ [])
    ∷ (answered (reduce_answer (file []) 2 2 (length (file []))) says 0 ∷ 2 ∷ 2 ∷ 0 ∷ 0 ∷ [])
    ∷ (size (demand 2 (file [])) says 23 ∷ [])
    ∷ (size (fastslim 2 (file [])) says 23 ∷ [])
    ∷ (answer 2 (file []) says 0 ∷ 0 ∷ 0 ∷ 0 ∷ 0 ∷ 0 ∷ [])
    ∷ (events_after (file []) 2 (empty 2) 0 (5 ∷ 6 ∷ []) says 5 ∷ 6 ∷ [])
    ∷ (frame_pages (frames_after (file []) 2 (framed 7 false ∷ framed 8 true ∷ []) 0 0) says 7 ∷ 8 ∷ [])
    ∷ []

-- Every example holds.
pub examples_hold : map (λ (e : Example). e.found) examples ≡ map (λ (e : Example). e.paper) examples
unfolding reduce_answer reduce_verdict reduced_file reduced_header kept_of mode_of is_mode falls reduce epochs cut marked settle keeps phase is_first is_last pages
    join_answer judged meets_falling too_large joined_file joined_header joined_kind
    replay_answer replay_verdict summary_of replay_of frames_after events_after bad_start twice replay ◌then◌ step hit fetch words word cost tally tallied is_fetch is_eviction per_million
    has add dirty taken flat over
    encode encode_header encode_items encode_item tag_of field bytes verdict first verdicts.◌then◌ items_verdict is_item is_field allowed header items items_of item_at item number_at number
examples_hold = refl

-- ---- writes

-- A recording with writes at times 20, 60 and 100.
abbrev pub W : List Item
W = 1 at 10 ∷ 1 writes 20 ∷ 1 at 30 ∷ 2 at 40 ∷ 3 at 50 ∷ 4 writes 60 ∷ 4 at 70 ∷ 3 at 80 ∷ 1 at 90 ∷ 1 writes 100 ∷ 1 at 110 ∷ []

-- It is cut after time 40, and so between the write of page 1 at 20 and its eviction at 50; reduced by demand and by FastSlim, with B = 2, and joined.
abbrev pub cut_W : List ℕ
cut_W = joined_file (demand 2 (file (take 4 W))) (fastslim 2 (file (drop 4 W)))

-- For each item of a file, 1 if it is a write and else 0.
abbrev pub writes_of : List ℕ → List ℕ
writes_of f = map (λ (i : Item). one_of i.written) (items f)

-- Frames as numbers: each page, and 1 if it was written, else 0.
abbrev pub shown : List Frame → List ℕ
shown fs = flat (map (λ (f : Frame). f.page ∷ one_of f.written ∷ []) fs)

-- A cache of three pages that starts with page 3, which was written, and page 7, which was not.
abbrev pub started : List Frame
started = framed 3 true ∷ framed 7 false ∷ blank ∷ []

-- The second transfers of a replay from the empty cache with K pages: as LRU has them, and as its events buffer tells them.
abbrev pub transfers : ℕ → List ℕ → List ℕ
transfers K f = second_transfers (replay_of f K (empty K) 0).events ∷ told_transfers (summary_of f K (empty K) 0).fetches (events_after f K (empty K) 0 places) ∷ []

-- Page 1 is written at 20, between two reads of its first phase, and read again behind page 2.
abbrev pub later_phase : List ℕ
later_phase = file (1 at 10 ∷ 1 writes 20 ∷ 1 at 30 ∷ 2 at 40 ∷ 1 at 50 ∷ [])

-- Page 1 is written, and then read twice.
abbrev pub kept_write : List ℕ
kept_write = file (1 writes 10 ∷ 1 at 20 ∷ 1 at 30 ∷ [])

-- Page 1 goes clean, comes in again by a write, and goes written.
abbrev pub in_and_out : List ℕ
in_and_out = file (1 at 10 ∷ 2 at 20 ∷ 1 writes 30 ∷ 2 at 40 ∷ [])

-- What is computed, and what the words of the change request come to.
abbrev pub written : List Example
written =
    -- "The last kept item of a page in an epoch becomes a write if any dropped item of that page in that epoch was one": those at 30 and 110 do, and that at 60 is one.
    (times cut_W says 10 ∷ 30 ∷ 40 ∷ 50 ∷ 60 ∷ 70 ∷ 80 ∷ 90 ∷ 110 ∷ [])
    ∷ (writes_of cut_W says 0 ∷ 1 ∷ 0 ∷ 0 ∷ 1 ∷ 0 ∷ 0 ∷ 0 ∷ 1 ∷ [])
    -- Page 1 is written in the first file and evicted in the second: of the recording and of the join, the fetch at 50 has the 2. So has that at 90, which evicts page 4.
    ∷ (fetches 2 (file W) says
    10 ∷ 1 ∷ 0 ∷ 0 ∷ 40 ∷ 2 ∷ 0 ∷ 0 ∷ 50 ∷ 3 ∷ 1 ∷ 2 ∷ 60 ∷ 4 ∷ 2 ∷ 1 ∷ 90 ∷ 1 ∷ 4 ∷ 2 ∷ [])
    ∷ (fetches 2 cut_W says
    10 ∷ 1 ∷ 0 ∷ 0 ∷ 40 ∷ 2 ∷ 0 ∷ 0 ∷ 50 ∷ 3 ∷ 1 ∷ 2 ∷ 60 ∷ 4 ∷ 2 ∷ 1 ∷ 90 ∷ 1 ∷ 4 ∷ 2 ∷ [])
    -- "The written marks at the end": page 1 was written since its fetch, and page 3 was not.
    ∷ (shown (frames_after (file W) 2 (empty 2) 0 48) says 1 ∷ 1 ∷ 3 ∷ 0 ∷ [])
    ∷ (shown (frames_after cut_W 2 (empty 2) 0 48) says 1 ∷ 1 ∷ 3 ∷ 0 ∷ [])
    -- Two fetches cost a second transfer.
    ∷ (transfers 2 (file W) says 2 ∷ 2 ∷ [])
    ∷ (transfers 2 cut_W says 2 ∷ 2 ∷ [])
    -- "From any starting marks": page 3 is only read, and is written at the end as it was at the start.
    ∷ (shown (frames_after (file W) 3 started 2 48) says 1 ∷ 1 ∷ 3 ∷ 1 ∷ 4 ∷ 1 ∷ [])
    ∷ (shown (frames_after cut_W 3 started 2 48) says 1 ∷ 1 ∷ 3 ∷ 1 ∷ 4 ∷ 1 ∷ [])
    -- FastSlim drops the write at 20 in one phase; the item at 30, the last of that phase, stays a read, and that at 50, the last of the epoch, becomes a write.
    ∷ (times (fastslim 2 later_phase) says 10 ∷ 30 ∷ 40 ∷ 50 ∷ [])
    ∷ (writes_of (fastslim 2 later_phase) says 0 ∷ 0 ∷ 0 ∷ 1 ∷ [])
    -- A write that is kept marks nothing else.
    ∷ (times (demand 1 kept_write) says 10 ∷ 30 ∷ [])
    ∷ (writes_of (demand 1 kept_write) says 1 ∷ 0 ∷ [])
    -- "A write item that is itself the fetch counts as written": page 1 goes clean at 20, and written at 40.
    ∷ (fetches 1 in_and_out says
    10 ∷ 1 ∷ 0 ∷ 0 ∷ 20 ∷ 2 ∷ 1 ∷ 1 ∷ 30 ∷ 1 ∷ 2 ∷ 1 ∷ 40 ∷ 2 ∷ 1 ∷ 2 ∷ [])
    ∷ []

-- Every one of them holds.
pub written_hold : map (λ (e : Example). e.found) written ≡ map (λ (e : Example). e.paper) written
unfolding reduced_file reduced_header kept_of mode_of reduce epochs cut marked settle keeps phase is_first is_last pages joined_file joined_header joined_kind
    replay_verdict summary_of replay_of frames_after events_after bad_start twice replay ◌then◌ step hit fetch words word cost tally tallied is_fetch is_eviction per_million
    second_transfers told_transfers has add dirty taken flat over
    encode encode_header encode_items encode_item tag_of field bytes verdict first verdicts.◌then◌ items_verdict is_item is_field allowed header items items_of item_at item number_at number
written_hold = refl

-- ---- page 2^64−1

-- A recording of a pool that numbers its pages from the top: pages 0 and 2^64−1, a write of that at 30, and pages that make both go.
abbrev pub U : List Item
U = 0 at 10 ∷ top at 20 ∷ top writes 30 ∷ top at 40 ∷ 1 at 50 ∷ 2 at 60 ∷ 0 at 70 ∷ []

-- It is cut after time 40, reduced by demand and by FastSlim, with B = 2, and joined.
abbrev pub cut_U : List ℕ
cut_U = joined_file (demand 2 (file (take 4 U))) (fastslim 2 (file (drop 4 U)))

-- A cache of three pages that starts with page 2^64−1, which was written, and page 5, which was not.
abbrev pub from_top : List Frame
from_top = framed top true ∷ framed 5 false ∷ blank ∷ []

-- What is computed, and what the words of the change request come to.
abbrev pub numbered : List Example
numbered =
    -- "Every 64-bit page is valid in items": of page 2^64−1 the first and the last item of the epoch are kept, and the last becomes a write.
    (pages_of cut_U says 0 ∷ top ∷ top ∷ 1 ∷ 2 ∷ 0 ∷ [])
    ∷ (writes_of cut_U says 0 ∷ 0 ∷ 1 ∷ 0 ∷ 0 ∷ 0 ∷ [])
    -- "The third number of an event is 0, printed `-`, where nothing was evicted": at 10 and 20. At 50 page 0 goes, and the fourth number is 1; at 60 page 2^64−1 goes, written.
    ∷ (fetches 2 (file U) says 10 ∷ 0 ∷ 0 ∷ 0 ∷ 20 ∷ top ∷ 0 ∷ 0 ∷ 50 ∷ 1 ∷ 0 ∷ 1 ∷ 60 ∷ 2 ∷ top ∷ 2 ∷ 70 ∷ 0 ∷ 1 ∷ 1 ∷ [])
    ∷ (fetches 2 cut_U says 10 ∷ 0 ∷ 0 ∷ 0 ∷ 20 ∷ top ∷ 0 ∷ 0 ∷ 50 ∷ 1 ∷ 0 ∷ 1 ∷ 60 ∷ 2 ∷ top ∷ 2 ∷ 70 ∷ 0 ∷ 1 ∷ 1 ∷ [])
    -- "And in a starting cache": page 2^64−1 is there at 20, and goes last, written, at 70.
    ∷ (take 16 (events_after (file U) 3 from_top 2 places) says 10 ∷ 0 ∷ 0 ∷ 0 ∷ 50 ∷ 1 ∷ 5 ∷ 1 ∷ 60 ∷ 2 ∷ 0 ∷ 1 ∷ 70 ∷ 0 ∷ top ∷ 2 ∷ [])
    ∷ (take 16 (events_after cut_U 3 from_top 2 places) says 10 ∷ 0 ∷ 0 ∷ 0 ∷ 50 ∷ 1 ∷ 5 ∷ 1 ∷ 60 ∷ 2 ∷ 0 ∷ 1 ∷ 70 ∷ 0 ∷ top ∷ 2 ∷ [])
    ∷ (shown (frames_after (file U) 3 from_top 2 48) says 0 ∷ 0 ∷ 2 ∷ 0 ∷ 1 ∷ 0 ∷ [])
    ∷ (shown (frames_after cut_U 3 from_top 2 48) says 0 ∷ 0 ∷ 2 ∷ 0 ∷ 1 ∷ 0 ∷ [])
    ∷ []

-- Every one of these holds too.
pub numbered_hold : map (λ (e : Example). e.found) numbered ≡ map (λ (e : Example). e.paper) numbered
unfolding reduced_file reduced_header kept_of mode_of reduce epochs cut marked settle keeps phase is_first is_last pages joined_file joined_header joined_kind
    replay_verdict summary_of replay_of frames_after events_after bad_start twice replay ◌then◌ step hit fetch words word cost tally tallied is_fetch is_eviction per_million
    has add dirty taken flat over
    encode encode_header encode_items encode_item tag_of field bytes verdict first verdicts.◌then◌ items_verdict is_item is_field allowed header items items_of item_at item number_at number
numbered_hold = refl
