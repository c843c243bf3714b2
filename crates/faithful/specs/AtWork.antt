-- Demand 3 on trace T: cut in three, each file reduced in its own way, joined in both bracketings, and replayed from a start with pages, of which some were written.
-- Set up here; what demand 3 promises of it is in `proofs/AtWork.antt`. Assumes nothing.
use Rattle.std.specs.Prelude.{ℕ, ◌≡◌, refl, true, false, List, [], ◌∷◌, map, take, drop, replicate}
use Rattle.pages.specs.Rows.{flat}
use Rattle.pages.specs.Pages.{has, add}
use Rattle.frames.specs.Frames.{framed, dirty, taken}
use Rattle.frames.specs.declared.Frame.{Frame}
use Rattle.trace.specs.Bytes.{number, number_at, bytes}
use Rattle.trace.specs.Layout.{tag_of, field, encode_header, encode_item, encode_items, encode, header, item, items_of, items}
use Rattle.trace.specs.Examples.{T}
use Rattle.trace.specs.declared.Item.{Item}
use Rattle.epochs.specs.Epochs.{pages, cut, epochs}
use Rattle.epochs.specs.Keep.{is_first, is_last, phase, keeps, settle, marked, reduce}
use Rattle.slim.specs.Reduce.{mode_of, kept_of, reduced_header, reduced_file}
use Rattle.join.specs.Join.{joined_kind, joined_header, joined_file}
use Rattle.join.specs.Trees.{Tree, joined}
use Rattle.join.specs.Trees.Tree.{one, both}
use Rattle.lru_cache.specs.Lru.{hit, fetch, step, ◌then◌, replay, word, cost, words}
use Rattle.epochs.specs.declared.Mode.TheVariants.{FastSlim, Demand}
use Rattle.faithful.specs.Parts.{Part}
use Rattle.faithful.specs.Demand3.{short}
use Rattle.faithful.specs.Corollaries.{portion_of, second_transfers}

-- T up to time 50, from 60 to 80, and from 90 on; by FastSlim-Demand, FastSlim and FastSlim-Demand, with filters of 2, 3 and 1 pages.
abbrev pub beginning : Part
beginning = record { mode = Demand; size = 2; items = take 5 T }

abbrev pub middle : Part
middle = record { mode = FastSlim; size = 3; items = take 3 (drop 5 T) }

abbrev pub end : Part
end = record { mode = Demand; size = 1; items = drop 8 T }

abbrev pub three : List Part
three = beginning ∷ middle ∷ end ∷ []

-- The reduced file of a part.
abbrev pub short_of : Part → List ℕ
short_of p = short (portion_of p)

-- The first two joined first, and the last two.
abbrev pub left_first : Tree
left_first = both (both (one (short_of beginning)) (one (short_of middle))) (one (short_of end))

abbrev pub right_first : Tree
right_first = both (one (short_of beginning)) (both (one (short_of middle)) (one (short_of end)))

-- A row of four frames for a cache of three pages, which starts with pages 9, 1 and 4, the first two of them written; and an events buffer with room for the join alone, 40 places
-- for its 10 items.
abbrev pub lent_cache : List Frame
lent_cache = framed 9 true ∷ framed 1 true ∷ framed 4 false ∷ framed 0 false ∷ []

abbrev pub lent_events : List ℕ
lent_events = replicate 40 7

-- What both bracketings come to is one file: of kind 2, with the largest filter, the recording's 12 references, and all its items but those at 20 and 30.
both_ways : (joined left_first ≡ joined right_first)
    × (header (joined left_first) ≡ record { kind = 2; filter = 3; references = 12; items = 10 })
    × (map (λ (i : Item). i.time) (items (joined left_first)) ≡ 10 ∷ 40 ∷ 50 ∷ 60 ∷ 70 ∷ 80 ∷ 90 ∷ 100 ∷ 110 ∷ 120 ∷ [])
unfolding joined short joined_file joined_header joined_kind reduced_file reduced_header kept_of mode_of reduce epochs cut marked settle keeps phase is_first is_last pages has add flat
    encode encode_header encode_items encode_item tag_of field bytes header items items_of item number_at number
both_ways = (refl, refl, refl)

-- What LRU does with T from that start: page 1 is there; 2 evicts 4, which is clean, 3 evicts 9, which was written, and 4 evicts 2, which is clean; at the end 1, 3 and 4 are
-- there, and 1, which T only reads, is written as it was at the start.
pub fetches_of_T : words (replay 3 (take 3 lent_cache) T).events ≡ 40 ∷ 2 ∷ 4 ∷ 1 ∷ 60 ∷ 3 ∷ 9 ∷ 2 ∷ 80 ∷ 4 ∷ 2 ∷ 1 ∷ []
unfolding replay ◌then◌ step hit fetch words word cost has dirty taken
fetches_of_T = refl

pub residents_of_T : (replay 3 (take 3 lent_cache) T).final ≡ framed 1 true ∷ framed 3 false ∷ framed 4 false ∷ []
unfolding replay ◌then◌ step hit fetch has dirty taken
residents_of_T = refl

-- One of the three fetches costs a second transfer: that of 3, which evicts 9.
pub transfers_of_T : second_transfers (replay 3 (take 3 lent_cache) T).events ≡ 1
unfolding second_transfers replay ◌then◌ step hit fetch cost has dirty taken
transfers_of_T = refl
