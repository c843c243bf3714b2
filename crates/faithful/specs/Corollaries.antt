-- What follows from demand 3, and that its premises can be met. Assumes nothing.
use Rattle.std.specs.Prelude.{ℕ, zero, suc, ◌*◌, ◌≤◌, ◌≡◌, cond, List, [], ◌∷◌, map, length, get_or, take, drop, eqb}
use Rattle.limits.proofs.Numbers.{items_most, filter_least, filter_most}
use Rattle.pages.specs.Rows.{All}
use Rattle.frames.specs.declared.Frame.{Frame}
use Rattle.trace.specs.Layout.{header, items, encode}
use Rattle.trace.specs.Promises.{IsFile}
use Rattle.trace.specs.Examples.{whole}
use Rattle.trace.specs.declared.Item.{Item}
use Rattle.epochs.specs.declared.Mode.{Mode}
use Rattle.epochs.specs.declared.Mode.TheVariants.{FastSlim, Demand}
use Rattle.join.specs.Trees.{Tree, files, joined, Within}
use Rattle.lru_cache.specs.Lru.{Event, replay, cost}
use Rattle.replays.specs.Replay.{replay_of, frames_after, events_after}
use Rattle.faithful.specs.Parts.{Part, recorded}
use Rattle.faithful.specs.Demand3.{IsRecording, Portion, IsCut, short, IsJoinOf, IsCache, ReplaysAs, Faithful}

-- ---- "cut anywhere"

-- "A reduction's mode is the kind it writes."
abbrev pub mode_number : Mode → ℕ
mode_number FastSlim = 1
mode_number Demand = 2

-- Items as a whole file.
abbrev pub whole_file : List Item → List ℕ
whole_file u = encode (whole (length u)) u

-- A part of a recording as a portion: its items as a whole file.
abbrev pub portion_of : Part → Portion
portion_of p = record { file = whole_file p.items; mode = mode_number p.mode; size = p.size }

-- A part has no more items than a file can, and its filter size is in its range.
pub record FitsAFile (p : Part) : Type 0 where
  pub few : length p.items ≤ items_most
  pub least : filter_least ≤ p.size
  pub most : p.size ≤ filter_most

-- Any recording, of any length, wherever it is cut into such parts, is cut into files: "longer recordings are cut into files".
abbrev pub CutAnywhere : Type 0
CutAnywhere = (ps : List Part) → IsRecording (recorded ps) → All FitsAFile ps → IsCut (recorded ps) (map portion_of ps)

-- ---- any bracketing

-- Where the joins are within the limits in one bracketing they are in any other, which comes to the same file.
abbrev pub AnyBracketing : Type 0
AnyBracketing =
    (t : List Item) → IsRecording t
    → (ps : List Portion) → IsCut t ps
    → (i j : Tree) → IsJoinOf ps i → files j ≡ map short ps
    → IsJoinOf ps j × (joined i ≡ joined j)

-- ---- "a written page costs a transfer when it is evicted"

-- How many of some fetches cost a second transfer, since the page that they evicted was written.
unfoldable pub second_transfers : List Event → ℕ
second_transfers [] = 0
second_transfers (e ∷ es) = cond (eqb (cost e.evicted) 2) (suc (second_transfers es)) (second_transfers es)

-- The same, of the first n fetches in an events buffer: how many of their fourth numbers are 2, "a written one".
unfoldable pub told_transfers : ℕ → List ℕ → ℕ
told_transfers zero b = 0
told_transfers (suc n) b = let more = told_transfers n (drop 4 b) in cond (eqb (get_or b 3 0) 2) (suc more) more

-- The replay of file f costs as many second transfers as LRU does with the items t, and the events buffer tells them.
pub record CostsAs (t : List Item) (f : List ℕ) (K : ℕ) (frames : List Frame) (resident : ℕ) (events : List ℕ) : Type 0 where
  pub as_many : second_transfers (replay_of f K frames resident).events ≡ second_transfers (replay K (take resident frames) t).events
  pub told : told_transfers (length (replay K (take resident frames) t).events) (events_after f K frames resident events)
      ≡ second_transfers (replay K (take resident frames) t).events

-- Under the premises of demand 3 the join costs as many second transfers as the recording.
abbrev pub SecondTransfersAlike : Type 0
SecondTransfersAlike =
    (t : List Item) → IsRecording t
    → (ps : List Portion) → IsCut t ps
    → (j : Tree) → IsJoinOf ps j
    → (K : ℕ) (frames : List Frame) (resident : ℕ) → IsCache ps K frames resident
    → (events : List ℕ) → 4 * (header (joined j)).items ≤ length events
    → CostsAs t (joined j) K frames resident events

-- ---- a recording that is one file

-- Two files replay alike: neither replay is refused, they leave the same in both buffers, both answer the fetches, evictions and residents of LRU on the second file's items, and
-- they cost as many second transfers.
pub record SameReplay (f g : List ℕ) (K : ℕ) (frames : List Frame) (resident : ℕ) (events : List ℕ) : Type 0 where
  pub first_as : ReplaysAs (items g) f K frames resident events
  pub second_as : ReplaysAs (items g) g K frames resident events
  pub events_same : events_after f K frames resident events ≡ events_after g K frames resident events
  pub residents_same : frames_after f K frames resident (length events) ≡ frames_after g K frames resident (length events)
  pub transfers_same : second_transfers (replay_of f K frames resident).events ≡ second_transfers (replay_of g K frames resident).events

-- Where the recording is itself a file of kind 0, every join is within the limits; so with room for the join the joined file replays as the recording, and with
-- room for that file it replays like that file.
abbrev pub LikeTheWholeFile : Type 0
LikeTheWholeFile =
    (g : List ℕ) → IsFile g → (header g).kind ≡ 0
    → (ps : List Portion) → IsCut (items g) ps
    → (j : Tree) → files j ≡ map short ps
    → Within j
    × ((K : ℕ) (frames : List Frame) (resident : ℕ) → IsCache ps K frames resident
    → (events : List ℕ)
    → (4 * (header (joined j)).items ≤ length events → Faithful (items g) ps j K frames resident events)
    × (4 * (header g).items ≤ length events → SameReplay (joined j) g K frames resident events))
