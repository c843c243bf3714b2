-- The two passes over a stretch of a trace, an epoch or a phase: what the code's functions are told, and what they leave. Assumes nothing.
use Rattle.std.specs.Prelude.{ℕ, suc, ◌+◌, ◌-◌, ◌*◌, ◌^◌, ◌≤◌, ◌<◌, ◌≡◌, true, false, cond, List, [], ◌∷◌, length, get_or, take, eqb}
use Rattle.std.proofs.lemmas.List.Edits.{sets}
use Rattle.limits.proofs.Numbers.{filter_most}
use Rattle.pages.specs.Pages.{has, place}
use Rattle.trace.specs.Layout.{items_from, encode_items}
use Rattle.trace.specs.Promises.{AreBytes}
use Rattle.trace.specs.declared.Item.{Item}
use Rattle.filter.specs.Filter.{Clear}
pub use Rattle.filter.specs.Filter.{flags_set}
use Rattle.epochs.specs.Epochs.{pages, touched, cut}
use Rattle.epochs.specs.Keep.{kept, lost, settled}
use Rattle.epochs.specs.declared.Mode.{Mode}
use Rattle.epochs.specs.declared.Mode.TheVariants.{FastSlim, Demand}

-- How many pages a stretch may leave in the filter that holds some: an epoch's, or for a phase one more.
unfoldable pub limit : Mode → ℕ → ℕ → ℕ
limit FastSlim B held = held + 1
limit Demand B held = B

-- How many items stand before the last of page p in a row that has one.
unfoldable pub last_place : ℕ → List Item → ℕ
last_place p [] = 0
last_place p (i ∷ t) = cond (has p (pages t)) (suc (last_place p t)) 0

-- For each page of the row w, whose first item is item `from`, the number of its last item is noted at the page's place in the filter.
abbrev pub Noted : ℕ → List Item → List ℕ → List ℕ → Type 0
Noted from w filter last = (p : ℕ) → has p (pages w) ≡ true → get_or last (place p filter) 0 ≡ from + last_place p w

-- ---- the first pass

-- From item `from` of n on, with a filter of `held` pages that may come to hold `most`.
pub record CanLook (file : List ℕ) (n from most held : ℕ) : Type 0 where
  pub file_long : 23 + 19 * n ≤ length file
  pub few : n < 4294967296
  pub within : from ≤ n
  pub holds : held ≤ most
  pub room : most ≤ filter_most

-- The stretch from item `from` on is found. The filter, which held the pages seen, holds the stretch's too, and notes the last item of each page of the stretch.
pub record Looked (file : List ℕ) (n from most : ℕ) (seen : List ℕ) (end : ℕ) (filter last : List ℕ) : Type 0 where
  pub stretch_is : (cut most seen (items_from file from (n - from))).here ≡ items_from file from (end - from)
  pub filter_is : filter ≡ touched seen (items_from file from (end - from))
  pub last_noted : Noted from (items_from file from (end - from)) filter last

pub record Within (n from most end held : ℕ) : Type 0 where
  pub begins : from ≤ end
  pub ends : end ≤ n
  pub holds : held ≤ most

-- ---- the second pass

-- From item k up to item `skip` none is one of these.
pub record NoneNoted (items : List ℕ) (k skip : ℕ) : Type 0 where
  pub none : (i : ℕ) → k ≤ i → i < skip → has i items ≡ false

-- The stretch from item `from` up to item `end`, where the filter had `had` pages before it; no flag behind them is set.
pub record CanKeep (file : List ℕ) (from end had done : ℕ) (filter last flags out : List ℕ) : Type 0 where
  pub file_long : 23 + 19 * end ≤ length file
  pub within : from ≤ end
  pub before : had ≤ length filter
  pub filter_is : filter ≡ touched (take had filter) (items_from file from (end - from))
  pub clear : Clear had flags
  pub last_noted : Noted from (items_from file from (end - from)) filter last
  pub room : 23 + 19 * (done + (end - from)) ≤ length out

-- What is kept of it: each item that is the first of its page in the epoch, or the last of it in the stretch.
abbrev pub kept_there : List ℕ → ℕ → ℕ → ℕ → List ℕ → List Item
kept_there file from end had filter = kept Demand (take had filter) (items_from file from (end - from))

-- A flag for each place of the filter says whether its page is owed a write. No other page is.
pub record Owes (filter flags owed : List ℕ) : Type 0 where
  pub flagged : (p : ℕ) → has p filter ≡ true → eqb (get_or flags (place p filter) 0) 1 ≡ has p owed
  pub among : (p : ℕ) → has p filter ≡ false → has p owed ≡ false

-- The flags after the stretch, whatever was owed before it: none is set behind the filter's.
pub record Flags (file : List ℕ) (from end had : ℕ) (filter flags flags' : List ℕ) : Type 0 where
  pub clear : Clear (length filter) flags'
  pub owes : (owed : List ℕ) → Owes (take had filter) flags owed
      → Owes filter flags' (lost Demand (take had filter) owed (items_from file from (end - from)))

-- ---- back over an epoch

-- The items of the epoch are in the output from item `from` up to item `to`, and no flag behind those of the `held` places is set.
pub record CanMend (from to held : ℕ) (out flags : List ℕ) : Type 0 where
  pub within : from ≤ to
  pub room : 23 + 19 * to ≤ length out
  pub clear : Clear held flags

-- Pages and times are numbers of 64 bits.
abbrev pub Fit : List Item → Type 0
Fit [] = Unit {0}
Fit (i ∷ u) = (i.page < 2 ^ 64) × (i.time < 2 ^ 64) × Fit u

-- The items u stand in the output, over what it was before them; their pages are in the filter, and the flags say which of them are owed a write.
pub record Stand (filter flags : List ℕ) (from to : ℕ) (out old : List ℕ) (u : List Item) (owed : List ℕ) : Type 0 where
  pub wrote : out ≡ sets old (23 + 19 * from) (encode_items u)
  pub count : to ≡ from + length u
  pub fit : Fit u
  pub known : (p : ℕ) → has p (pages u) ≡ true → has p filter ≡ true
  pub owes : Owes filter flags owed

-- Then they stand there settled: the last item of each page that is owed a write has become one.
pub record Mended (filter flags : List ℕ) (from to : ℕ) (out out' : List ℕ) : Type 0 where
  pub settles : (old : List ℕ) (u : List Item) (owed : List ℕ) → Stand filter flags from to out old u owed
      → out' ≡ sets old (23 + 19 * from) (encode_items (settled owed u))

-- ---- all stretches

pub record CanSlim (file : List ℕ) (n size held : ℕ) (owed out : List ℕ) : Type 0 where
  pub file_long : 23 + 19 * n ≤ length file
  pub count : n < 4294967296
  pub some : 1 ≤ size
  pub few : size ≤ filter_most
  pub empty : held ≡ 0
  pub clear : Clear 0 owed
  pub octets : AreBytes file
  pub fits : 23 + 19 * n ≤ length out
