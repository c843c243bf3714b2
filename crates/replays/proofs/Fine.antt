-- Distinct pages with room for K are a start that is not refused, and no other is. Assumes nothing.
use Prim.Native.Nat.{ℕ}
use mathlib.Core.Path.{◌≡◌, refl}
use mathlib.Core.Bool.{false, ◌||◌}
use mathlib.Core.List.{List, [], ◌∷◌}
use native.Mathlib.Omega.{arith}
use lib.ListN.{length, take, length-take}
use lib.Dec.{ltb}
use borrow.Author.Tests.{ltb-false, le-ltb}
use Rattle.pages.specs.Pages.{has, Distinct}
use Rattle.pages.proofs.Choice.{or_false}
use Rattle.frames.specs.Frames.{pages_of}
use Rattle.frames.proofs.Columns.{pages-take}
use Rattle.lru_cache.proofs.Room.{pages-count}
use Rattle.replays.specs.Replay.{twice, bad_start}
use Rattle.replays.specs.Promises.{StartsFine, FineStarts}

-- Whether a page stands twice, both ways.
distinct_once : (l : List ℕ) → twice l ≡ false → Distinct l
unfolding twice
distinct_once [] e = tt
distinct_once (p ∷ l) e = let z = or_false (has p l) (twice l) e in (z.0, distinct_once l z.1)

once_distinct : (l : List ℕ) → Distinct l → twice l ≡ false
unfolding twice
once_distinct [] d = refl
once_distinct (p ∷ l) d = rw d.0 (once_distinct l d.1)

-- Distinct pages, no more than K, in a row with room for K, are not refused.
pub fine_starts : FineStarts
unfolding bad_start
fine_starts K frames resident few places d =
    rw (le-ltb K resident few, pages-count frames, le-ltb (length frames) K places, once_distinct (take resident (pages_of frames)) (rw (pages-take resident frames) at d))

-- A start that is not refused is a list of distinct pages with room for K.
pub starts_fine : StartsFine
unfolding bad_start
starts_fine K frames resident e =
    let cache = pages_of frames in
    let s = take resident cache in
    let a = or_false (ltb K resident) (ltb (length cache) K || twice s) e in
    let b = or_false (ltb (length cache) K) (twice s) a.1 in
    let h = ltb-false K resident a.0 in
    record { distinct = rw (pages-take resident frames) (distinct_once s b.1); room = rw length-take (omega arith) }
