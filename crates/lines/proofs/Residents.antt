-- No more pages are resident than were at the start or were fetched. Assumes nothing.
use Prim.Native.Nat.{ℕ, ◌+◌, ◌≤◌}
use mathlib.Core.List.{List, [], ◌∷◌, drop_last}
use native.Mathlib.Omega.{arith}
use lib.ListN.{length, length-append}
use lib.Dec.{ltb}
use Rattle.pages.specs.Pages.{has}
use Rattle.pages.proofs.Choice.{split}
use Rattle.frames.specs.Frames.{pages_of}
use Rattle.frames.specs.declared.Frame.{Frame}
use Rattle.trace.specs.declared.Item.{Item}
use Rattle.lru_cache.specs.Lru.{hit, fetch, step, ◌then◌, replay}
use Rattle.lru_cache.proofs.Room.{taken-count}

init_few : (s : List Frame) → length (drop_last s) ≤ length s
init_few [] = omega arith
init_few (f ∷ []) = omega arith
init_few (f ∷ g ∷ s) = omega (arith, init_few (g ∷ s))

step_few : (K : ℕ) (s : List Frame) (i : Item) → length (step K s i).final ≤ length s + length (step K s i).events
unfolding step hit fetch
step_few K s i =
    split (has i.page (pages_of s))
    (λ h. rw h (omega (arith, taken-count i.page s h)))
    (λ h. split (ltb (length s) K) (λ l. rw (h, l) (omega arith)) (λ l. rw (h, l) (omega (arith, init_few s))))

pub residents_few : (K : ℕ) (s : List Frame) (t : List Item) → length (replay K s t).final ≤ length s + length (replay K s t).events
unfolding replay ◌then◌
residents_few K s [] = omega arith
residents_few K s (i ∷ t) =
    let o = step K s i in
    rw length-append (omega (arith, step_few K s i, residents_few K o.final t))
