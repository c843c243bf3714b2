-- The list of a replay is a list of distinct pages with room for K after every trace. Assumes nothing.
use Prim.Native.Nat.{ℕ, suc, ◌≤◌}
use mathlib.Core.Path.{◌≡◌, refl, sym, ap, ◌∙◌}
use mathlib.Core.Bool.{true}
use mathlib.Core.List.{List, [], ◌∷◌, drop_last}
use lib.ListN.{length, length-map}
use lib.Dec.{ltb}
use borrow.Author.Tests.{ltb-true}
use Rattle.pages.specs.Pages.{has, remove, Distinct}
use Rattle.pages.proofs.Choice.{split}
use Rattle.pages.proofs.Pages.{removed, distinct_remove, length_move, has_init, distinct_init}
use Rattle.frames.specs.Frames.{pages_of, taken}
use Rattle.frames.specs.declared.Frame.{Frame}
use Rattle.frames.proofs.Columns.{pages-taken, pages_init}
use Rattle.trace.specs.declared.Item.{Item}
use Rattle.lru_cache.specs.Lru.{hit, fetch, step, ◌then◌, replay}
use Rattle.lru_cache.specs.Promises.{Fine, StaysFine}

-- There are as many pages as frames.
pub pages-count : (s : List Frame) → length (pages_of s) ≡ length s
pages-count s = length-map s (λ (f : Frame). f.page)

-- A page's frame moves: there are as many as there were.
pub taken-count : (p : ℕ) (s : List Frame) → has p (pages_of s) ≡ true → suc (length (taken p s)) ≡ length s
taken-count p s h = ap suc (sym (pages-count (taken p s)) ∙ ap length (pages-taken p s)) ∙ length_move p (pages_of s) h ∙ pages-count s

module _ (K : ℕ) (pos : 1 ≤ K) where
  full : (s : List Frame) → length s ≤ K → suc (length (drop_last s)) ≤ K
  full [] g = pos
  full (f ∷ []) g = pos
  full (f ∷ e ∷ s) g = rw (init_count f e s) g
    where
      init_count : (f e : Frame) (s : List Frame) → length (drop_last (f ∷ e ∷ s)) ≡ suc (length s)
      init_count f e [] = refl
      init_count f e (d ∷ s) = ap suc (init_count e d s)

  step_fine : (s : List Frame) (i : Item) → Fine K s → Fine K (step K s i).final
  unfolding step hit fetch
  step_fine s i f =
      let p = i.page in
      let l = pages_of s in
      let moved : Distinct (p ∷ remove p l) = (removed p l f.distinct, distinct_remove p l f.distinct) in
      split (has p l)
      (λ h. rw h (record { distinct = rw (pages-taken p s) moved; room = rw (taken-count p s h) f.room }))
      (λ h. split (ltb (length s) K)
      (λ t. rw (h, t) (record { distinct = (h, f.distinct); room = ltb-true (length s) K t }))
      (λ t. rw (h, t) (record { distinct = rw (pages_init s) (has_init p l h, distinct_init l f.distinct); room = full s f.room })))

-- A list of distinct pages with room for K stays one, whatever the trace.
pub stays_fine : StaysFine
unfolding replay ◌then◌
stays_fine K pos s [] f = f
stays_fine K pos s (i ∷ t) f = stays_fine K pos (step K s i).final t (step_fine K pos s i f)
