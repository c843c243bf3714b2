-- The last item of each page of a row, and the note of it, when the row has one item more. Assumes nothing.
use Prim.Native.Nat.{ℕ, suc, ◌+◌, ◌<◌}
use mathlib.Core.Path.{◌≡◌, refl, sym, ap}
use mathlib.Core.Logic.{◌≢◌}
use mathlib.Core.Bool.{true, false, cond, ◌||◌, or_assoc, or-false, or-true}
use mathlib.Core.List.{List, [], ◌∷◌, ◌++◌}
use lib.ListN.{length, set}
use lib.Seq.{get_or-set_same, get_or-set_other}
use lib.Dec.{eqb}
use borrow.Author.Tests.{eqb-false}
use Rattle.pages.specs.Pages.{has, add, place}
use Rattle.pages.proofs.Choice.{split, same, eqb_self}
use Rattle.trace.specs.declared.Item.{Item}
use Rattle.epochs.specs.Epochs.{pages}
use Rattle.slim.specs.Passes.{last_place, Noted}
use Rattle.pages.proofs.Table.{place-add, place_added, place_same}

module _ (x : Item) where
  -- A row with one item more has that item's page and what it had.
  pub has_more : (p : ℕ) (u : List Item) → has p (pages (u ++ (x ∷ []))) ≡ has p (pages u) || eqb p x.page
  unfolding has pages
  has_more p [] = or-false (eqb p x.page)
  has_more p (i ∷ u) = rw (has_more p u) (sym (or_assoc (eqb p i.page) (has p (pages u)) (eqb p x.page)))

  -- The item more is the last of its page.
  pub last_place_here : (u : List Item) → last_place x.page (u ++ (x ∷ [])) ≡ length u
  unfolding has pages last_place
  last_place_here [] = refl
  last_place_here (i ∷ u) = rw (has_more x.page u, eqb_self x.page, or-true) (ap suc (last_place_here u))

  -- Of another page the last item stays.
  pub last_place_other : (p : ℕ) (u : List Item) → eqb p x.page ≡ false → last_place p (u ++ (x ∷ [])) ≡ last_place p u
  unfolding has pages last_place
  last_place_other p [] h = refl
  last_place_other p (i ∷ u) h = rw (has_more p u, h, or-false) (ap (λ (n : ℕ). cond (has p (pages u)) (suc n) 0) (last_place_other p u h))

-- What is noted of a row whose pages are all in the filter, with one item more: its number is noted at the place of its page, which is added to the filter.
pub noted_more : (from k : ℕ) (u : List Item) (x : Item) (filter last : List ℕ) → ((q : ℕ) → has q (pages u) ≡ true → has q filter ≡ true)
    → place x.page filter < length last → k ≡ from + length u → Noted from u filter last
    → Noted from (u ++ (x ∷ [])) (add x.page filter) (set last (place x.page filter) k)
noted_more from k u x filter last among l e n q h =
    split (eqb q x.page)
    (λ f. rw (same q x.page f, place_added x.page filter, get_or-set_same last (place x.page filter) k 0 l, last_place_here x u) e)
    (λ f. let g : has q (pages u) ≡ true = rw (has_more x q u, f, or-false) at h in
    let d : place q filter ≢ place x.page filter = λ z. eqb-false q x.page f (place_same x.page q filter (among q g) z) in
    rw (place-add q x.page filter (among q g), get_or-set_other last (place x.page filter) (place q filter) k 0 d, last_place_other x q u f) (n q g))
