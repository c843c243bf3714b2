-- Laws of a log: what a use at its end, a stale place at its front, and its last places alone do to the order. Assumes nothing.
use Prim.Native.Nat.{ℕ, ◌≤◌}
use mathlib.Core.Path.{◌≡◌, refl, ap, ◌∙◌}
use mathlib.Core.Bool.{Bool, true, false, ◌||◌}
use mathlib.Core.List.{List, [], ◌∷◌, ◌++◌, append-nil, reverse, reverse-cons}
use native.Mathlib.Omega.{arith}
use lib.ListN.{length, length-reverse}
use lib.Dec.{eqb}
use Rattle.pages.specs.Pages.{has, remove, Distinct}
use Rattle.pages.proofs.Choice.{split, same, eqb_sym}
use Rattle.pages.proofs.Added.{has_join}
use Rattle.pages.proofs.Pages.{remove-append, remove_absent, remove-snoc}
use Rattle.recency.specs.Order.{lasts, order}

-- ---- the last places

module _ (x : ℕ) (l : List ℕ) where
  pub lasts_stale : has x l ≡ true → lasts (x ∷ l) ≡ lasts l
  unfolding lasts
  lasts_stale h = rw h

  pub lasts_live : has x l ≡ false → lasts (x ∷ l) ≡ x ∷ lasts l
  unfolding lasts
  lasts_live h = rw h

  -- A stale place in front does not count,
  pub order_stale : has x l ≡ true → order (x ∷ l) ≡ order l
  unfolding order
  order_stale h = rw (lasts_stale h)

  -- and one that is not is the last of the order.
  pub order_live : has x l ≡ false → order (x ∷ l) ≡ order l ++ (x ∷ [])
  unfolding order
  order_live h = rw (lasts_live h) (reverse-cons x (lasts l))

-- They are the pages of the log.
pub has-lasts : (x : ℕ) (l : List ℕ) → has x (lasts l) ≡ has x l
unfolding has lasts
has-lasts x [] = refl
has-lasts x (q ∷ l) =
    split (has q l)
    (λ h. rw (h, has-lasts x l) (split (eqb x q) (λ e. rw (e, same x q e, h)) (λ e. rw e)))
    (λ h. rw (h, has-lasts x l))

-- None of them stands twice,
pub distinct_lasts : (l : List ℕ) → Distinct (lasts l)
unfolding lasts
distinct_lasts [] = tt
distinct_lasts (q ∷ l) = split (has q l) (λ h. rw h (distinct_lasts l)) (λ h. rw h (has-lasts q l ∙ h, distinct_lasts l))

-- and where none does, each is a last place.
pub lasts_distinct : (l : List ℕ) → Distinct l → lasts l ≡ l
unfolding lasts
lasts_distinct [] d = refl
lasts_distinct (q ∷ l) d = rw d.0 (ap (λ (t : List ℕ). q ∷ t) (lasts_distinct l d.1))

pub order_distinct : (l : List ℕ) → Distinct l → order l ≡ reverse l
unfolding order
order_distinct l d = rw (lasts_distinct l d)

pub length-order : (l : List ℕ) → length (order l) ≡ length (lasts l)
unfolding order
length-order l = length-reverse (lasts l)

-- There are no more of them than places.
pub lasts_most : (l : List ℕ) → length (lasts l) ≤ length l
unfolding lasts
lasts_most [] = omega arith
lasts_most (q ∷ l) = let h = lasts_most l in split (has q l) (λ e. rw e (omega arith)) (λ e. rw e (omega arith))

-- ---- the order

swap : (a b : Bool) → b || (a || false) ≡ a || b
swap true true = refl
swap true false = refl
swap false true = refl
swap false false = refl

pub has-order : (x : ℕ) (l : List ℕ) → has x (order l) ≡ has x l
unfolding has order lasts
has-order x [] = refl
has-order x (q ∷ l) =
    split (has q l)
    (λ h. rw (order_stale q l h, has-order x l) (split (eqb x q) (λ e. rw (e, same x q e, h)) (λ e. rw e)))
    (λ h. rw (order_live q l h, has_join x (order l) (q ∷ []), has-order x l) (swap (eqb x q) (has x l)))

one : {x : ℕ} → order (x ∷ []) ≡ x ∷ remove x (order [])
unfolding order lasts has remove
one = refl

-- A use moves its page to the front.
pub order_use : (x : ℕ) (l : List ℕ) → order (l ++ (x ∷ [])) ≡ x ∷ remove x (order l)
unfolding has remove
order_use x [] = one
order_use x (y ∷ l) =
    split (has y l)
    (λ h. let g : has y (l ++ (x ∷ [])) ≡ true = rw (has_join y l (x ∷ []), h) in
    rw (order_stale y (l ++ (x ∷ [])) g, order_stale y l h) (order_use x l))
    (λ h. split (eqb y x)
    (λ e. let g : has y (l ++ (x ∷ [])) ≡ true = rw (has_join y l (x ∷ []), h, e) in
    let n : has x (order l) ≡ false = rw (has-order x l, ← same y x e, h) in
    rw (order_stale y (l ++ (x ∷ [])) g, order_live y l h, order_use x l, remove-append x (order l) (y ∷ []) n, remove_absent x (order l) n, eqb_sym x y, e, append-nil))
    (λ e. let g : has y (l ++ (x ∷ [])) ≡ false = rw (has_join y l (x ∷ []), h, e) in
    rw (order_live y (l ++ (x ∷ [])) g, order_live y l h, order_use x l, remove-snoc x y (order l) (eqb_sym x y ∙ e))))
