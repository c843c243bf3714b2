-- A page more, at the end of a list of distinct pages. Assumes nothing.
use Prim.Native.Nat.{ℕ, suc, ◌≤◌}
use mathlib.Core.Path.{◌≡◌, refl, sym, ap, ◌∙◌}
use mathlib.Core.Bool.{Bool, true, false, cond, ◌||◌, or_assoc, or_comm, or-false}
use mathlib.Core.List.{List, [], ◌∷◌, ◌++◌, append-nil, reverse, reverse-cons}
use native.Mathlib.Omega.{arith}
use lib.ListN.{length, length-append}
use lib.Dec.{eqb}
use Rattle.pages.specs.Pages.{has, add, Distinct}
use Rattle.pages.proofs.Choice.{split, same, eqb_sym, or_false as neither}

-- A page is in two lists one after the other if it is in one of them.
pub has_join : (x : ℕ) (a b : List ℕ) → has x (a ++ b) ≡ has x a || has x b
unfolding has
has_join x [] b = refl
has_join x (q ∷ a) b = rw (has_join x a b) (sym (or_assoc (eqb x q) (has x a) (has x b)))

module _ (p : ℕ) (l : List ℕ) where
  -- A page that is there already changes nothing.
  pub add_old : has p l ≡ true → add p l ≡ l
  unfolding add
  add_old h = ap (λ (b : Bool). cond b l (l ++ (p ∷ []))) h

  -- A new one goes to the end.
  pub add_new : has p l ≡ false → add p l ≡ l ++ (p ∷ [])
  unfolding add
  add_new h = rw h

  -- A list with the page p has p and what it had.
  pub has-add : (x : ℕ) → has x (add p l) ≡ has x l || eqb x p
  unfolding has
  has-add x =
      split (has p l)
      (λ h. rw (add_old h) (split (eqb x p) (λ e. rw (e, same x p e, h)) (λ e. rw e (sym (or-false (has x l))))))
      (λ h. rw (add_new h, has_join, or-false (eqb x p)))

  -- A new page makes a list longer by one.
  pub length_new : has p l ≡ false → length (add p l) ≡ suc (length l)
  length_new h = rw (add_new h, length-append) (omega arith)

  -- A page more makes a list longer by one at most.
  pub length-add : length (add p l) ≤ suc (length l)
  length-add = split (has p l) (λ h. rw (add_old h) (omega arith)) (λ h. rw (length_new h) (omega arith))

-- A list with a page more begins with the list.
pub add-begins : (p : ℕ) (l : List ℕ) → (u : List ℕ) × (add p l ≡ l ++ u)
add-begins p l = split (has p l) (λ h. ([], add_old p l h ∙ sym (append-nil l))) (λ h. (p ∷ [], add_new p l h))

-- ---- no page twice

-- A list backwards has the same pages.
pub has-reverse : (x : ℕ) (l : List ℕ) → has x (reverse l) ≡ has x l
unfolding has
has-reverse x [] = refl
has-reverse x (q ∷ l) = rw (reverse-cons q l, has_join x (reverse l) (q ∷ []), has-reverse x l) (or_comm (has x l) (eqb x q || false) ∙ rw (or-false (eqb x q)))

-- A new page at the end of a list of distinct pages.
pub distinct_new : (p : ℕ) (l : List ℕ) → has p l ≡ false → Distinct l → Distinct (l ++ (p ∷ []))
unfolding has
distinct_new p [] h d = (refl, tt)
distinct_new p (q ∷ l) h d =
    let z = neither (eqb p q) (has p l) h in
    (rw (has_join q l (p ∷ []), d.0, eqb_sym q p, z.0), distinct_new p l z.1 d.1)

-- Distinct pages are distinct with a page more.
pub distinct_add : (p : ℕ) (l : List ℕ) → Distinct l → Distinct (add p l)
distinct_add p l d = split (has p l) (λ h. rw (add_old p l h) d) (λ h. rw (add_new p l h) (distinct_new p l h d))

-- Distinct pages are distinct backwards.
pub distinct_reverse : (l : List ℕ) → Distinct l → Distinct (reverse l)
unfolding has
distinct_reverse [] d = tt
distinct_reverse (q ∷ l) d = rw (reverse-cons q l) (distinct_new q (reverse l) (has-reverse q l ∙ d.0) (distinct_reverse l d.1))
