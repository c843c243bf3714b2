-- Places in a list of pages: where a page stands, after a page more, and where no page stands twice. Assumes nothing.
use Prim.Native.Nat.{ℕ, zero, suc, ◌≤◌, ◌<◌}
use mathlib.Core.Path.{◌≡◌, refl, sym, ap, ◌∙◌}
use mathlib.Core.Bool.{true, false, or-true, true≢false, false≢true}
use mathlib.Core.List.{List, [], ◌∷◌, ◌++◌}
use native.Mathlib.Omega.{arith}
use lib.ListN.{length, get_or, take}
use lib.Dec.{ltb, eqb, leb-suc-suc}
use borrow.Author.Tests.{ltb-true, lt-ltb, le-ltb, eq-eqb, ne_eqb}
use Rattle.pages.specs.Pages.{has, add, place, Distinct}
use Rattle.pages.proofs.Choice.{split, same, eqb_self}
use Rattle.pages.proofs.Added.{add_old, add_new}

-- A page is in a list exactly if its place is within it.
pub has-place : (p : ℕ) (l : List ℕ) → has p l ≡ ltb (place p l) (length l)
unfolding has place
has-place p [] = refl
has-place p (q ∷ l) =
    split (eqb p q)
    (λ e. rw e (sym (lt-ltb 0 (suc (length l)) (omega arith))))
    (λ e. rw e (has-place p l ∙ sym (leb-suc-suc (suc (place p l)) (length l))))

module _ (p : ℕ) where
  module _ (l : List ℕ) where
    -- A page that is in a list has its place within it.
    pub place_within : has p l ≡ true → place p l < length l
    place_within h = ltb-true (place p l) (length l) (sym (has-place p l) ∙ h)

    -- A page whose place is within a list is in it.
    pub has_within : place p l < length l → has p l ≡ true
    has_within h = has-place p l ∙ lt-ltb (place p l) (length l) h

    -- A page whose place is a list's end is not in it.
    pub has_beyond : length l ≤ place p l → has p l ≡ false
    has_beyond h = has-place p l ∙ le-ltb (place p l) (length l) h

  -- No place lies beyond the list's end.
  pub place_most : (l : List ℕ) → place p l ≤ length l
  unfolding place
  place_most [] = omega arith
  place_most (q ∷ l) = split (eqb p q) (λ e. rw e (omega arith)) (λ e. let h = place_most l in rw e (omega arith))

  -- A page that is in a list stands at its place.
  pub get_or-place : (l : List ℕ) → has p l ≡ true → get_or l (place p l) 0 ≡ p
  unfolding has place
  get_or-place [] h = absurd (false≢true h)
  get_or-place (q ∷ l) h = split (eqb p q) (λ e. rw e (sym (same p q e))) (λ e. rw e (get_or-place l (rw e at h)))

  -- A page that is in a list keeps its place whatever stands after the list.
  pub place-append : (l r : List ℕ) → has p l ≡ true → place p (l ++ r) ≡ place p l
  unfolding has place
  place-append [] r h = absurd (false≢true h)
  place-append (q ∷ l) r h = split (eqb p q) (λ e. rw e) (λ e. rw e (ap suc (place-append l r (rw e at h))))

  -- A page's place is where it stands once it is put at the end.
  pub place_end : (l : List ℕ) → place p (l ++ (p ∷ [])) ≡ place p l
  unfolding place
  place_end [] = rw (eqb_self p)
  place_end (q ∷ l) = split (eqb p q) (λ e. rw e) (λ e. rw e (ap suc (place_end l)))

  -- A page that is in a list keeps its place when a page is added.
  pub place-add : (q : ℕ) (l : List ℕ) → has p l ≡ true → place p (add q l) ≡ place p l
  place-add q l h = split (has q l) (λ e. rw (add_old q l e)) (λ e. rw (add_new q l e) (place-append l (q ∷ []) h))

  -- A page that is added has the place that it had.
  pub place_added : (l : List ℕ) → place p (add p l) ≡ place p l
  place_added l = split (has p l) (λ e. rw (add_old p l e)) (λ e. rw (add_new p l e) (place_end l))

-- Pages with one place are one page, if one of them is in the list.
pub place_same : (p q : ℕ) (l : List ℕ) → has q l ≡ true → place q l ≡ place p l → q ≡ p
place_same p q l h e =
    let g : has p l ≡ true = has_within p l (rw e at (place_within q l h)) in
    sym (get_or-place q l h) ∙ ap (λ (i : ℕ). get_or l i 0) e ∙ get_or-place p l g

-- A page is among the first c places exactly if its place is below c.
pub has-taken : (p c : ℕ) (l : List ℕ) → c ≤ length l → has p (take c l) ≡ ltb (place p l) c
unfolding has place
has-taken p zero l h = sym (le-ltb (place p l) 0 (omega arith))
has-taken p (suc c) [] h = absurd (omega arith)
has-taken p (suc c) (q ∷ l) h =
    split (eqb p q)
    (λ e. rw e (sym (lt-ltb 0 (suc c) (omega arith))))
    (λ e. rw e (has-taken p c l (omega arith) ∙ sym (leb-suc-suc (suc (place p l)) c)))

-- What stands at a place of a list is in it.
pub has-get_or : (p : ℕ) (l : List ℕ) (j : ℕ) → j < length l → get_or l j 0 ≡ p → has p l ≡ true
unfolding has
has-get_or p [] j h e = absurd (omega arith)
has-get_or p (q ∷ l) zero h e = rw (eq-eqb p q (sym e))
has-get_or p (q ∷ l) (suc j) h e = rw (has-get_or p l j (omega arith) e) (or-true (eqb p q))

-- Where no page stands twice, the one place that holds a page is its place.
pub place_alone : (p : ℕ) (l : List ℕ) (j : ℕ) → Distinct l → j < length l → get_or l j 0 ≡ p → j ≡ place p l
unfolding place
place_alone p [] j d h e = absurd (omega arith)
place_alone p (q ∷ l) zero d h e = rw (eq-eqb p q (sym e))
place_alone p (q ∷ l) (suc j) d h e =
    let n : eqb p q ≡ false = ne_eqb p q (λ t. true≢false (sym (has-get_or q l j (omega arith) (e ∙ t)) ∙ d.0)) in
    rw n (ap suc (place_alone p l j d.1 (omega arith) e))
