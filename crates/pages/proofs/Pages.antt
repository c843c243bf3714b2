-- Laws of lists of pages: which pages are in one, after a page is removed, after pages are taken out, in two lists one after the other, and in all but the last. Assumes nothing.
use Prim.Native.Nat.{ℕ, suc}
use mathlib.Core.Path.{◌≡◌, refl, sym, ap}
use mathlib.Core.Bool.{true, false, not, false≢true}
use mathlib.Core.List.{List, [], ◌∷◌, ◌++◌, drop_last}
use lib.ListN.{length}
use lib.Dec.{eqb}
pub use mathlib.Mathlib.Data.List.Basic.{get_last?-append-cons as last-append}
use Rattle.pages.specs.Rows.{cons_if}
use Rattle.pages.specs.Pages.{has, remove, without, Distinct}
use Rattle.pages.proofs.Choice.{split, same, eqb_sym, or_false, or_swap}

-- ---- a page

module _ (p : ℕ) where
  -- A page that is in a list, moved to its front.
  pub has_move : (x : ℕ) (a : List ℕ) → has p a ≡ true → has x (p ∷ remove p a) ≡ has x a
  unfolding has remove
  has_move x [] h = absurd (false≢true h)
  has_move x (q ∷ l) h =
      split (eqb p q)
      (λ e. rw (e, same p q e))
      (λ e. rw e (or_swap (eqb x p) (eqb x q) (has x (remove p l)) (has x l) (has_move x l (rw e at h))))

  pub length_move : (a : List ℕ) → has p a ≡ true → length (p ∷ remove p a) ≡ length a
  unfolding has remove
  length_move [] h = absurd (false≢true h)
  length_move (q ∷ l) h = split (eqb p q) (λ e. rw e) (λ e. rw e (ap suc (length_move l (rw e at h))))

  -- Two lists one after the other, of which p is not in the first, or is.
  pub has-append : (a r : List ℕ) → has p a ≡ false → has p (a ++ r) ≡ has p r
  unfolding has
  has-append [] r h = refl
  has-append (q ∷ l) r h = let z = or_false (eqb p q) (has p l) h in rw z.0 (has-append l r z.1)

  pub has_append_left : (a r : List ℕ) → has p a ≡ true → has p (a ++ r) ≡ true
  unfolding has
  has_append_left [] r h = absurd (false≢true h)
  has_append_left (q ∷ l) r h = split (eqb p q) (λ e. rw e) (λ e. rw e (has_append_left l r (rw e at h)))

  pub remove-append : (a r : List ℕ) → has p a ≡ false → remove p (a ++ r) ≡ a ++ remove p r
  unfolding has remove
  remove-append [] r h = refl
  remove-append (q ∷ l) r h = let z = or_false (eqb p q) (has p l) h in rw z.0 (ap (λ (k : List ℕ). q ∷ k) (remove-append l r z.1))

  pub remove_append_left : (a r : List ℕ) → has p a ≡ true → remove p (a ++ r) ≡ remove p a ++ r
  unfolding has remove
  remove_append_left [] r h = absurd (false≢true h)
  remove_append_left (q ∷ l) r h = split (eqb p q) (λ e. rw e) (λ e. rw e (ap (λ (k : List ℕ). q ∷ k) (remove_append_left l r (rw e at h))))

  -- A page that is not in a list is not removed, and another at its end stays there.
  pub remove_absent : (a : List ℕ) → has p a ≡ false → remove p a ≡ a
  unfolding has remove
  remove_absent [] h = refl
  remove_absent (q ∷ a) h = let z = or_false (eqb p q) (has p a) h in rw z.0 (ap (λ (l : List ℕ). q ∷ l) (remove_absent a z.1))

  pub remove-snoc : (y : ℕ) (a : List ℕ) → eqb p y ≡ false → remove p (a ++ (y ∷ [])) ≡ remove p a ++ (y ∷ [])
  unfolding remove
  remove-snoc y [] h = rw h
  remove-snoc y (q ∷ a) h = split (eqb p q) (λ e. rw e) (λ e. rw e (ap (λ (l : List ℕ). q ∷ l) (remove-snoc y a h)))

  -- What is not in a list is not in it after a removal, and p is not if it stood there once.
  pub has-remove : (x : ℕ) (a : List ℕ) → has x a ≡ false → has x (remove p a) ≡ false
  unfolding has remove
  has-remove x [] h = refl
  has-remove x (q ∷ l) h =
      let z = or_false (eqb x q) (has x l) h in
      split (eqb p q) (λ e. rw e z.1) (λ e. rw (e, z.0) (has-remove x l z.1))

  pub distinct_remove : (a : List ℕ) → Distinct a → Distinct (remove p a)
  unfolding remove
  distinct_remove [] d = tt
  distinct_remove (q ∷ l) d = split (eqb p q) (λ e. rw e d.1) (λ e. rw e (has-remove q l d.0, distinct_remove l d.1))

  pub removed : (a : List ℕ) → Distinct a → has p (remove p a) ≡ false
  unfolding has remove
  removed [] d = refl
  removed (q ∷ l) d = split (eqb p q) (λ e. rw (e, same p q e) d.0) (λ e. rw (e, e) (removed l d.1))

  -- ---- a list without the pages of another

  module _ (F : List ℕ) where
    pub without_absent : (a : List ℕ) → has p a ≡ false → without (p ∷ F) a ≡ without F a
    unfolding has without
    without_absent [] h = refl
    without_absent (q ∷ l) h =
        let z = or_false (eqb p q) (has p l) h in
        rw (eqb_sym q p, z.0) (ap (cons_if (not (has q F)) q) (without_absent l z.1))

    pub without_present : has p F ≡ true → (a : List ℕ) → without (p ∷ F) a ≡ without F a
    unfolding has without
    without_present f [] = refl
    without_present f (q ∷ l) =
        split (eqb p q)
        (λ e. let g : has q F ≡ true = rw (same p q e) at f in rw (eqb_sym q p, e, g) (without_present f l))
        (λ e. rw (eqb_sym q p, e) (ap (cons_if (not (has q F)) q) (without_present f l)))

    pub without-remove : (a : List ℕ) → Distinct a → without F (remove p a) ≡ without (p ∷ F) a
    unfolding has remove without
    without-remove [] d = refl
    without-remove (q ∷ l) d =
        split (eqb p q)
        (λ e. let g : has p l ≡ false = rw (← same p q e) at d.0 in rw (eqb_sym q p, e) (sym (without_absent l g)))
        (λ e. rw (eqb_sym q p, e) (ap (cons_if (not (has q F)) q) (without-remove l d.1)))

pub without_nil : (a : List ℕ) → without [] a ≡ a
unfolding has without
without_nil [] = refl
without_nil (x ∷ a) = ap (λ (l : List ℕ). x ∷ l) (without_nil a)

-- ---- all but the last

pub has_init : (p : ℕ) (s : List ℕ) → has p s ≡ false → has p (drop_last s) ≡ false
unfolding has
has_init p [] h = refl
has_init p (q ∷ []) h = refl
has_init p (q ∷ r ∷ s) h = let z = or_false (eqb p q) (has p (r ∷ s)) h in rw z.0 (has_init p (r ∷ s) z.1)

pub distinct_init : (s : List ℕ) → Distinct s → Distinct (drop_last s)
distinct_init [] d = tt
distinct_init (q ∷ []) d = tt
distinct_init (q ∷ r ∷ s) d = (has_init q (r ∷ s) d.0, distinct_init (r ∷ s) d.1)

module _ {A : Type 0} where
  pub length_init : (q : A) (s : List A) → length (drop_last (q ∷ s)) ≡ length s
  length_init q [] = refl
  length_init q (r ∷ s) = ap suc (length_init r s)

  pub init_append : (a : List A) (x : A) (r : List A) → drop_last (a ++ x ∷ r) ≡ a ++ drop_last (x ∷ r)
  init_append [] x r = refl
  init_append (y ∷ []) x r = refl
  init_append (y ∷ z ∷ a) x r = ap (λ (l : List A). y ∷ l) (init_append (z ∷ a) x r)
