-- Laws of lists of anything, as loops over a buffer need them: an element at a time, stores, parts that are lent, and rows written over a buffer. Assumes nothing.
use Prim.Native.Nat.{ℕ, suc, ◌+◌, ◌≤◌, ◌<◌}
use mathlib.Core.Path.{◌≡◌, refl, ◌∙◌}
use mathlib.Core.Bool.{Bool, true, false}
use mathlib.Core.List.{List, [], ◌∷◌, ◌++◌, append_assoc, append-nil}
use native.Mathlib.Nat.{add-zero, zero-add, suc-add, add-suc}
use native.Mathlib.Numerals.{add-one}
use native.Mathlib.Omega.{arith}
use lib.ListN.{length, get_or, take, drop, set, length-append, length-drop, take-append-drop, drop_of_length-le}
use lib.Seq.{drop-cons, take-suc, take-suc-set, append_snoc, take-append_seam, take-set-le, take-set-lt, drop-set-lt, drop-set-add, sets, sets-eq}
use borrow.Rule.Slice.PartMut.{mid_of, put_mid}
use Rattle.pages.specs.Rows.{All, cons_if, flat, over}

module _ {A : Type 0} where
  -- ---- an element at a time

  pub drop_next : (l : List A) (i : ℕ) (d : A) → i < length l → drop i l ≡ get_or l i d ∷ drop (i + 1) l
  drop_next l i d h = rw add-one (drop-cons l i d h)

  pub take_next : (l : List A) (i : ℕ) (d : A) → i < length l → take (i + 1) l ≡ take i l ++ (get_or l i d ∷ [])
  take_next l i d h = rw add-one (take-suc l i d h)

  -- A store where what is done ends: what is done is longer by it.
  pub store_done : (l : List A) (i : ℕ) (a : A) (r : List A) → i < length l → take (i + 1) (set l i a) ++ r ≡ take i l ++ a ∷ r
  store_done l i a r h = rw (add-one, take-suc-set l i a h) (append_snoc (take i l) a r)

  -- ---- a run of stores

  pub sets_append : (l : List A) (i : ℕ) (a b : List A) → sets l i (a ++ b) ≡ sets (sets l i a) (i + length a) b
  sets_append l i [] b = rw add-zero
  sets_append l i (x ∷ a) b = rw (add-suc, ← suc-add) (sets_append (set l i x) (suc i) a b)

  pub sets_drop : (n : ℕ) (l : List A) (i : ℕ) (vs : List A) → drop n (sets l (n + i) vs) ≡ sets (drop n l) i vs
  sets_drop n l i [] = refl
  sets_drop n l i (a ∷ vs) = rw (← add-suc n i, sets_drop n (set l (n + i) a) (suc i) vs, drop-set-add n l i a)

  pub sets_take : (n : ℕ) (l : List A) (i : ℕ) (vs : List A) → n ≤ i → take n (sets l i vs) ≡ take n l
  sets_take n l i [] h = refl
  sets_take n l i (a ∷ vs) h = sets_take n (set l i a) (suc i) vs (omega arith) ∙ take-set-le n l i a h

  -- The part of a buffer from place n on was lent and stored to.
  pub sets_part : (n : ℕ) (l : List A) (i : ℕ) (vs : List A) → take n l ++ sets (drop n l) i vs ≡ sets l (n + i) vs
  sets_part n l i vs = rw (← sets_take n l (n + i) vs (omega arith), ← sets_drop n l i vs) (take-append-drop n (sets l (n + i) vs))

  -- The first m places of a buffer were lent and stored to.
  pub sets_first : (m : ℕ) (l : List A) (i : ℕ) (vs : List A) → i + length vs ≤ m → sets (take m l) i vs ++ drop m l ≡ sets l i vs
  sets_first m l i [] h = take-append-drop m l
  sets_first m l i (a ∷ vs) h =
      rw (← take-set-lt m l i a (omega arith), ← drop-set-lt m l i a (omega arith)) (sets_first m (set l i a) (suc i) vs (omega arith))

  -- A part of m places from place n on was lent, stored to from its place i on, and has come back: the whole is stored to from place p on.
  pub sets_lent : (n m : ℕ) (l : List A) (i : ℕ) (vs : List A) (p : ℕ) {ys : List A} → ys ≡ sets (mid_of n m l) i vs → i + length vs ≤ m → n + i ≡ p
      → put_mid n m l ys ≡ sets l p vs
  sets_lent n m l i vs p e h q = rw (e, ← q, sets_first m (drop n l) i vs h) (sets_part n l i vs)

  -- ---- a row written over the front of a buffer

  pub sets_over : (s d : List A) → length s ≤ length d → sets d 0 s ≡ over s d
  unfolding over
  sets_over s d h = sets-eq s d 0 (omega arith) ∙ rw zero-add

  -- A row written over the front, and another behind it.
  pub over_more : (w v d : List A) → length w + length v ≤ length d → sets (over w d) (length w) v ≡ over (w ++ v) d
  over_more w v d h = rw (← sets_over w d (omega arith), ← sets_over (w ++ v) d (rw length-append h), sets_append d 0 w v, zero-add)

  pub length_over : (s d : List A) → length s ≤ length d → length (over s d) ≡ length d
  unfolding over
  length_over s d h = simp (length-append, length-drop) (omega arith)

  pub over_whole : (s d : List A) → length d ≤ length s → over s d ≡ s
  unfolding over
  over_whole s d h = rw (drop_of_length-le d h, append-nil)

  pub take_over : (s d : List A) → take (length s) (over s d) ≡ s
  unfolding over
  take_over s d = take-append_seam s (drop (length s) d)

  -- ---- each of a list

  -- Each of two lists one after the other, where each of both is.
  pub all_append : (P : A → Type 0) (a b : List A) → All P a → All P b → All P (a ++ b)
  all_append P [] b p q = q
  all_append P (x ∷ a) b p q = (p.0, all_append P a b p.1 q)

  -- And the other way round.
  pub all_parts : (P : A → Type 0) (a b : List A) → All P (a ++ b) → All P a × All P b
  all_parts P [] b p = (tt, p)
  all_parts P (x ∷ a) b p = let (q, r) = all_parts P a b p.1 in ((p.0, q), r)

  -- ---- lists one after the other

  pub flat_append : (a b : List (List A)) → flat (a ++ b) ≡ flat a ++ flat b
  unfolding flat
  flat_append [] b = refl
  flat_append (l ∷ a) b = rw (flat_append a b, append_assoc)

  pub flat_one : (l : List A) → flat (l ∷ []) ≡ l
  unfolding flat
  flat_one l = append-nil l

  pub cons_if_append : (b : Bool) (x : A) (u v : List A) → cons_if b x u ++ v ≡ cons_if b x (u ++ v)
  cons_if_append true x u v = refl
  cons_if_append false x u v = refl
