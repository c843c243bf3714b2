-- The last place with a mark. Assumes nothing.
use Prim.Native.Nat.{ℕ, zero, suc, ◌≤◌, ◌<◌}
use mathlib.Core.Path.{◌≡◌, refl, sym, ap, ◌∙◌}
use mathlib.Core.Bool.{false, ◌||◌, or-false, or-true}
use mathlib.Core.List.{List}
use native.Mathlib.Omega.{arith}
use lib.ListN.{length, get_or, take}
use lib.Seq.{take-suc, take-length}
use lib.Dec.{ltb, eqb}
use borrow.Author.Tests.{ltb-false, lt-ltb, le-ltb, eqb-false}
use Rattle.pages.specs.Pages.{has, place, Distinct}
use Rattle.pages.proofs.Choice.{split, same, eqb_sym}
use Rattle.pages.proofs.Added.{has_join}
use Rattle.pages.proofs.Table.{has-place, place_most, place_alone}
use Rattle.chains.specs.Chains.{at, newest}

module _ (m : ℕ → ℕ) (v : ℕ) where
  -- It is one of the first i.
  pub newest_most : (i : ℕ) → newest m v i ≤ i
  unfolding newest
  newest_most zero = omega arith
  newest_most (suc j) =
      let h = newest_most j in
      split (eqb (m j) v) (λ e. rw e (omega arith)) (λ e. rw e (omega arith))

  -- The mark stands there.
  pub newest-at : (i j : ℕ) → newest m v i ≡ suc j → (m j ≡ v) × (j < i)
  unfolding newest
  newest-at zero j h = absurd (omega arith)
  newest-at (suc i) j h =
      split (eqb (m i) v)
      (λ e.
      let g : suc i ≡ suc j = rw e at h in
      let q : i ≡ j = omega arith in
      (rw q at (same (m i) v e), omega arith))
      (λ e. let r = newest-at i j (rw e at h) in (r.0, omega (arith, r.1)))

  -- Beyond it the mark stands nowhere.
  pub newest_beyond : (i j : ℕ) → newest m v i ≤ j → j < i → m j ≡ v → ⊥
  unfolding newest
  newest_beyond zero j h o q = omega arith
  newest_beyond (suc i) j h o q =
      split (eqb (m i) v)
      (λ e. let z : suc i ≤ j = rw e at h in omega arith)
      (λ e. split (eqb j i)
      (λ t. eqb-false (m i) v e (rw (same j i t) at q))
      (λ t. let d = eqb-false j i t in newest_beyond i j (rw e at h) (omega arith) q))

-- Marks that are the same at the first i places have the same last place there.
pub newest_same : (m m' : ℕ → ℕ) (v i : ℕ) → ((j : ℕ) → j < i → m j ≡ m' j) → newest m v i ≡ newest m' v i
unfolding newest
newest_same m m' v zero h = refl
newest_same m m' v (suc i) h = rw (h i (omega arith), newest_same m m' v i (λ j o. h j (omega arith)))

-- Where each place with a key is in one bucket, the key's last place is the bucket's last, or before it. It is all that a search along a chain stands on.
pub newest_skips : (key m : ℕ → ℕ) (k v i : ℕ) → ((j : ℕ) → j < i → key j ≡ k → m j ≡ v) → newest key k i ≡ newest key k (newest m v i)
unfolding newest
newest_skips key m k v zero h = refl
newest_skips key m k v (suc i) h =
    split (eqb (m i) v)
    (λ e. rw e)
    (λ e. split (eqb (key i) k)
    (λ t. absurd (eqb-false (m i) v e (h i (omega arith) (same (key i) k t))))
    (λ t. rw (e, t) (newest_skips key m k v i (λ j o. h j (omega arith)))))

-- ---- in a list

-- A number is among the first i of a list exactly if it has a last place there.
pub has-newest : (k : ℕ) (l : List ℕ) (i : ℕ) → i ≤ length l → has k (take i l) ≡ ltb 0 (newest (at l) k i)
unfolding has newest at
has-newest k l zero h = sym (le-ltb 0 0 (omega arith))
has-newest k l (suc j) h =
    let e : has k (take (suc j) l) ≡ has k (take j l) || eqb (get_or l j 0) k = rw (take-suc l j 0 h, has_join, or-false (eqb k (get_or l j 0)), eqb_sym k (get_or l j 0)) in
    e ∙ split (eqb (get_or l j 0) k)
    (λ t. rw (t, or-true) (sym (lt-ltb 0 (suc j) (omega arith))))
    (λ t. rw (t, or-false) (has-newest k l j (omega arith)))

module _ (k : ℕ) (l : List ℕ) where
  -- It is in the list exactly if it has a last place in it.
  pub newest-has : has k l ≡ ltb 0 (newest (at l) k (length l))
  newest-has = ap (has k) (sym (take-length l)) ∙ has-newest k l (length l) (omega arith)

  -- A number that has no last place has the list's end.
  pub newest_none : newest (at l) k (length l) ≡ 0 → length l ≡ place k l
  newest_none z =
      let n : ltb (place k l) (length l) ≡ false = sym (has-place k l) ∙ newest-has ∙ rw z (le-ltb 0 0 (omega arith)) in
      omega (arith, ltb-false (place k l) (length l) n, place_most k l)

  -- In a list of distinct numbers its last place is its place.
  pub newest-place : Distinct l → (j : ℕ) → newest (at l) k (length l) ≡ suc j → j ≡ place k l
  unfolding at
  newest-place d j z = let r = newest-at (at l) k (length l) j z in place_alone k l j d r.1 r.0
