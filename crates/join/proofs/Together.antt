-- The header of many files: of two rows of files one after the other it is the join of the two rows' headers. Assumes nothing.
use Prim.Native.Nat.{ℕ, zero, suc, ◌+◌, ◌≤◌, max}
use mathlib.Core.Path.{◌≡◌, refl}
use mathlib.Core.Bool.{Bool, true, false, cond, ◌||◌}
use mathlib.Core.List.{List, [], ◌∷◌, ◌++◌, map-append}
use native.Mathlib.Omega.{arith}
use Rattle.pages.specs.Pages.{has}
use Rattle.pages.proofs.Added.{has_join}
use Rattle.trace.specs.Layout.{header}
use Rattle.trace.proofs.Allowed.{Facts}
use Rattle.join.specs.Join.{joined_kind, joined_header}
use Rattle.join.specs.Trees.{kind_of_all, largest, total, header_of_all}

-- ---- kinds

-- The kind, from whether some file is of kind 2 and whether some is of kind 1.
abbrev kind_by : Bool → Bool → ℕ
kind_by two one = cond two 2 (cond one 1 0)

kind_by_lem : (a b c d : Bool) → joined_kind (kind_by a b) (kind_by c d) ≡ kind_by (a || c) (b || d)
unfolding joined_kind
kind_by_lem true b c d = refl
kind_by_lem false true true d = refl
kind_by_lem false false true d = refl
kind_by_lem false true false true = refl
kind_by_lem false true false false = refl
kind_by_lem false false false true = refl
kind_by_lem false false false false = refl

kinds_append : (ks ls : List ℕ) → joined_kind (kind_of_all ks) (kind_of_all ls) ≡ kind_of_all (ks ++ ls)
unfolding kind_of_all
kinds_append ks ls = rw (has_join 2 ks ls, has_join 1 ks ls) (kind_by_lem (has 2 ks) (has 1 ks) (has 2 ls) (has 1 ls))

kind_one : (k : ℕ) → k ≤ 2 → k ≡ kind_of_all (k ∷ [])
unfolding kind_of_all has
kind_one zero h = refl
kind_one (suc zero) h = refl
kind_one (suc (suc zero)) h = refl
kind_one (suc (suc (suc k))) h = absurd (omega arith)

-- ---- the largest, and the sum

largest-append : (ms ns : List ℕ) → max (largest ms) (largest ns) ≡ largest (ms ++ ns)
unfolding largest
largest-append [] ns = omega arith
largest-append (m ∷ ms) ns = omega (arith, largest-append ms ns)

total-append : (ms ns : List ℕ) → total ms + total ns ≡ total (ms ++ ns)
unfolding total
total-append [] ns = omega arith
total-append (m ∷ ms) ns = omega (arith, total-append ms ns)

-- ---- headers

-- The header of one file is its own.
pub header_one : (f : List ℕ) → Facts (header f) → header f ≡ header_of_all (f ∷ [])
unfolding header_of_all largest total
header_one f w =
    let k = kind_one (header f).kind w.kinds in
    let b : (header f).filter ≡ max (header f).filter 0 = omega arith in
    let r : (header f).references ≡ (header f).references + 0 = omega arith in
    let n : (header f).items ≡ (header f).items + 0 = omega arith in
    rw (← k, ← b, ← r, ← n)

-- Each value of the header of two rows of files is that of the two rows' headers, joined.
module _ (fs gs : List (List ℕ)) where
  kind_together : joined_kind (header_of_all fs).kind (header_of_all gs).kind ≡ (header_of_all (fs ++ gs)).kind
  unfolding header_of_all
  kind_together = rw map-append (kinds_append _ _)

  filter_together : max (header_of_all fs).filter (header_of_all gs).filter ≡ (header_of_all (fs ++ gs)).filter
  unfolding header_of_all
  filter_together = rw map-append (largest-append _ _)

  pub references_together : (header_of_all fs).references + (header_of_all gs).references ≡ (header_of_all (fs ++ gs)).references
  unfolding header_of_all
  references_together = rw map-append (total-append _ _)

  pub items_together : (header_of_all fs).items + (header_of_all gs).items ≡ (header_of_all (fs ++ gs)).items
  unfolding header_of_all
  items_together = rw map-append (total-append _ _)

  -- So the header of what two rows of files come to is the header of both rows.
  pub header_both : (f g : List ℕ) → header f ≡ header_of_all fs → header g ≡ header_of_all gs → joined_header f g ≡ header_of_all (fs ++ gs)
  unfolding joined_header
  header_both f g p q = rw (p, q, kind_together, filter_together, references_together, items_together)
