-- The joined file's header, from the tests and the sums that the code makes. Assumes nothing.
use Prim.Native.Nat.{ℕ, ◌+◌, max}
use mathlib.Core.Path.{◌≡◌}
use mathlib.Core.List.{List}
use lib.Dec.{eqb}
use borrow.Author.Tests.{ne_eqb, eqb-true}
use Rattle.pages.proofs.Choice.{split}
use Rattle.trace.specs.Layout.{header}
use Rattle.trace.specs.declared.Header.{Header}
use Rattle.join.specs.Join.{joined_kind, joined_header}

-- ---- the kind

module _ (a b : ℕ) where
  -- The first file is of kind 2.
  pub kind_first : a ≡ 2 → 2 ≡ joined_kind a b
  unfolding joined_kind
  kind_first e = rw e

  -- The second file is.
  pub kind_second : b ≡ 2 → 2 ≡ joined_kind a b
  unfolding joined_kind
  kind_second e = split (eqb a 0) (λ t. rw (eqb-true a 0 t, e)) (λ f. split (eqb a 2) (λ t. rw (f, t)) (λ u. rw (f, u, e)))

  module _ (n : a ≡ 2 → ⊥) (m : b ≡ 2 → ⊥) where
    -- Neither is, and the first is not whole.
    pub kind_one : (a ≡ 0 → ⊥) → 1 ≡ joined_kind a b
    unfolding joined_kind
    kind_one z = rw (ne_eqb a 0 z, ne_eqb a 2 n, ne_eqb b 2 m)

    -- Neither is, and the second is not whole.
    pub kind_other : a ≡ 0 → (b ≡ 0 → ⊥) → 1 ≡ joined_kind a b
    unfolding joined_kind
    kind_other e z = rw (e, ne_eqb b 0 z, ne_eqb b 2 m)

  -- Both files are whole.
  pub kind_whole : a ≡ 0 → b ≡ 0 → 0 ≡ joined_kind a b
  unfolding joined_kind
  kind_whole e z = rw (e, z)

-- ---- the header

-- The four values, from those of the two files.
pub header-joined : (f g : List ℕ) {a b : Header} → a ≡ header f → b ≡ header g → {k l : ℕ} → k ≡ joined_kind a.kind b.kind → l ≡ max a.filter b.filter
    → ◌≡◌ {A = Header} (record { kind = k; filter = l; references = a.references + b.references; items = a.items + b.items }) (joined_header f g)
unfolding joined_header
header-joined f g p q k l = rw (k, l, p, q)
