-- A list put in a log backwards, and its marks beside it. Assumes nothing.
use Prim.Native.Nat.{ℕ, ◌+◌, ◌-◌, ◌≤◌, ◌<◌}
use mathlib.Core.Path.{◌≡◌, refl, ◌∙◌}
use mathlib.Core.Bool.{Bool, false}
use mathlib.Core.List.{List, [], ◌∷◌, reverse, reverse-cons}
use native.Mathlib.Omega.{arith}
use lib.ListN.{length, get_or, drop, set, length-set, length-reverse, length-drop, drop_of_length-le}
use lib.Seq.{get_or-set_same, get_or-set_other}
use lib.Dec.{eqb}
use borrow.Author.Tests.{eqb-false}
use Rattle.pages.specs.Rows.{over}
use Rattle.pages.proofs.Choice.{split, same}
use Rattle.pages.proofs.Rows.{drop_next, over_more}
use Rattle.recency.specs.declared.Mark.{Mark}
use Rattle.recency.specs.declared.Mark.TheVariants.{Clean}
use Rattle.recency.specs.Held.{state_of, CanCopy, Copied}
use Rattle.recency.specs.State.{State}

-- From place r on they are.
pub record Copying (list : List ℕ) (kept : List Bool) (log₀ : List ℕ) (stale₀ : List Mark) (log : List ℕ) (stale : List Mark) (i r : ℕ) : Type 0 where
  pub count : i + r ≡ length list
  pub same_length : length log ≡ length log₀
  pub stale_length : length stale ≡ length stale₀
  pub done : log ≡ over (reverse (drop r list)) log₀
  pub pages-at : (j : ℕ) → r ≤ j → j < length list → get_or log (length list - 1 - j) 0 ≡ get_or list j 0
  pub marks_at : (j : ℕ) → r ≤ j → j < length list → get_or stale (length list - 1 - j) Clean ≡ state_of (get_or kept j false)

module _ {list : List ℕ} {kept : List Bool} {l : State} (can : CanCopy list kept l) where
  abbrev log₀ : List ℕ
  log₀ = l.pages

  abbrev stale₀ : List Mark
  stale₀ = l.marks

  pub copying_none : Copying list kept log₀ stale₀ log₀ stale₀ 0 (length list - 0)
  unfolding over
  copying_none = record {
    count = omega arith;
    same_length = refl;
    stale_length = refl;
    done = rw (drop_of_length-le list {i = length list - 0} (omega arith));
    pages-at = λ j f h. absurd (omega arith);
    marks_at = λ j f h. absurd (omega arith);
  }

  module _ {log : List ℕ} {stale : List Mark} {i r : ℕ} (p : Copying list kept log₀ stale₀ log stale i r) where
    module _ (h : 0 < r) where
      copying_reads : r - 1 < length list
      copying_reads = omega (arith, p.count)

      pub copying_writes : i < length log
      copying_writes = omega (arith, p.count, p.same_length, can.room)

      pub copying_says : i < length stale
      copying_says = omega (arith, p.count, p.stale_length, can.stale_long)

      abbrev x : ℕ
      x = get_or list (r - 1) 0

      done_more : set log i x ≡ over (reverse (drop (r - 1) list)) log₀
      done_more =
          let u : r - 1 + 1 ≡ r = omega arith in
          let d = drop r list in
          let n : drop (r - 1) list ≡ x ∷ d = drop_next list (r - 1) 0 copying_reads ∙ rw u in
          let k : length (reverse d) ≡ i = length-reverse d ∙ length-drop r list ∙ omega (arith, p.count) in
          rw (n, reverse-cons x d, ← over_more (reverse d) (x ∷ []) log₀ (omega (arith, k, p.count, can.room)), k, p.done)

      -- One more place of a row is put in, and those before it stay.
      at_more : {A : Type 0} (d : A) (row : List A) (v : A) (g : ℕ → A) → i < length row → v ≡ g (r - 1)
          → ((j : ℕ) → r ≤ j → j < length list → get_or row (length list - 1 - j) d ≡ g j)
          → (j : ℕ) → r - 1 ≤ j → j < length list → get_or (set row i v) (length list - 1 - j) d ≡ g j
      at_more d row v g w e t j f o =
          split (eqb j (r - 1))
          (λ y.
          let z = same j (r - 1) y in
          let k : length list - 1 - (r - 1) ≡ i = omega (arith, p.count) in
          rw (z, k, get_or-set_same row i v d w) e)
          (λ y. let n = eqb-false j (r - 1) y in get_or-set_other row i (length list - 1 - j) v d (λ q. omega (arith, p.count)) ∙ t j (omega arith) o)

      copying_more_lem : {v : Mark} → v ≡ state_of (get_or kept (r - 1) false)
          → Copying list kept log₀ stale₀ (set log i x) (set stale i v) (i + 1) (r - 1)
      copying_more_lem {v} e = record {
        count = omega (arith, p.count);
        same_length = length-set log i x ∙ p.same_length;
        stale_length = length-set stale i v ∙ p.stale_length;
        done = done_more;
        pages-at = at_more 0 log x (λ j. get_or list j 0) copying_writes refl p.pages-at;
        marks_at = at_more Clean stale v (λ j. state_of (get_or kept j false)) copying_says e p.marks_at;
      }

    pub copying_more : 0 < r → {j : ℕ} → j ≡ r - 1 → {r' : ℕ} → r' ≡ r - 1 → {v : Mark} → v ≡ state_of (get_or kept j false)
        → Copying list kept log₀ stale₀ (set log i (get_or list j 0)) (set stale i v) (i + 1) r'
    copying_more h a b e = rw (a, b) (copying_more_lem h (rw a at e))

  pub copying_all : {l' : State} {i r : ℕ} → Copying list kept log₀ stale₀ l'.pages l'.marks i r → r ≤ 0 → Copied list kept l l'
  copying_all {l'} {i} {r} p h =
      let e : r ≡ 0 = omega arith in
      record { pages_are = rw e at p.done; pages-at = λ j o. p.pages-at j (omega arith) o; marks_at = λ j o. p.marks_at j (omega arith) o }
