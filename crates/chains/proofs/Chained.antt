-- Chains of no place, of a place more, and a search along one. Assumes nothing.
use Prim.Native.Nat.{ℕ, suc, ◌+◌, ◌-◌, ◌≤◌, ◌<◌}
use mathlib.Core.Path.{◌≡◌, refl, sym, ap, ◌∙◌}
use mathlib.Core.Bool.{cond}
use mathlib.Core.List.{List}
use native.Mathlib.Omega.{arith}
use lib.ListN.{length, get_or, set, get_or-eq_default, replicate, length-replicate, get_or-replicate}
use lib.Seq.{get_or-set_same, get_or-set_other}
use lib.Dec.{eqb, ltb}
use borrow.Author.Tests.{ltb-true, ltb-false, eq-eqb, ne_eqb, eqb-false}
use Rattle.pages.proofs.Choice.{split, same}
use Rattle.chains.specs.Chains.{newest, Chained, heads_with, next_with}
use Rattle.chains.proofs.Newest.{newest_most, newest-at, newest_same, newest_skips}

-- Nothing in a row is above base.
pub record Low (base : ℕ) (row : List ℕ) : Type 0 where
  pub low : (v : ℕ) → get_or row v 0 ≤ base

-- No place: the heads may say anything up to base.
pub chained_none : (m : ℕ → ℕ) {base : ℕ} {heads : List ℕ} (next : List ℕ) → Low base heads → Chained m 0 base heads next
unfolding newest
chained_none m next w = record { heads_are = λ v. omega (arith, w.low v); next_are = λ j o. absurd (omega arith) }

module _ {m : ℕ → ℕ} {n base : ℕ} {heads next : List ℕ} (c : Chained m n base heads next) where
  -- What the heads say is no more than base and the number of places.
  pub chained_low : Low (base + n) heads
  chained_low = record { low = λ v. omega (arith, c.heads_are v, newest_most m v n) }

  -- A place more, in front of bucket v.
  module _ (m' : ℕ → ℕ) (v : ℕ) (before : (j : ℕ) → j < n → m' j ≡ m j) (here : m' n ≡ v) (bucket : v < length heads) (room : n < length next) where
    heads_more : (w : ℕ) → get_or (heads_with base n v heads) w 0 - base ≡ newest m' w (suc n)
    unfolding newest
    heads_more w =
        rw (here, newest_same m' m w n before) (split (eqb v w)
        (λ t. rw (t, ← same v w t, get_or-set_same heads v (base + n + 1) 0 bucket) (omega arith))
        (λ t. rw (t, get_or-set_other heads v w (base + n + 1) 0 (λ q. eqb-false v w t (sym q))) (c.heads_are w)))

    next_more : (j : ℕ) → j < suc n → get_or (next_with base n v heads next) j 0 ≡ newest m' (m' j) j
    next_more j o =
        split (eqb j n)
        (λ t. rw (same j n t, get_or-set_same next n (get_or heads v 0 - base) 0 room, here, newest_same m' m v n before) (c.heads_are v))
        (λ t.
        let d = eqb-false j n t in
        let l : j < n = omega arith in
        rw (get_or-set_other next n j (get_or heads v 0 - base) 0 d, before j l, newest_same m' m (m j) j (λ i h. before i (omega arith))) (c.next_are j l))

    pub chained_more : Chained m' (suc n) base (heads_with base n v heads) (next_with base n v heads next)
    chained_more = record { heads_are = heads_more; next_are = next_more }

-- The link that `push` stores at place c is what it read of the head.
pub next_with_lem : (base c v : ℕ) (heads next : List ℕ) {e : ℕ} → e ≡ get_or heads v 0 - base → set next c e ≡ next_with base c v heads next
next_with_lem base c v heads next q = rw q

-- ---- a search along a chain

-- A search for the last of n places with key k, all of which are in bucket v, stands before place e of the bucket's chain, counted from 1: it has passed all places from `from` on.
pub record Seeking (key m : ℕ → ℕ) (n k v e : ℕ) : Type 0 where
  pub from : ℕ
  pub within : from ≤ n
  pub here : e ≡ newest m v from
  pub rest : newest key k n ≡ newest key k from

module _ {key m : ℕ → ℕ} {n k v : ℕ} where
  -- It begins at the bucket's head.
  pub seeking_none : {base : ℕ} {heads next : List ℕ} → Chained m n base heads next → {e : ℕ} → e ≡ get_or heads v 0 - base → Seeking key m n k v e
  seeking_none c q = record { from = n; within = omega arith; here = q ∙ c.heads_are v; rest = refl }

  module _ {e : ℕ} (s : Seeking key m n k v e) where
    module _ (some : 0 < e) where
      at_e : (m (e - 1) ≡ v) × (e - 1 < s.from)
      at_e = newest-at m v s.from (e - 1) (omega (arith, s.here))

      -- Its next place is one of the n.
      pub seeking_within : e - 1 < n
      seeking_within = omega (arith, at_e.1, s.within)

    module _ (apart : (j : ℕ) → j < n → key j ≡ k → m j ≡ v) where
      skips : newest key k n ≡ newest key k e
      skips = s.rest ∙ newest_skips key m k v s.from (λ j o. apart j (omega (arith, s.within))) ∙ rw (← s.here)

      -- No place beyond it has the key.
      pub seeking_most : newest key k n ≤ e
      seeking_most = rw skips (newest_most key k e)

      -- The chain is passed: no place has the key.
      pub seeking_end : e ≤ 0 → newest key k n ≡ 0
      unfolding newest
      seeking_end z = let q : e ≡ 0 = omega arith in skips ∙ rw q

      module _ (some : 0 < e) where
        turn : newest key k n ≡ cond (eqb (key (e - 1)) k) (suc (e - 1)) (newest key k (e - 1))
        unfolding newest
        turn =
            let q : e ≡ suc (e - 1) = omega arith in
            skips ∙ ap (newest key k) q

        -- The place has the key.
        pub seeking_here : key (e - 1) ≡ k → newest key k n ≡ suc (e - 1)
        seeking_here q = turn ∙ rw (eq-eqb (key (e - 1)) k q)

        -- It has not: the search goes on before it.
        pub seeking_more : (key (e - 1) ≡ k → ⊥) → {base : ℕ} {heads next : List ℕ} → Chained m n base heads next
            → {d : ℕ} → d ≡ get_or next (e - 1) 0 → Seeking key m n k v d
        seeking_more q c z = record {
          from = e - 1;
          within = omega (arith, seeking_within some);
          here = z ∙ c.next_are (e - 1) (seeking_within some) ∙ rw (at_e some).0;
          rest = turn ∙ rw (ne_eqb (key (e - 1)) k q);
        }

    -- The place before it in the chain is smaller, so a search ends.
    pub seeking_less : 0 < e → {base : ℕ} {heads next : List ℕ} → Chained m n base heads next → {d : ℕ} → d ≡ get_or next (e - 1) 0 → d < e
    seeking_less some c z = omega (arith, z, c.next_are (e - 1) (seeking_within some), newest_most m (m (e - 1)) (e - 1))

-- ---- heads that are cleared

-- Heads that are made of zeros are low.
pub low_zeros : (n : ℕ) → Low 0 (replicate n 0)
low_zeros n = record {
  low = λ v. split (ltb v n)
      (λ e. omega (arith, get_or-replicate {A = ℕ} n v 0 0 (ltb-true v n e)))
      (λ e. let g = ltb-false v n e in omega (arith, get_or-eq_default {A = ℕ} (replicate n 0) 0 {n = v} (rw length-replicate g)));
}
