-- The chains of a log: of no place, of a place more, with a store behind them, and the search for a page's last place. Assumes nothing.
use Prim.Native.Nat.{ℕ, suc, ◌+◌, ◌-◌, ◌≤◌, ◌<◌}
use mathlib.Core.Path.{◌≡◌, refl, sym, ap, ◌∙◌}
use mathlib.Core.List.{List}
use native.Mathlib.Omega.{arith}
use native.Mathlib.Numerals.{add-one}
use lib.ListN.{length, get_or, set, length-set, replicate, length-replicate}
use lib.Seq.{get_or-set_other}
use borrow.Author.Tests.{lt-ltb, le-ltb}
use Rattle.std.specs.Prelude.{Some, None}
use Rattle.chains.specs.Chains.{counted, at, newest, CanPush, heads_with, next_with, bucket_in}
use Rattle.chains.proofs.Newest.{newest_same}
use Rattle.chains.proofs.Chained.{chained_none, chained_more, low_zeros, Seeking, seeking_none, seeking_within, seeking_less, seeking_most, seeking_here, seeking_more}
use Rattle.recency.specs.Linked.{buckets, bucket_of, bucket_at, Linked, CanLink, CanIndex, last_from}

-- A bucket is one of the heads'.
pub bucket_below : (p : ℕ) → bucket_of p < buckets
unfolding bucket_of
bucket_below p = omega arith

-- ---- none, and one more

-- Heads that are cleared chain no place.
pub linked_none : (log next heads₀ : List ℕ) → length log ≤ 65535 → length log ≤ length next → buckets ≤ length heads₀
    → {heads : List ℕ} → heads ≡ replicate (length heads₀) 0 → Linked log next heads 0
linked_none log next heads₀ s n h e = rw e (record {
  chained = chained_none (bucket_at log) next (low_zeros (length heads₀));
  within = omega arith;
  small = s;
  next_long = n;
  heads_long = rw length-replicate h;
})

-- So a log can be chained anew.
pub index_none : {log next heads₀ : List ℕ} {n : ℕ} → CanIndex log next heads₀ n → {heads : List ℕ} → heads ≡ replicate (length heads₀) 0 → Linked log next heads 0
index_none {log} {next} {heads₀} can e = linked_none log next heads₀ can.small can.next_long can.heads_long e

module _ {log next heads : List ℕ} {c : ℕ} (k : CanLink log next heads c) {v : ℕ} (q : v ≡ bucket_in buckets (get_or log c 0)) where
  -- The place can be pushed,
  pub link_push : CanPush 0 c v heads next
  unfolding bucket_of
  link_push = record {
    bucket = rw q (omega (arith, bucket_below (get_or log c 0), k.linked.heads_long));
    room = omega (arith, k.room, k.linked.next_long);
    small = omega (arith, k.room, k.linked.small);
  }

  -- and is chained then.
  pub link_more : {heads' next' : List ℕ} → heads' ≡ heads_with 0 c v heads → next' ≡ next_with 0 c v heads next → Linked log next' heads' (c + 1)
  unfolding bucket_of bucket_at at
  link_more h n =
      let w = link_push in
      rw (h, n) record {
        chained = rw add-one (chained_more k.linked.chained (bucket_at log) v (λ j o. refl) (sym q) w.bucket w.room);
        within = omega (arith, k.room);
        small = k.linked.small;
        next_long = rw length-set k.linked.next_long;
        heads_long = rw length-set k.linked.heads_long;
      }

-- ---- a store behind them

module _ {log next heads : List ℕ} {n : ℕ} (l : Linked log next heads n) where
  other : (i p : ℕ) → n ≤ i → (j : ℕ) → j < n → bucket_at (set log i p) j ≡ bucket_at log j
  unfolding bucket_at at
  other i p o j h = rw (get_or-set_other log i j p 0 (λ e. omega arith))

  -- What stands behind them is not chained.
  pub linked_store : (i p : ℕ) → n ≤ i → Linked (set log i p) next heads n
  linked_store i p o = record {
    chained = record {
      heads_are = λ v. l.chained.heads_are v ∙ sym (newest_same (bucket_at (set log i p)) (bucket_at log) v n (other i p o));
      next_are = λ j h. l.chained.next_are j h
          ∙ sym (rw (other i p o j h) (newest_same (bucket_at (set log i p)) (bucket_at log) (bucket_at log j) j (λ x y. other i p o x (omega arith))));
    };
    within = rw length-set l.within;
    small = rw length-set l.small;
    next_long = rw length-set l.next_long;
    heads_long = l.heads_long;
  }

-- ---- a search

-- A search for page p has come to place e of its bucket's chain.
abbrev pub Finding : List ℕ → ℕ → ℕ → ℕ → Type 0
Finding log n p e = Seeking (at log) (bucket_at log) n p (bucket_of p) e

module _ {log next heads : List ℕ} {n : ℕ} (l : Linked log next heads n) where
  -- The heads have a page's bucket.
  pub find_bucket : (p : ℕ) → bucket_of p < length heads
  find_bucket p = omega (arith, bucket_below p, l.heads_long)

  pub find_none : {p b e : ℕ} → b ≡ bucket_in buckets p → e ≡ get_or heads b 0 → Finding log n p e
  unfolding bucket_of
  find_none q e = seeking_none l.chained (let z : get_or heads (bucket_in buckets _) 0 - 0 ≡ get_or heads (bucket_in buckets _) 0 = omega arith in rw q at e ∙ sym z)

  module _ {p e : ℕ} (s : Finding log n p e) where
    -- All places with a page are in its bucket.
    apart : (j : ℕ) → j < n → at log j ≡ p → bucket_at log j ≡ bucket_of p
    unfolding bucket_at
    apart j h q = ap bucket_of q

    -- The chain is passed down to low.
    pub find_end : {low : ℕ} → e ≤ low → counted None ≡ last_from low log n p
    unfolding last_from counted
    find_end {low} z = rw (le-ltb low (newest (at log) p n) (omega (arith, seeking_most s apart)))

    module _ {low : ℕ} (some : low < e) where
      one : 0 < e
      one = omega arith

      pub find_reads : e - 1 < length log
      find_reads = omega (arith, seeking_within s one, l.within)

      pub find_next : e - 1 < length next
      find_next = omega (arith, find_reads, l.next_long)

      pub find_less : {d : ℕ} → d ≡ get_or next (e - 1) 0 → d < e
      find_less z = seeking_less s one l.chained z

      pub find_here : get_or log (e - 1) 0 ≡ p → counted (Some (e - 1)) ≡ last_from low log n p
      unfolding last_from at counted
      find_here q =
          let z : newest (at log) p n ≡ e = seeking_here s apart one q ∙ omega arith in
          let c : suc (e - 1) ≡ e = omega arith in
          rw (z, lt-ltb low e some, c)

      pub find_more : (get_or log (e - 1) 0 ≡ p → ⊥) → {d : ℕ} → d ≡ get_or next (e - 1) 0 → Finding log n p d
      unfolding at
      find_more q z = seeking_more s apart one q l.chained z
