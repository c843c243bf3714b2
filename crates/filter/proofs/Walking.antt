-- A walk along the chain of a bucket, whose places are put to a test. Assumes nothing.
use Prim.Native.Nat.{ℕ, suc, ◌-◌, ◌≤◌, ◌<◌}
use mathlib.Core.Path.{◌≡◌, sym, ◌∙◌}
use mathlib.Core.List.{List}
use native.Mathlib.Omega.{arith}
use lib.ListN.{get_or}
use lib.Dec.{ltb, eqb}
use borrow.Author.Tests.{ltb-true, ltb-false, eqb-false}
use Rattle.pages.proofs.Choice.{split, same}
use Rattle.chains.proofs.Newest.{newest-at, newest_beyond}
use Rattle.chains.proofs.Chained.{Seeking, seeking_more}
use Rattle.filter.specs.Filter.{bucket_at, Holds}
use Rattle.filter.proofs.Finding.{find_none, find_held}

-- A walk along the chain of bucket v stands before place e, counted from 1: each place of the bucket from there on has failed the test. No key is looked for.
pub record Walking (Failed : ℕ → Type 0) (l : List ℕ) (held v e : ℕ) : Type 0 where
  pub seeking : Seeking (λ j. 0) (bucket_at l) held 1 v e
  pub failed : (i : ℕ) → e ≤ i → i < held → bucket_at l i ≡ v → Failed i

module _ {file last : List ℕ} {held base : ℕ} {heads next l : List ℕ} (f : Holds file last held base heads next l) where
  module _ {Failed : ℕ → Type 0} {v : ℕ} where
    -- It begins at the bucket's head,
    pub walk_none : {e : ℕ} → e ≡ get_or heads v 0 - base → Walking Failed l held v e
    walk_none q = record {
      seeking = find_none f q;
      failed = λ i a b z. absurd (newest_beyond (bucket_at l) v held i (omega (arith, f.chained.heads_are v)) b z);
    }

    module _ {e : ℕ} (s : Walking Failed l held v e) where
      -- goes on where a place failed,
      pub walk_more : {j : ℕ} → e ≡ suc j → Failed j → {d : ℕ} → d ≡ get_or next j 0 → Walking Failed l held v d
      walk_more {j} a t {d} z =
          let h : j < held = find_held f s.seeking a in
          let back : e - 1 ≡ j = omega arith in
          let m : bucket_at l j ≡ v = (newest-at (bucket_at l) v s.seeking.from j (sym s.seeking.here ∙ a)).0 in
          record {
            seeking = seeking_more s.seeking (λ i o q. absurd (omega arith)) (omega arith) (λ q. omega arith) f.chained (rw back z);
            failed = λ i b o q.
                split (ltb i j)
                (λ x. absurd (let w = ltb-true i j x in newest_beyond (bucket_at l) v j i (omega (arith, rw m at (z ∙ f.chained.next_are j h))) w q))
                (λ x. let w = ltb-false i j x in
                split (eqb i j)
                (λ y. rw (same i j y) t)
                (λ y. let u = eqb-false i j y in s.failed i (omega arith) o q));
          }

      -- and ends: each place of the bucket has failed.
      pub walk_end : e ≡ 0 → (i : ℕ) → i < held → bucket_at l i ≡ v → Failed i
      walk_end z i o q = s.failed i (omega arith) o q
