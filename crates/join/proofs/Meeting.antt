-- Where two files meet: the second does not begin before the first ends exactly if the times of both, one after the other, do not fall. Assumes nothing.
use Prim.Native.Nat.{ℕ, zero, suc, ◌-◌}
use mathlib.Core.Path.{◌≡◌, refl}
use mathlib.Core.Bool.{true, false, ◌&&◌}
use mathlib.Core.List.{List, [], ◌∷◌, ◌++◌}
use native.Mathlib.Omega.{arith}
use native.Mathlib.Numerals.{add-one}
use lib.Dec.{ltb}
use borrow.Author.Tests.{ltb-false, lt-ltb, le-ltb}
use Rattle.trace.specs.Layout.{header, item_at, items_of, items_from, items}
use Rattle.trace.specs.Rules.{Rising}
use Rattle.trace.proofs.Append.{rising_append, rising_meet}
use Rattle.trace.proofs.Items.{items_from_lem, from_next, first_more}
use Rattle.join.specs.Join.{meets_falling}

some : (n : ℕ) → ltb 0 (suc n) ≡ true
some n = lt-ltb 0 (suc n) (omega arith)

-- Times of a file that begins at time x or later.
rising_after : (g : List ℕ) (x m : ℕ) → Rising 0 (items_from g 0 m) → ltb 0 m && ltb (item_at g 0).time x ≡ false → Rising x (items_from g 0 m)
rising_after g x zero q e = unfold items_from in unfold items_of in tt
rising_after g x (suc m) q e =
    let r = rw (from_next g 0 m) at q in
    rw (from_next g 0 m) (ltb-false (item_at g 0).time x (rw (some m) at e), r.1)

-- Times of n items of one file, and of m of another.
rising_both : (f g : List ℕ) (n m : ℕ) → Rising 0 (items_from f 0 n) → Rising 0 (items_from g 0 m)
    → ltb 0 n && (ltb 0 m && ltb (item_at g 0).time (item_at f (n - 1)).time) ≡ false → Rising 0 (items_from f 0 n ++ items_from g 0 m)
rising_both f g zero m p q e = unfold items_from in unfold items_of in q
rising_both f g (suc n) m p q e =
    let s : items_from f 0 (suc n) ≡ items_from f 0 n ++ (item_at f n ∷ []) = rw add-one at (first_more f n) in
    let d : suc n - 1 ≡ n = omega arith in
    rw s (rising_append 0 (items_from f 0 n) (item_at f n) (items_from g 0 m) (rw s at p) (rising_after g (item_at f n).time m q (rw (some n, d) at e)))

-- Where the second file does not begin before the first ends, the times of both do not fall.
pub rising_joined : (f g : List ℕ) → Rising 0 (items f) → Rising 0 (items g) → meets_falling f g ≡ false → Rising 0 (items f ++ items g)
unfolding meets_falling
rising_joined f g p q e =
    rw (items_from_lem f, items_from_lem g) (rising_both f g (header f).items (header g).items (rw (items_from_lem f) at p) (rw (items_from_lem g) at q) e)

-- ---- the other way round

-- Of n items of one file and m of another whose times do not fall, the second does not begin before the first ends.
meets_both : (f g : List ℕ) (n m : ℕ) → Rising 0 (items_from f 0 n ++ items_from g 0 m) → ltb 0 n && (ltb 0 m && ltb (item_at g 0).time (item_at f (n - 1)).time) ≡ false
meets_both f g zero m r = refl
meets_both f g (suc n) zero r = rw (some n)
meets_both f g (suc n) (suc m) r =
    let s : items_from f 0 (suc n) ≡ items_from f 0 n ++ (item_at f n ∷ []) = rw add-one at (first_more f n) in
    let d : suc n - 1 ≡ n = omega arith in
    let q = rw (s, from_next g 0 m) at r in
    rw (some n, some m, d) (le-ltb (item_at g 0).time (item_at f n).time (rising_meet 0 (items_from f 0 n) (item_at f n) (item_at g 0) (items_from g 1 m) q))

-- Where the times of both files do not fall, the second does not begin before the first ends.
pub joined_rising : (f g : List ℕ) → Rising 0 (items f ++ items g) → meets_falling f g ≡ false
unfolding meets_falling
joined_rising f g r = meets_both f g (header f).items (header g).items (rw (items_from_lem f, items_from_lem g) at r)
