-- Items one after the other whose times never fall: neither row's times fall, nor do they where the two meet. Assumes nothing.
use Prim.Native.Nat.{ℕ, ◌≤◌}
use mathlib.Core.List.{List, [], ◌∷◌, ◌++◌}
use native.Mathlib.Omega.{arith}
use Rattle.trace.specs.Rules.{Rising}
use Rattle.trace.specs.declared.Item.{Item}

-- Times that do not fall from a time on do not fall from an earlier one on.
pub rising_earlier : {from later : ℕ} → from ≤ later → (t : List Item) → Rising later t → Rising from t
rising_earlier le [] r = tt
rising_earlier le (i ∷ t) r = let l = r.0 in (omega arith, r.1)

-- Times that never fall, of items with x as the last, and then of others from the time of x on.
pub rising_append : (from : ℕ) (a : List Item) (x : Item) (b : List Item) → Rising from (a ++ (x ∷ [])) → Rising x.time b → Rising from ((a ++ (x ∷ [])) ++ b)
rising_append from [] x b p q = (p.0, q)
rising_append from (i ∷ a) x b p q = (p.0, rising_append i.time a x b p.1 q)

-- Of items one after the other whose times do not fall, the times of the first do not, nor those of the second.
pub rising_parts : (from : ℕ) (a b : List Item) → Rising from (a ++ b) → Rising from a × Rising from b
rising_parts from [] b r = (tt, r)
rising_parts from (i ∷ a) b r =
    let (p, q) = rising_parts i.time a b r.1 in
    ((r.0, p), rising_earlier r.0 b q)

-- What follows the item x is not before it.
pub rising_meet : (from : ℕ) (a : List Item) (x y : Item) (b : List Item) → Rising from ((a ++ (x ∷ [])) ++ (y ∷ b)) → x.time ≤ y.time
rising_meet from [] x y b r = r.1.0
rising_meet from (i ∷ a) x y b r = rising_meet i.time a x y b r.1
