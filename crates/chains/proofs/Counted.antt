-- A place that may be missing, counted from 1. Assumes nothing.
use Prim.Native.Nat.{ℕ, suc, ◌-◌, ◌≤◌}
use mathlib.Core.Path.{◌≡◌, refl}
use native.Mathlib.Omega.{arith}
use Rattle.std.specs.Prelude.{Option, None, Some}
use Rattle.std.specs.Option.{SomeIff}
use Rattle.chains.specs.Chains.{counted}

-- One less than a number, where there is one less: counted from 1 that is the number.
pub counted_is : (r : Option ℕ) {e : ℕ} → SomeIff r (1 ≤ e) (e - 1) → counted r ≡ e
unfolding counted
counted_is None n = omega (arith, n)
counted_is (Some j) q = let some = q.0 in let is = q.1 in omega arith

-- Some place is counted above 0, and is one less than that.
pub counted_some : {r : Option ℕ} {j : ℕ} → r ≡ Some j → counted r ≡ suc j
unfolding counted
counted_some p = rw p

-- Counted alike, they are the same.
pub counted_once : {r s : Option ℕ} → counted r ≡ counted s → r ≡ s
unfolding counted
counted_once {r = None} {s = None} q = refl
counted_once {r = None} {s = Some j} q = absurd (omega (arith, q))
counted_once {r = Some i} {s = None} q = absurd (omega (arith, q))
counted_once {r = Some i} {s = Some j} q = let same : i ≡ j = omega (arith, q) in rw same
