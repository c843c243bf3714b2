-- `chains::head` meets its contract. Assumes nothing.
use native.Mathlib.Omega.{arith}
use Rattle.chains.specs.Chains.{counted}
use Rattle.chains.proofs.head.Goals as goal

pub returns-then-base-e-clause-value : goal.returns-then-base-e-clause-value
unfolding counted
returns-then-base-e-clause-value c =
    omega (arith, c.from-e.ensures, c.if-base-e.true)

pub returns-then-base-e-clause-upper_bound : goal.returns-then-base-e-clause-upper_bound
unfolding counted
returns-then-base-e-clause-upper_bound c =
    omega arith

pub returns-else-base-e-clause-value : goal.returns-else-base-e-clause-value
unfolding counted
returns-else-base-e-clause-value c =
    omega (arith, c.from-e.ensures, c.if-base-e.false)

pub returns-else-base-e-clause-upper_bound : goal.returns-else-base-e-clause-upper_bound
unfolding counted
returns-else-base-e-clause-upper_bound c =
    omega arith
