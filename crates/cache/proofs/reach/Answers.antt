-- `cache::reach` meets its contract. Assumes nothing.
use native.Mathlib.Omega.{arith}
use Rattle.cache.proofs.Widening.{reach_min}
use Rattle.cache.proofs.reach.Goals as goal

pub returns : goal.returns
returns c =
    omega (arith, c.min.ensures, reach_min c.args.n)
