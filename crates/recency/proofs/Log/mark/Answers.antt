-- `recency::Log::mark` meets its contract. Assumes nothing.
use native.Mathlib.Omega.{arith}
use Rattle.chains.proofs.Counted.{counted_some}
use Rattle.recency.proofs.Log.mark.Goals as goal

pub bounds-self-j : goal.bounds-self-j
bounds-self-j c =
    omega (arith, counted_some c.in-Some.is, c.requires.within)
