-- `recency::Log::stays_written` meets its contract. Assumes nothing.
use native.Mathlib.Omega.{arith}
use Rattle.chains.proofs.Counted.{counted_some}
use Rattle.recency.proofs.Log.stays_written.Goals as goal

pub bounds-self-j : goal.bounds-self-j
bounds-self-j c =
    omega (arith, counted_some c.in-Some.is, c.requires)
