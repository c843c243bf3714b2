-- `recency::evict` meets its contract. Assumes nothing.
use Rattle.recency.specs.State.{unchained}
use Rattle.recency.proofs.Aging.{Aging}
use Rattle.recency.proofs.evict.Given as goal

abbrev pub invariant-loop-r : goal.invariant-loop-r
invariant-loop-r l =
    Aging (unchained l.pages l.marks l.q) l.r
