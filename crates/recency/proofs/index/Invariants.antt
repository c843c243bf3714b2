-- `recency::index` meets its contract. Assumes nothing.
use Rattle.recency.specs.Linked.{Linked}
use Rattle.recency.proofs.index.Given as goal

abbrev pub invariant-loop-c : goal.invariant-loop-c
invariant-loop-c l =
    Linked l.pages l.next l.heads l.c
