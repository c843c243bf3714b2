-- `recency::save` meets its contract. Assumes nothing.
use Rattle.recency.proofs.Saving.{Saving}
use Rattle.recency.proofs.save.Given as goal

abbrev pub invariant-loop-r : goal.invariant-loop-r
invariant-loop-r l =
    Saving l.pages l.marks l.fn.q.low l.fn.q.now l.initial.list l.initial.kept l.list l.kept l.i l.r
