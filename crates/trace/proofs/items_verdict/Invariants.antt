-- `trace::items_verdict` meets its contract. Assumes nothing.
use Rattle.trace.proofs.Walk.{Walked}
use Rattle.trace.proofs.items_verdict.Given as goal

abbrev pub invariant-loop-i : goal.invariant-loop-i
invariant-loop-i l =
    Walked l.items.file.now l.items.count l.before l.i
