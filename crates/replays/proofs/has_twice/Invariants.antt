-- `replays::has_twice` meets its contract. Assumes nothing.
use Rattle.replays.proofs.Starting.{Sifting}
use Rattle.replays.proofs.has_twice.Given as goal

abbrev pub invariant-loop-i : goal.invariant-loop-i
invariant-loop-i l =
    Sifting l.list l.next l.heads l.i
