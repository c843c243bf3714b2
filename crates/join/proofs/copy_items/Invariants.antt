-- `join::copy_items` meets its contract. Assumes nothing.
use Rattle.join.proofs.Copying.{Copying}
use Rattle.join.proofs.copy_items.Given as goal

abbrev pub invariant-loop-i : goal.invariant-loop-i
invariant-loop-i l =
    Copying l.items.file.now l.items.count l.at l.initial.out l.i l.out
