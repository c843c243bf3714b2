-- `slim::slim` meets its contract. Assumes nothing.
use Prim.Native.Nat.{◌-◌}
use Rattle.filter.specs.Filter.{flags_of}
use Rattle.filter.specs.Tables.{pages}
use Rattle.slim.proofs.Slimming.{Slimming}
use Rattle.slim.proofs.slim.Given as goal

abbrev pub invariant-loop-i : goal.invariant-loop-i
invariant-loop-i l =
    Slimming l.initial.table.file.now l.table.file.now l.n l.mode l.size l.initial.table.held (flags_of l.initial.owed.bytes) l.initial.out (pages l.table) (flags_of l.owed.bytes) l.out l.i l.table.held l.past l.m

abbrev pub decreases-loop-i : goal.decreases-loop-i
decreases-loop-i l =
    l.n - l.i
