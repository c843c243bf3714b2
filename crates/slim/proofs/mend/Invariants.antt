-- `slim::mend` meets its contract. Assumes nothing.
use Rattle.filter.specs.Filter.{flags_of}
use Rattle.filter.specs.Tables.{pages}
use Rattle.slim.proofs.Mending.{Mending}
use Rattle.slim.proofs.mend.Given as goal

abbrev pub invariant-loop-k : goal.invariant-loop-k
invariant-loop-k l =
    Mending (pages l.table) (flags_of l.initial.owed.bytes) l.from l.to l.initial.out (flags_of l.owed.bytes) l.out l.k
