-- `slim::keep` meets its contract. Assumes nothing.
use Rattle.filter.specs.Filter.{flags_of}
use Rattle.filter.specs.Tables.{pages}
use Rattle.slim.proofs.Keeping.{Keeping}
use Rattle.slim.proofs.keep.Given as goal

abbrev pub invariant-loop-k : goal.invariant-loop-k
invariant-loop-k l =
    Keeping l.table.file.now l.from l.end l.had l.done (pages l.table) l.table.last l.table.held (flags_of l.initial.owed.bytes) l.initial.out l.k l.c l.m l.skip (flags_of l.owed.bytes) l.out
