-- `slim::look` meets its contract. Assumes nothing.
use Rattle.std.specs.Prelude.{◌≡◌}
use Rattle.filter.specs.Tables.{pages}
use Rattle.slim.proofs.Looking.{Looking}
use Rattle.slim.proofs.look.Given as goal

abbrev pub invariant-loop-k : goal.invariant-loop-k
invariant-loop-k l =
    Looking l.file l.n l.from l.most l.fn.table.held (pages l.fn.table) l.last l.base l.heads l.next l.k l.held × (l.end ≡ l.n)
