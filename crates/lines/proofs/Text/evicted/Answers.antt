-- A dash, or the page. Assumes nothing.
use Rattle.lines.proofs.Lines.{told_none, told_some}
use Rattle.lines.proofs.Text.evicted.Goals as goal

pub returns-then-fourth-eq0-clause-put : goal.returns-then-fourth-eq0-clause-put
returns-then-fourth-eq0-clause-put c = search told_none

pub returns-clause-put : goal.returns-clause-put
returns-clause-put c = search told_some
