-- A number stands behind its name. Assumes nothing.
use Rattle.lines.proofs.Texts.{puts_more}
use Rattle.lines.proofs.Text.field.Goals as goal

pub returns-clause-put : goal.returns-clause-put
returns-clause-put c = search puts_more
