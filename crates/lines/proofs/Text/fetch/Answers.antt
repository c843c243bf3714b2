-- The six texts, one after the other. Assumes nothing.
use Rattle.lines.specs.Report.{row_line}
use Rattle.lines.proofs.Lines.{put_four}
use Rattle.lines.proofs.Text.fetch.Goals as goal

pub returns-clause-put : goal.returns-clause-put
unfolding row_line
returns-clause-put c =
    put_four _ _ _ _ c.number.ensures.put c.field.ensures.put c.byte.ensures c.evicted.ensures.put c.field-2.ensures.put c.byte-2.ensures
