-- `lines::Text::fetches` meets its contract. Assumes nothing.
use Rattle.std.proofs.Common.{rules}
use Rattle.lines.proofs.Pieces.{pieced_none}
use Rattle.lines.proofs.Rows.{row_more}
use Rattle.lines.proofs.Text.fetches.Goals as goal

ruleset laws = (pieced_none, row_more, rules)

pub loop-event-init : goal.loop-event-init
loop-event-init c =
    search laws

pub loop-event-preserved : goal.loop-event-preserved
loop-event-preserved c =
    search laws
