-- `lines::Text::pages` meets its contract. Assumes nothing.
use Rattle.std.proofs.Common.{rules}
use Rattle.lines.proofs.Pieces.{pieced_none}
use Rattle.lines.proofs.Rows.{page_more}
use Rattle.lines.proofs.Text.pages.Goals as goal

ruleset laws = (pieced_none, page_more, rules)

pub loop-page-init : goal.loop-page-init
loop-page-init c =
    search laws

pub loop-page-preserved : goal.loop-page-preserved
loop-page-preserved c =
    search laws
