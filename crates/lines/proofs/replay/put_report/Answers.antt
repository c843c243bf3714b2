-- The report is put: its five texts stand one after the other. Assumes nothing.
use Rattle.std.proofs.Common.{rules}
use Rattle.lines.proofs.Lines.{put_all}
use Rattle.lines.proofs.Texts.{put_left}
use Rattle.lines.proofs.replay.put_report.Goals as goal

pub returns-clause-put : goal.returns-clause-put
returns-clause-put c =
    let p = put_all _ _ _ _ c.fetches.ensures.put c.tally.ensures.put c.text.ensures c.pages.ensures.put c.byte.ensures in
    put_left p (search rules)
