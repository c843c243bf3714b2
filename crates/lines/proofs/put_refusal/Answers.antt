-- The line of a refusal is its three fields and the line feed. Assumes nothing.
use Rattle.std.proofs.Common.{rules}
use Rattle.lines.proofs.Lines.{put_refused}
use Rattle.lines.proofs.Texts.{put_left}
use Rattle.lines.proofs.put_refusal.Goals as goal

pub returns-clause-put : goal.returns-clause-put
returns-clause-put c =
    let p = put_refused c.args.r c.field.ensures.put c.field-2.ensures.put c.field-3.ensures.put c.byte.ensures in
    put_left p (search rules)
