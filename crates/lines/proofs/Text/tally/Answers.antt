-- The tally is its four fields and the line feed. Assumes nothing.
use Rattle.lines.proofs.Lines.{put_tallied}
use Rattle.lines.proofs.Text.tally.Goals as goal

pub returns-clause-put : goal.returns-clause-put
returns-clause-put c = search put_tallied
