-- `trace::tag_of` meets its contract. Assumes nothing.
use Rattle.trace.specs.Layout.{tag_of}
use Rattle.trace.proofs.tag_of.Goals as goal

pub returns-then-written : goal.returns-then-written
unfolding tag_of
returns-then-written c =
    rw c.if-written.true

pub returns-else-written : goal.returns-else-written
unfolding tag_of
returns-else-written c =
    rw c.if-written.false
