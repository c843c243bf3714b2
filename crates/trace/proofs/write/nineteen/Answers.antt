-- `trace::write::nineteen` meets its contract. Assumes nothing.
use Rattle.trace.proofs.Writing.{nineteen_put}
use Rattle.trace.proofs.write.nineteen.Goals as goal

pub returns : goal.returns
returns c =
    search nineteen_put
