-- `trace::write::header` meets its contract. Assumes nothing.
use Rattle.trace.proofs.Writing.{header_put}
use Rattle.trace.proofs.write.header.Goals as goal

pub returns : goal.returns
returns c =
    search header_put
