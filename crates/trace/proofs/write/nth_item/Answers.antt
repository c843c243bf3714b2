-- `trace::write::nth_item` meets its contract. Assumes nothing.
use Rattle.trace.proofs.Writing.{nth_put}
use Rattle.trace.proofs.write.nth_item.Goals as goal

pub returns : goal.returns
returns c =
    search nth_put
