-- `trace::write::item` meets its contract. Assumes nothing.
use Rattle.trace.proofs.Writing.{item_put}
use Rattle.trace.proofs.write.item.Goals as goal

pub returns : goal.returns
returns c =
    search item_put
