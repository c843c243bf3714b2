-- `trace::read::item_at` meets its contract. Assumes nothing.
use Rattle.trace.proofs.Reading.{item_read}
use Rattle.trace.proofs.read.item_at.Goals as goal

pub returns : goal.returns
returns c =
    search item_read
