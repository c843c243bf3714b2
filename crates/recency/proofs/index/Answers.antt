-- `recency::index` meets its contract. Assumes nothing.
use Rattle.recency.proofs.Linking.{index_none}
use Rattle.recency.proofs.index.Goals as goal

pub loop-c-init : goal.loop-c-init
loop-c-init c =
    search index_none
