-- `recency::Log::shorten` meets its contract. Assumes nothing.
use Rattle.recency.proofs.Fresh.{shorten_index, shortened}
use Rattle.recency.proofs.Keeping.{rows_chained}
use Rattle.recency.proofs.Log.shorten.Goals as goal

pub index-requires : goal.index-requires
index-requires c =
    shorten_index c.requires c.pack-n.ensures.packed c.pack-n.ensures.rows.long

pub returns : goal.returns
returns c =
    record {
      holds = shortened c.requires c.pack-n.ensures.packed c.pack-n.ensures.rows.long c.index.ensures;
      rows = rows_chained c.pack-n.ensures.rows c.index.auto.next c.index.auto.heads;
    }
