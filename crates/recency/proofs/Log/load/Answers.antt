-- `recency::Log::load` meets its contract. Assumes nothing.
use Rattle.recency.proofs.Fresh.{load_copy, load_index, loaded}
use Rattle.recency.proofs.Keeping.{rows_chained}
use Rattle.recency.proofs.Log.load.Goals as goal

pub copy_back-requires : goal.copy_back-requires
copy_back-requires c =
    load_copy c.requires

pub index-requires : goal.index-requires
index-requires c =
    load_index c.requires c.copy_back.ensures.copied c.copy_back.ensures.rows.long

pub returns : goal.returns
returns c =
    record {
      holds = loaded c.requires c.copy_back.ensures.copied c.copy_back.ensures.rows.long c.index.ensures;
      rows = rows_chained c.copy_back.ensures.rows c.index.auto.next c.index.auto.heads;
    }
