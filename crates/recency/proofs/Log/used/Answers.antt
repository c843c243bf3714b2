-- `recency::Log::used` meets its contract. Assumes nothing.
use Rattle.recency.proofs.Appending.{use_reads, use_mark, use_append, use_done}
use Rattle.recency.proofs.Keeping.{rows_more}
use Rattle.recency.proofs.Log.used.Goals as goal

pub stays_written-w-requires : goal.stays_written-w-requires
stays_written-w-requires c =
    use_reads c.requires

pub mark-requires : goal.mark-requires
mark-requires c =
    use_mark c.requires

pub append-requires : goal.append-requires
append-requires c =
    use_append c.requires c.mark.ensures.changed

pub returns : goal.returns
returns c =
    record {
      holds = use_done c.requires c.args.written c.stays_written-w.ensures c.mark.ensures.changed c.append.ensures.holds;
      rows = rows_more c.append.ensures.rows c.mark.ensures.rows;
    }
