-- `recency::Log::append` meets its contract. Assumes nothing.
use native.Mathlib.Omega.{arith}
use lib.ListN.{length-set}
use Rattle.recency.proofs.Appending.{append_link, append_shorten, append_short, appended}
use Rattle.recency.proofs.Keeping.{rows_none, rows_stored, rows_chained, rows_more}
use Rattle.recency.proofs.Log.append.Goals as goal

pub link-requires : goal.link-requires
link-requires c =
    append_link c.requires

pub shorten-requires : goal.shorten-requires
shorten-requires c =
    append_shorten c.requires c.args.written c.of.ensures c.link.new.next c.link.new.heads c.link.ensures

pub returns-then-self : goal.returns-then-self
returns-then-self c =
    record {
      holds = append_short c.requires c.args.written c.of.ensures c.link.new.next c.link.new.heads c.shorten.ensures.holds;
      rows = rows_more c.shorten.ensures.rows (rows_chained (rows_stored (rows_none _) _ _ _ _) c.link.auto.next c.link.auto.heads);
    }

pub returns-else-self : goal.returns-else-self
returns-else-self c =
    record {
      holds = appended c.requires c.args.written c.of.ensures c.link.new.next c.link.new.heads c.link.ensures (omega (arith, length-set c.args.self.now.pages.now c.args.self.now.queue.now c.args.page));
      rows = rows_chained (rows_stored (rows_none _) _ _ _ _) c.link.auto.next c.link.auto.heads;
    }
