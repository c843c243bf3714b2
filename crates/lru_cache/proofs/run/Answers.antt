-- `lru_cache::run` meets its contract. Assumes nothing.
use Rattle.recency.proofs.Keeping.{rows_more}
use Rattle.lru_cache.proofs.Rows.{run_load, run_play, run_save, run_done}
use Rattle.lru_cache.proofs.run.Goals as goal

pub load-requires : goal.load-requires
load-requires c =
    run_load c.requires.can_run c.requires.rows

pub play-t-requires : goal.play-t-requires
play-t-requires c =
    run_play c.requires.can_run c.requires.rows c.load.ensures.holds c.load.ensures.rows.long

pub save-requires : goal.save-requires
save-requires c =
    run_save c.requires.can_run c.requires.rows c.load.ensures.holds c.load.ensures.rows.long c.args.items.file.now c.play-t.ensures.plays

pub returns : goal.returns
returns c =
    record {
      ran = run_done c.requires.can_run c.requires.rows c.load.ensures.holds c.load.ensures.rows.long c.args.items.file.now c.play-t.ensures.plays
          c.save.ensures.list_after c.save.ensures.kept_after;
      rows = rows_more c.play-t.ensures.rows c.load.ensures.rows;
    }
