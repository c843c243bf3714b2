-- `lru_cache::play` meets its contract. Assumes nothing.
use Rattle.recency.proofs.Keeping.{rows_none, rows_more}
use Rattle.lru_cache.proofs.Turns.{running_none, running_step, running_put, running_fits, running_room, running_more, running_all}
use Rattle.lru_cache.proofs.play.Goals as goal

pub loop-i-init : goal.loop-i-init
loop-i-init c =
    (running_none c.args.items.file.now c.requires, rows_none _)

pub step-fetch-requires : goal.step-fetch-requires
step-fetch-requires c =
    running_step c.loop-i.invariant.0 c.requires c.loop-i-test.true c.loop-i.invariant.1.long

pub overflow_mul-t : goal.overflow_mul-t
overflow_mul-t c =
    running_fits c.loop-i.invariant.0 c.requires c.loop-i-test.true

pub put-requires : goal.put-requires
put-requires c =
    running_put c.loop-i.invariant.0 c.requires c.loop-i-test.true

-- The item can be counted.
pub count-requires : goal.count-requires
count-requires c =
    running_room c.loop-i.invariant.0 c.requires c.loop-i-test.true

-- A turn takes the item that is read, with what its step did.
pub loop-i-preserved : goal.loop-i-preserved
loop-i-preserved c = (
  running_more c.loop-i.invariant.0 c.requires c.loop-i-test.true c.at-x.ensures c.step-fetch.ensures.outcome c.put.ensures c.count.ensures c.put.auto.events,
  rows_more c.step-fetch.ensures.rows c.loop-i.invariant.1,
)

pub returns : goal.returns
returns c =
    record { plays = running_all c.loop-i.invariant.0 c.requires c.loop-i.auto.i-end c.loop-i-test.false; rows = c.loop-i.invariant.1 }
