-- `lru_cache::step` meets its contract. Assumes nothing.
use mathlib.Core.Path.{sym, ◌∙◌}
use Rattle.recency.proofs.Keeping.{rows_more}
use Rattle.lru_cache.proofs.Steps.{step_use, stepped_hit, stepped_fetch}
use Rattle.lru_cache.proofs.step.Goals as goal

pub used-requires : goal.used-requires
used-requires c =
    step_use c.requires c.args.x c.find-last.ensures c.make_room-gone.ensures.made

pub returns-then-is_some : goal.returns-then-is_some
returns-then-is_some c =
    record {
      outcome = stepped_hit c.requires c.args.x c.find-last.ensures c.make_room-gone.ensures.made c.used.ensures.holds (sym c.is_some.ensures ∙ c.if-is_some.true);
      rows = rows_more c.used.ensures.rows c.make_room-gone.ensures.rows;
    }

pub returns : goal.returns
returns c =
    record {
      outcome = stepped_fetch c.requires c.args.x c.find-last.ensures c.make_room-gone.ensures.made c.used.ensures.holds (sym c.is_some.ensures ∙ c.if-is_some.false);
      rows = rows_more c.used.ensures.rows c.make_room-gone.ensures.rows;
    }
