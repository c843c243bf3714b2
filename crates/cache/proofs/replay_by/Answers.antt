-- What the columns say of the frames that can matter, the row says. Assumes nothing.
use Rattle.std.proofs.Common.{length}
use Rattle.cache.proofs.Widening.{reach_within, by_columns}
use Rattle.cache.proofs.replay_by.Goals as goal

pub load-requires : goal.load-requires
load-requires c = (rw c.requires.0 (reach_within (length c.args.frames.now)), c.requires.1)

pub returns : goal.returns
returns c =
    by_columns c.args.file.now c.args.k c.args.frames.now c.args.resident c.args.events.now c.requires.0 c.load.ensures.0 c.load.ensures.1
    c.replay_columns-r.ensures.value c.replay_columns-r.ensures.cache_after c.replay_columns-r.ensures.kept_after c.replay_columns-r.ensures.events_after c.save.ensures
