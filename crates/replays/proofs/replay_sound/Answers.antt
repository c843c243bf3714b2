-- `replays::replay_sound` meets its contract. Assumes nothing.
use Rattle.replays.proofs.Replaying.{played_long, played_run, played_few, played_summary, played_cache, played_kept, played_events}
use Rattle.replays.proofs.replay_sound.Goals as goal

pub of-items-requires : goal.of-items-requires
of-items-requires c =
    played_long _ _ _ c.args.kept.now _ c.args.events.now c.requires.kept_len c.requires.events_value

-- What was told of the file holds of the loop and of the rate.
pub run-t-requires : goal.run-t-requires
run-t-requires c =
    record {
      can_run = played_run _ _ _ c.args.kept.now _ c.args.events.now c.requires.kept_len c.requires.events_value c.of-items.ensures.count;
      rows = c.requires.rows;
    }

pub per_million-requires : goal.per_million-requires
per_million-requires c =
    let ran = rw c.of-items.ensures.file at c.run-t.ensures.ran in
    played_few _ _ _ c.args.kept.now _ c.args.events.now c.requires.kept_len c.requires.events_value c.of-items.ensures.count ran

pub returns : goal.returns
returns c =
    let marks = c.requires.kept_len in
    let sound = c.requires.events_value in
    let count = c.of-items.ensures.count in
    let ran = rw c.of-items.ensures.file at c.run-t.ensures.ran in
    record {
      value = played_summary _ _ _ c.args.kept.now _ c.args.events.now marks sound count ran c.per_million.ensures;
      cache_after = played_cache _ _ _ c.args.kept.now _ c.args.events.now marks sound count ran;
      kept_after = played_kept _ _ _ c.args.kept.now _ c.args.events.now marks sound count ran;
      events_after = played_events _ _ _ c.args.kept.now _ c.args.events.now marks sound count ran;
    }
