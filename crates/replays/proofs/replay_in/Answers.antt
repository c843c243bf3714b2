-- `replays::replay_in` meets its contract. Assumes nothing.
use mathlib.Core.Path.{◌≡◌, refl}
use Rattle.std.proofs.lemmas.Result.{err_from_is_err_and}
use Rattle.replays.specs.Replay.{refusal_of}
use Rattle.lru_cache.proofs.Rows.{rows_kept}
use Rattle.trace.proofs.Mapped.{mapped_ok, mapped_err}
use Rattle.replays.proofs.Replaying.{refused-answer, refused_cache, refused-kept, refused_events, done_sound, done_answer, done_cache, done_kept, done_events}
use Rattle.replays.proofs.replay_in.Goals as goal

pub replay_sound-requires : goal.replay_sound-requires
replay_sound-requires c =
    let sound = mapped_ok c.judge.result (λ r u. u ≡ refusal_of r c.args.resident) c.map_err.ensures.cases c.in_ok-map_err.was in
    record {
      events_value = done_sound _ _ _ c.args.kept.now _ c.args.events.now c.requires.kept_len c.judge.ensures sound;
      kept_len = c.requires.kept_len;
      rows = rows_kept c.requires.rows _ _ c.judge.auto.next c.judge.auto.heads;
    }

pub returns-in_err-map_err : goal.returns-in_err-map_err
returns-in_err-map_err c =
    let p = err_from_is_err_and c.from_residual.result c.from_residual.ensures.1 in
    let q = mapped_err c.judge.result (λ r u. u ≡ refusal_of r c.args.resident) c.map_err.ensures.cases c.in_err-map_err.was in
    let events = c.args.events.now in
    let marks = c.requires.kept_len in
    let is = c.judge.ensures in
    record {
      value = rw (p.1, p.2, q.2) (refused-answer _ _ _ c.args.kept.now _ events marks is q.1 refl);
      cache_after = refused_cache _ _ _ c.args.kept.now _ events marks is q.1;
      kept_after = refused-kept _ _ _ c.args.kept.now _ events marks is q.1;
      events_after = refused_events _ _ _ c.args.kept.now _ events marks is q.1;
    }

-- What the replay told and left is the answer.
pub returns : goal.returns
returns c =
    let events = c.args.events.now in
    let marks = c.requires.kept_len in
    let is = c.judge.ensures in
    let sound = mapped_ok c.judge.result (λ r u. u ≡ refusal_of r c.args.resident) c.map_err.ensures.cases c.in_ok-map_err.was in
    record {
      value = done_answer _ _ _ c.args.kept.now _ events marks is sound c.replay_sound.ensures.value;
      cache_after = done_cache _ _ _ c.args.kept.now _ events marks is sound c.replay_sound.ensures.cache_after;
      kept_after = done_kept _ _ _ c.args.kept.now _ events marks is sound c.replay_sound.ensures.kept_after;
      events_after = done_events _ _ _ c.args.kept.now _ events marks is sound c.replay_sound.ensures.events_after;
    }
