-- What the refusal is made of.
use mathlib.Core.Path.{◌≡◌}
use Rattle.replays.specs.Replay.{refusal_of}
use Rattle.replays.proofs.fn.replay_in.map_err.Given as goal

abbrev pub ensures : goal.ensures
ensures l r = r ≡ refusal_of l.reason l.resident
