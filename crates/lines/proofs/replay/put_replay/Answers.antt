-- `lines::replay::put_replay` meets its contract. Assumes nothing.
use borrow.Author.Rules.{rules}
use Rattle.lines.proofs.Reporting.{replay-refused, room-events, room-cache, room-report, replay_done}
use Rattle.lines.proofs.replay.put_replay.Goals as goal

ruleset laws = (replay-refused, room-events, room-cache, room-report, replay_done, rules)

pub put_report-requires : goal.put_report-requires
put_report-requires c =
    record { fetches_in_bounds = search laws; resident_in_bounds = search laws; resident_in_bounds_2 = search laws }

pub returns-in-Err : goal.returns-in-Err
returns-in-Err c =
    search laws

pub returns-in-Ok : goal.returns-in-Ok
returns-in-Ok c =
    search laws
