-- `lines::replay::program` meets its contract. Assumes nothing.
use borrow.Author.Rules.{rules}
use Rattle.lines.proofs.Reporting.{settings_refused, settings_long, trace_short, program_done}
use Rattle.lines.proofs.replay.program.Goals as goal

ruleset laws = (settings_refused, settings_long, trace_short, program_done, rules)

pub returns-in-Err : goal.returns-in-Err
returns-in-Err c =
    search laws

pub number_at-k-requires-clause-in_bounds : goal.number_at-k-requires-clause-in_bounds
number_at-k-requires-clause-in_bounds c =
    search laws

pub slice_bounds-put_replay-count : goal.slice_bounds-put_replay-count
slice_bounds-put_replay-count c =
    search laws

pub slice_bounds-put_replay-start : goal.slice_bounds-put_replay-start
slice_bounds-put_replay-start c =
    search laws

pub put_replay-requires : goal.put_replay-requires
put_replay-requires c =
    search laws

pub returns : goal.returns
returns c =
    search laws
