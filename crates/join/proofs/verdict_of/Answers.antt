-- `join::verdict_of` meets its contract. Assumes nothing.
use Rattle.trace.proofs.Tests.{test_fails, test_passes, tests_done}
use Rattle.limits.proofs.Made.{number_out, number_in}
use Rattle.join.proofs.Judging.{header_there, large_items, large_references, not_large, room-there, no_room, falling, not_falling}
use Rattle.join.proofs.verdict_of.Goals as goal

ruleset laws = (number_out, number_in, test_fails, test_passes, tests_done, header_there, large_items, large_references, not_large, room-there, no_room, falling, not_falling)

pub returns-then-falls : goal.returns-then-falls
returns-then-falls c =
    search laws depth 12

pub header_of-h-requires : goal.header_of-h-requires
header_of-h-requires c =
    search laws

pub returns-then-is_none : goal.returns-then-is_none
returns-then-is_none c =
    search laws depth 12

pub returns-then-h-gt4294967295 : goal.returns-then-h-gt4294967295
returns-then-h-gt4294967295 c =
    search laws depth 12

pub returns-then-h-room : goal.returns-then-h-room
returns-then-h-room c =
    search laws depth 12

pub returns : goal.returns
returns c =
    search laws depth 12
