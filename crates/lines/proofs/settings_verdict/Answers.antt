-- `lines::settings_verdict` meets its contract. Assumes nothing.
use borrow.Author.Tests.{lt-ltb, le-ltb}
use Rattle.limits.proofs.Made.{number_out, number_in}
use Rattle.trace.proofs.Tests.{test_fails, test_passes, tests_done, holds, lacks}
use Rattle.lines.proofs.Settings.{flag_there, flag_missing}
use Rattle.lines.proofs.settings_verdict.Goals as goal

ruleset laws = (test_fails, test_passes, tests_done, holds, lacks, number_out, number_in, flag_there, flag_missing, lt-ltb, le-ltb)

pub returns-then-is_none : goal.returns-then-is_none
returns-then-is_none c =
    search laws depth 10

pub returns-then-input-len : goal.returns-then-input-len
returns-then-input-len c =
    search laws depth 10

pub returns-then-is_field : goal.returns-then-is_field
returns-then-is_field c =
    search laws depth 10

pub returns : goal.returns
returns c =
    search laws depth 10
