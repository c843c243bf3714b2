-- `trace::header_verdict` meets its contract. Assumes nothing.
use borrow.Author.Tests.{lt-ltb, le-ltb}
use Rattle.trace.proofs.Tests.{test_fails, test_passes, tests_done, flag}
use Rattle.trace.proofs.Ruling.{flag_rules, flag_long, flag_other, length_fits, bytes_fit}
use Rattle.trace.proofs.header_verdict.Goals as goal

ruleset laws = (test_fails, test_passes, tests_done, flag, lt-ltb, le-ltb, flag_rules, flag_long, flag_other, length_fits, bytes_fit)

pub returns-then-file-lt23 : goal.returns-then-file-lt23
returns-then-file-lt23 c =
    search laws depth 12

pub returns-then-not-is_field : goal.returns-then-not-is_field
returns-then-not-is_field c =
    search laws depth 12

pub returns-then-not-is_field-2 : goal.returns-then-not-is_field-2
returns-then-not-is_field-2 c =
    search laws depth 12

pub returns-then-not-is_field-3 : goal.returns-then-not-is_field-3
returns-then-not-is_field-3 c =
    search laws depth 12

pub returns-then-not-is_field-4 : goal.returns-then-not-is_field-4
returns-then-not-is_field-4 c =
    search laws depth 12

pub returns-then-not-keeps_rules : goal.returns-then-not-keeps_rules
returns-then-not-keeps_rules c =
    search laws depth 12

pub overflow_mul-h : goal.overflow_mul-h
overflow_mul-h c =
    search laws depth 12

pub overflow_add-h : goal.overflow_add-h
overflow_add-h c =
    search laws depth 12

pub returns-then-file-h : goal.returns-then-file-h
returns-then-file-h c =
    search laws depth 12

pub returns : goal.returns
returns c =
    search laws depth 12
