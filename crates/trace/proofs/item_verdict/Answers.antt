-- `trace::item_verdict` meets its contract. Assumes nothing.
use borrow.Author.Rules.{rules}
use Rattle.trace.proofs.Tests.{test_fails, test_passes, tests_done}
use Rattle.trace.proofs.Walk.{flag_field, flag_falls, flag_rises}
use Rattle.trace.proofs.item_verdict.Goals as goal

ruleset laws = (test_fails, test_passes, tests_done, flag_field, flag_falls, flag_rises, rules)

pub overflow_mul-i : goal.overflow_mul-i
overflow_mul-i c =
    search laws depth 8

pub overflow_add-i : goal.overflow_add-i
overflow_add-i c =
    search laws depth 8

pub tag_of-requires : goal.tag_of-requires
tag_of-requires c =
    search laws

pub overflow_cast-tag_of : goal.overflow_cast-tag_of
overflow_cast-tag_of c =
    search laws depth 8

pub is_field-requires : goal.is_field-requires
is_field-requires c =
    search laws

pub returns-then-not-is_field : goal.returns-then-not-is_field
returns-then-not-is_field c =
    search laws depth 8

pub returns-then-x-before : goal.returns-then-x-before
returns-then-x-before c =
    search laws depth 8

pub returns : goal.returns
returns c =
    search laws depth 8
