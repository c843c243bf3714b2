-- `lines::reduce::program` meets its contract. Assumes nothing.
use borrow.Author.Rules.{rules}
use Rattle.lines.proofs.Reduction.{settings_refused, settings_long, settings_mode, library_refused, library_bytes, library_fits, library_written}
use Rattle.lines.proofs.reduce.program.Goals as goal

ruleset laws = (settings_refused, settings_long, settings_mode, library_refused, library_bytes, library_fits, library_written, rules)

pub returns-in-Err : goal.returns-in-Err
returns-in-Err c =
    search laws

pub number_at-mode-requires-clause-in_bounds : goal.number_at-mode-requires-clause-in_bounds
number_at-mode-requires-clause-in_bounds c =
    search laws

pub number_at-size-requires-clause-in_bounds : goal.number_at-size-requires-clause-in_bounds
number_at-size-requires-clause-in_bounds c =
    search laws

pub slice_bounds-reduce-count : goal.slice_bounds-reduce-count
slice_bounds-reduce-count c =
    search laws

pub slice_bounds-reduce-start : goal.slice_bounds-reduce-start
slice_bounds-reduce-start c =
    search laws

pub overflow_mul-result : goal.overflow_mul-result
overflow_mul-result c =
    search laws

pub overflow_add-result : goal.overflow_add-result
overflow_add-result c =
    search laws

pub returns-in-Err-reduce : goal.returns-in-Err-reduce
returns-in-Err-reduce c =
    search laws

pub returns-in-Ok : goal.returns-in-Ok
returns-in-Ok c =
    search laws
