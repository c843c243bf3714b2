-- `trace::judge` meets its contract. Assumes nothing.
use mathlib.Core.Path.{refl}
use Rattle.std.proofs.lemmas.Result.{err_from_is_err_and}
use Rattle.trace.proofs.Checking.{judge_header, judge_room, judge_items}
use Rattle.trace.proofs.judge.Goals as goal

pub returns-in_err-header_verdict : goal.returns-in_err-header_verdict
returns-in_err-header_verdict c =
    let p = err_from_is_err_and c.from_residual.result c.from_residual.ensures.1 in
    rw (p.1, p.2) (judge_header c.args.file.now c.header_verdict.ensures c.in_err-header_verdict.was)

pub of-requires : goal.of-requires
of-requires c =
    judge_room c.args.file.now c.header_verdict.ensures c.in_ok-header_verdict.was refl

pub returns : goal.returns
returns c =
    judge_items c.args.file.now c.header_verdict.ensures c.in_ok-header_verdict.was refl (rw (c.of.ensures.count, c.of.ensures.file) at c.items_verdict.ensures)
