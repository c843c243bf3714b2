-- `trace::items_verdict` meets its contract. Assumes nothing.
use borrow.Author.Rules.{rules}
use Rattle.std.proofs.lemmas.Result.{err_from_is_err_and}
use Rattle.trace.proofs.Walk.{walked_none, walked_more, walked_faulty, walked_all}
use Rattle.trace.proofs.items_verdict.Goals as goal

ruleset laws = (walked_none, walked_more, walked_faulty, walked_all, rules)

pub loop-i-init : goal.loop-i-init
loop-i-init c =
    search laws

pub loop-i-preserved : goal.loop-i-preserved
loop-i-preserved c =
    search laws

pub returns : goal.returns
returns c =
    search laws

-- The first item at fault is told.
pub returns-in_err-item_verdict : goal.returns-in_err-item_verdict
returns-in_err-item_verdict c =
    let p = err_from_is_err_and c.from_residual.result c.from_residual.ensures.1 in
    rw (p.1, p.2) (walked_faulty c.loop-i.invariant c.loop-i-test.true c.item_verdict.ensures c.in_err-item_verdict.was)
