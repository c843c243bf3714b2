-- `join::judge` meets its contract. Assumes nothing.
use mathlib.Core.Path.{◌≡◌, refl, ◌∙◌}
use Rattle.std.proofs.lemmas.Result.{err_from_is_err_and}
use Rattle.trace.specs.Refusals.{row, of_second}
use Rattle.trace.proofs.Mapped.{mapped_ok, mapped_err}
use Rattle.join.proofs.Judging.{first-refused, second_refused, both_refused, none_refused}
use Rattle.join.proofs.judge.Goals as goal

pub returns-in_err-judge : goal.returns-in_err-judge
returns-in_err-judge c =
    let p = err_from_is_err_and c.from_residual.result c.from_residual.ensures.1 in
    rw p.1 (first-refused c.args.f.now c.args.g.now c.args.room c.judge.ensures c.in_err-judge.was p.2)

pub returns-in_err-map_err : goal.returns-in_err-map_err
returns-in_err-map_err c =
    let p = err_from_is_err_and c.from_residual-in_err-map_err.result c.from_residual-in_err-map_err.ensures.1 in
    let q = mapped_err c.judge-2.result (λ r b. b ≡ of_second (row r)) c.map_err.ensures.cases c.in_err-map_err.was in
    rw p.1 (second_refused c.args.f.now c.args.g.now c.args.room c.judge.ensures c.in_ok-judge.was c.judge-2.ensures q.1 refl (p.2 ∙ q.2))

pub returns-in_err-verdict_of : goal.returns-in_err-verdict_of
returns-in_err-verdict_of c =
    let p = err_from_is_err_and c.from_residual-in_err-verdict_of.result c.from_residual-in_err-verdict_of.ensures.1 in
    let s = mapped_ok c.judge-2.result (λ r b. b ≡ of_second (row r)) c.map_err.ensures.cases c.in_ok-map_err.was in
    rw p.1 (both_refused c.args.f.now c.args.g.now c.args.room c.judge.ensures c.in_ok-judge.was c.judge-2.ensures s c.verdict_of.ensures c.in_err-verdict_of.was p.2)

pub returns : goal.returns
returns c =
    let s = mapped_ok c.judge-2.result (λ r b. b ≡ of_second (row r)) c.map_err.ensures.cases c.in_ok-map_err.was in
    none_refused c.args.f.now c.args.g.now c.args.room c.judge.ensures c.in_ok-judge.was c.judge-2.ensures s c.verdict_of.ensures c.in_ok-verdict_of.was
