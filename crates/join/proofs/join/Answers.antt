-- `join::join` meets its contract. Assumes nothing.
use Rattle.std.proofs.lemmas.Result.{err_from_is_err_and}
use Rattle.join.proofs.Joining.{joining_passed, join_refused, join_kept, join_written, join_file}
use Rattle.join.proofs.join.Goals as goal

pub returns-in_err-judge-clause-value : goal.returns-in_err-judge-clause-value
returns-in_err-judge-clause-value c =
    let p = err_from_is_err_and c.from_residual.result c.from_residual.ensures.1 in
    rw (p.1, p.2) (join_refused c.args.f.now c.args.g.now c.args.out.now c.judge.ensures c.in_err-judge.was)

pub returns-in_err-judge-clause-out_after : goal.returns-in_err-judge-clause-out_after
returns-in_err-judge-clause-out_after c =
    join_kept c.args.f.now c.args.g.now c.args.out.now c.judge.ensures c.in_err-judge.was

pub write_joined-requires : goal.write_joined-requires
write_joined-requires c =
    joining_passed c.args.f.now c.args.g.now c.args.out.now c.judge.ensures c.in_ok-judge.was

pub returns-clause-value : goal.returns-clause-value
returns-clause-value c =
    join_written c.args.f.now c.args.g.now c.args.out.now c.judge.ensures c.in_ok-judge.was c.write_joined.ensures.value

pub returns-clause-out_after : goal.returns-clause-out_after
returns-clause-out_after c =
    join_file c.args.f.now c.args.g.now c.args.out.now c.judge.ensures c.in_ok-judge.was c.write_joined.ensures.out_after
