-- `slim::reduce` meets its contract. Assumes nothing.
use Rattle.std.proofs.lemmas.Result.{err_from_is_err_and}
use Rattle.slim.proofs.Reducing.{reducing_sound, reduce-refused, reduce-kept, reduce-written, reduce_file}
use Rattle.slim.proofs.reduce.Goals as goal

pub returns-in_err-asked-clause-value : goal.returns-in_err-asked-clause-value
returns-in_err-asked-clause-value c =
    let p = err_from_is_err_and c.from_residual.result c.from_residual.ensures.1 in
    rw p.1 (reduce-refused c.args.file.now c.args.mode c.args.size c.args.out.now c.judge.ensures c.in_err-asked.was p.2)

pub returns-in_err-asked-clause-out_after : goal.returns-in_err-asked-clause-out_after
returns-in_err-asked-clause-out_after c =
    reduce-kept c.args.file.now c.args.mode c.args.size c.args.out.now c.judge.ensures c.in_err-asked.was

pub write_reduced-requires : goal.write_reduced-requires
write_reduced-requires c =
    reducing_sound c.args.file.now c.args.mode c.args.size c.args.out.now c.judge.ensures c.in_ok-asked.was

pub returns-clause-value : goal.returns-clause-value
returns-clause-value c =
    reduce-written c.args.file.now c.args.mode c.args.size c.args.out.now c.judge.ensures c.in_ok-asked.was c.write_reduced.ensures.value

pub returns-clause-out_after : goal.returns-clause-out_after
returns-clause-out_after c =
    reduce_file c.args.file.now c.args.mode c.args.size c.args.out.now c.judge.ensures c.in_ok-asked.was c.write_reduced.ensures.out_after
