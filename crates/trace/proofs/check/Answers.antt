-- `trace::check` meets its contract. Assumes nothing.
use Rattle.std.proofs.lemmas.Result.{err_from_is_err_and}
use Rattle.trace.proofs.Checking.{check_faulty, check_sound, sound_long}
use Rattle.trace.proofs.check.Goals as goal

-- `?` turns the reason into what is told.
pub returns-in_err-judge : goal.returns-in_err-judge
returns-in_err-judge c =
    let p = err_from_is_err_and c.from_residual.result c.from_residual.ensures.1 in
    rw p.1 (check_faulty c.args.file.now c.judge.ensures c.in_err-judge.was p.2)

pub header_at-requires : goal.header_at-requires
header_at-requires c =
    sound_long c.args.file.now c.judge.ensures c.in_ok-judge.was

pub returns : goal.returns
returns c =
    check_sound c.args.file.now c.judge.ensures c.in_ok-judge.was c.header_at.ensures.value
