-- `slim::judge` meets its contract. Assumes nothing.
use borrow.Author.Tests.{lt-ltb, le-ltb}
use Rattle.std.proofs.lemmas.Result.{err_from_is_err_and}
use Rattle.limits.proofs.Numbers.{filter_least, filter_most}
use Rattle.limits.proofs.Made.{number_out, number_in}
use Rattle.trace.proofs.Checking.{sound_long}
use Rattle.trace.proofs.Tests.{test_fails, test_passes, tests_done, holds, lacks}
use Rattle.slim.proofs.Judging.{asked_is, asked_of, asked_not, asked_bad, file_faulty, file_sound, judged_err, judged_ok, flag_reduced, flag_whole, flag_rising}
use Rattle.slim.proofs.judge.Goals as goal

pub returns-in_err-judge : goal.returns-in_err-judge
returns-in_err-judge c =
    let p = err_from_is_err_and c.from_residual.result c.from_residual.ensures.1 in
    rw (p.1, p.2) (judged_err c.args.file.now c.args.mode c.args.size c.args.room (file_faulty _ _ _ _ c.judge.ensures c.in_err-judge.was))

-- No mode has this number.
pub returns-in_err-asked : goal.returns-in_err-asked
returns-in_err-asked c =
    let p = err_from_is_err_and c.from_residual-in_err-asked.result c.from_residual-in_err-asked.ensures.1 in
    let b = asked_bad c.args.mode c.try_from.ensures c.in_err-asked.was in
    let n = lacks _ (asked_not c.args.mode c.try_from.ensures c.in_err-asked.was) in
    rw (p.1, p.2, b) (judged_err c.args.file.now c.args.mode c.args.size c.args.room (file_sound _ _ _ _ c.judge.ensures c.in_ok-judge.was (test_fails _ _ _ n)))

pub returns-then-is_none : goal.returns-then-is_none
returns-then-is_none c =
    let m = holds _ (asked_is c.args.mode c.try_from.ensures c.in_ok-asked.was) in
    let n = lacks _ (number_out filter_least filter_most c.args.size c.new.ensures c.is_none.ensures c.if-is_none.true) in
    judged_err c.args.file.now c.args.mode c.args.size c.args.room (file_sound _ _ _ _ c.judge.ensures c.in_ok-judge.was (test_passes _ _ _ m (test_fails _ _ _ n)))

pub header_at-h-requires : goal.header_at-h-requires
header_at-h-requires c =
    sound_long c.args.file.now c.judge.ensures c.in_ok-judge.was

pub returns-then-h-ne0 : goal.returns-then-h-ne0
returns-then-h-ne0 c =
    let m = holds _ (asked_is c.args.mode c.try_from.ensures c.in_ok-asked.was) in
    let n = holds _ (number_in filter_least filter_most c.args.size c.new.ensures c.is_none.ensures c.if-is_none.false) in
    let k = flag_reduced c.args.file.now c.header_at-h.ensures.value c.if-h-ne0.true in
    judged_err c.args.file.now c.args.mode c.args.size c.args.room (file_sound _ _ _ _ c.judge.ensures c.in_ok-judge.was (test_passes _ _ _ m (test_passes _ _ _ n (test_fails _ _ _ k))))

pub returns-then-file-room : goal.returns-then-file-room
returns-then-file-room c =
    let m = holds _ (asked_is c.args.mode c.try_from.ensures c.in_ok-asked.was) in
    let n = holds _ (number_in filter_least filter_most c.args.size c.new.ensures c.is_none.ensures c.if-is_none.false) in
    let k = flag_whole c.args.file.now c.header_at-h.ensures.value c.if-h-ne0.false in
    let l = le-ltb c.args.room _ c.if-file-room.true in
    let t = flag_rising c.args.file.now c.args.mode c.args.size c.judge.ensures c.in_ok-judge.was in
    judged_ok c.args.file.now c.args.mode c.args.size c.args.room
    (file_sound _ _ _ _ c.judge.ensures c.in_ok-judge.was (test_passes _ _ _ m (test_passes _ _ _ n (test_passes _ _ _ k (test_passes _ _ _ l (test_passes _ _ _ t tests_done))))))
    (asked_of c.args.mode c.try_from.ensures c.in_ok-asked.was)

pub returns : goal.returns
returns c =
    let m = holds _ (asked_is c.args.mode c.try_from.ensures c.in_ok-asked.was) in
    let n = holds _ (number_in filter_least filter_most c.args.size c.new.ensures c.is_none.ensures c.if-is_none.false) in
    let k = flag_whole c.args.file.now c.header_at-h.ensures.value c.if-h-ne0.false in
    let l = lt-ltb c.args.room _ c.if-file-room.false in
    judged_err c.args.file.now c.args.mode c.args.size c.args.room
    (file_sound _ _ _ _ c.judge.ensures c.in_ok-judge.was (test_passes _ _ _ m (test_passes _ _ _ n (test_passes _ _ _ k (test_fails _ _ _ l)))))
