-- `replays::judge` meets its contract. Assumes nothing.
use Rattle.std.proofs.lemmas.Result.{err_from_is_err_and}
use Rattle.trace.proofs.Checking.{sound_long}
use Rattle.trace.proofs.Tests.{test_fails, test_passes, tests_done}
use Rattle.replays.proofs.Judging.{file_faulty, file_sound, flag_size, size_start, flag_small, flag_large, flag_start, flag_tight, flag_room, events_fit}
use Rattle.replays.proofs.judge.Goals as goal

pub returns-in_err-judge : goal.returns-in_err-judge
returns-in_err-judge c =
    let p = err_from_is_err_and c.from_residual.result c.from_residual.ensures.1 in
    rw (p.1, p.2) (file_faulty c.args.file.now c.args.k c.args.cache.now c.args.resident c.args.room c.judge.ensures c.in_err-judge.was)

pub returns-then-is_none : goal.returns-then-is_none
returns-then-is_none c =
    file_sound c.args.file.now c.args.k c.args.cache.now c.args.resident c.args.room c.judge.ensures c.in_ok-judge.was
    (test_fails _ _ _ (flag_size c.args.k c.new.ensures c.is_none.ensures c.if-is_none.true))

pub header_at-h-requires : goal.header_at-h-requires
header_at-h-requires c =
    sound_long c.args.file.now c.judge.ensures c.in_ok-judge.was

pub returns-then-k-h : goal.returns-then-k-h
returns-then-k-h c =
    file_sound c.args.file.now c.args.k c.args.cache.now c.args.resident c.args.room c.judge.ensures c.in_ok-judge.was
    (test_passes _ _ _ (flag_size c.args.k c.new.ensures c.is_none.ensures c.if-is_none.false)
    (test_fails _ _ _ (flag_small c.args.file.now c.header_at-h.ensures.value c.args.k c.if-k-h.true)))

pub bad_start-requires : goal.bad_start-requires
bad_start-requires c =
    size_start c.args.k c.new.ensures c.is_none.ensures c.if-is_none.false c.requires

pub returns-then-bad_start : goal.returns-then-bad_start
returns-then-bad_start c =
    file_sound c.args.file.now c.args.k c.args.cache.now c.args.resident c.args.room c.judge.ensures c.in_ok-judge.was
    (test_passes _ _ _ (flag_size c.args.k c.new.ensures c.is_none.ensures c.if-is_none.false)
    (test_passes _ _ _ (flag_large c.args.file.now c.header_at-h.ensures.value c.args.k c.if-k-h.false)
    (test_fails _ _ _ (flag_start c.args.k c.args.cache.now c.args.resident c.bad_start.ensures c.if-bad_start.true))))

pub overflow_mul-h : goal.overflow_mul-h
overflow_mul-h c =
    events_fit c.args.file.now c.header_at-h.ensures.value c.judge.ensures c.in_ok-judge.was

pub returns-then-room-h : goal.returns-then-room-h
returns-then-room-h c =
    file_sound c.args.file.now c.args.k c.args.cache.now c.args.resident c.args.room c.judge.ensures c.in_ok-judge.was
    (test_passes _ _ _ (flag_size c.args.k c.new.ensures c.is_none.ensures c.if-is_none.false)
    (test_passes _ _ _ (flag_large c.args.file.now c.header_at-h.ensures.value c.args.k c.if-k-h.false)
    (test_passes _ _ _ (flag_start c.args.k c.args.cache.now c.args.resident c.bad_start.ensures c.if-bad_start.false)
    (test_fails _ _ _ (flag_tight c.args.file.now c.header_at-h.ensures.value c.args.room c.if-room-h.true)))))

pub returns : goal.returns
returns c =
    file_sound c.args.file.now c.args.k c.args.cache.now c.args.resident c.args.room c.judge.ensures c.in_ok-judge.was
    (test_passes _ _ _ (flag_size c.args.k c.new.ensures c.is_none.ensures c.if-is_none.false)
    (test_passes _ _ _ (flag_large c.args.file.now c.header_at-h.ensures.value c.args.k c.if-k-h.false)
    (test_passes _ _ _ (flag_start c.args.k c.args.cache.now c.args.resident c.bad_start.ensures c.if-bad_start.false)
    (test_passes _ _ _ (flag_room c.args.file.now c.header_at-h.ensures.value c.args.room c.if-room-h.false)
    (tests_done)))))
