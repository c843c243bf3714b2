-- `slim::keep` meets its contract. Assumes nothing.
use native.Mathlib.Omega.{arith}
use Rattle.filter.proofs.Noting.{notes_long}
use Rattle.slim.proofs.Keeping.{keeping_none, keeping_has, keeping_flag}
use Rattle.slim.proofs.Keeping.{keeping_new, keeping_last, keeping_skip, keeping_drop, keeping_count, keeping_bytes, keeping_flags}
use Rattle.slim.proofs.keep.Goals as goal
use Rattle.slim.proofs.keep.Goals.{then-is_at, else-is_at+then-skip-k, else-is_at+else-skip-k+then-x, else-is_at+else-skip-k+else-x}

-- There is a flag for each place.
pub loop-k-init : goal.loop-k-init
loop-k-init c =
    let within = c.args.table.now.is.notes.within in
    keeping_none _ c.requires (omega (arith, notes_long c.args.table.now.is.notes, c.args.owed.now.is_long))

pub is_at-requires : goal.is_at-requires
is_at-requires c =
    keeping_has c.loop-k.invariant c.loop-k-test.true c.item_at-x.ensures

-- The count of pages fits: there is a flag for each.
pub overflow_add-c : goal.overflow_add-c
overflow_add-c c =
    let flag = keeping_flag c.loop-k.invariant c.loop-k-test.true c.item_at-x.ensures c.is_at.ensures c.if-is_at.true in
    let long = c.loop-k.owed.is_long in
    record { fits = omega arith }

-- The page of a write that is dropped is in the filter.
pub owe-requires : goal.owe-requires
owe-requires c =
    keeping_has c.loop-k.invariant c.loop-k-test.true c.item_at-x.ensures

-- A turn writes an item that is the first of its page, or the last, or drops a write or a read.
pub loop-k-preserved : goal.loop-k-preserved
loop-k-preserved c =
    let at = c.loop-k.invariant in
    let test = c.loop-k-test.true in
    let read = c.item_at-x.ensures in
    let notes = c.args.table.now.is.notes in
    elim c.if-is_at.branch [
      | then-is_at w ↦ rw (w.owed-is, w.out-is, w.c-is, w.m-is, w.skip-is) (keeping_new at test read c.is_at.ensures w.if-is_at.true w.item.ensures)
      | else-is_at+then-skip-k w ↦ rw (w.owed-is, w.out-is, w.c-is, w.m-is, w.skip-is) (
          keeping_last at test read c.is_at.ensures w.if-is_at.false notes w.noted_from-skip.ensures w.if-skip-k.true w.item-then-skip-k.ensures)
      | else-is_at+else-skip-k+then-x w ↦ rw (w.owed-is, w.out-is, w.c-is, w.m-is, w.skip-is) (
          keeping_drop at test read c.is_at.ensures w.if-is_at.false notes w.noted_from-skip.ensures w.if-skip-k.false w.if-x.true w.owe.ensures)
      | else-is_at+else-skip-k+else-x w ↦ rw (w.owed-is, w.out-is, w.c-is, w.m-is, w.skip-is) (
          keeping_skip at test read c.is_at.ensures w.if-is_at.false notes w.noted_from-skip.ensures w.if-skip-k.false w.if-x.false)
    ]

-- The stretch is passed.
pub returns : goal.returns
returns c =
    let at = c.loop-k.invariant in
    let test = c.loop-k-test.false in
    record { done_value = keeping_count at test; out_after = keeping_bytes at test; flags = keeping_flags at test }
