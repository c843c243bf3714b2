-- `slim::slim` meets its contract. Assumes nothing.
use Rattle.filter.proofs.Noting.{notes_long}
use Rattle.slim.proofs.Slimming.{pages_none, slimming_none, slimming_same, slimming_look, slimming_keep, slimming_mend, slimming_moves}
use Rattle.slim.proofs.Slimming.{slimming_full, slimming_else, slimming_count, slimming_bytes}
use Rattle.slim.proofs.slim.Goals as goal

pub loop-i-init : goal.loop-i-init
loop-i-init c =
    slimming_none _ _ _ _ _ _ _ c.requires

pub look-end-requires : goal.look-end-requires
look-end-requires c =
    slimming_look c.loop-i.invariant c.loop-i-test.true c.limit_of-most.ensures

-- The second pass follows the first.
pub keep-m-requires : goal.keep-m-requires
keep-m-requires c =
    let at = slimming_same c.loop-i.invariant c.look-end.ensures.file in
    slimming_keep at c.loop-i-test.true c.limit_of-most.ensures c.look-end.ensures.looked c.look-end.ensures.within (notes_long c.look-end.new.table.is.notes)

-- The items of an epoch that ends may be mended.
pub end_epoch-requires : goal.end_epoch-requires
end_epoch-requires c =
    let at = slimming_same c.loop-i.invariant c.look-end.ensures.file in
    slimming_mend at c.loop-i-test.true c.limit_of-most.ensures c.look-end.ensures.looked c.look-end.ensures.within (notes_long c.look-end.new.table.is.notes)
    c.keep-m.ensures.done_value c.keep-m.ensures.out_after c.keep-m.ensures.flags

-- Fewer items are left after a stretch that ends an epoch, and the next begins with no page;
pub loop-i-smaller-then-table-size : goal.loop-i-smaller-then-table-size
loop-i-smaller-then-table-size c =
    let at = slimming_same c.loop-i.invariant c.look-end.ensures.file in
    slimming_moves at c.loop-i-test.true c.limit_of-most.ensures c.look-end.ensures.looked c.look-end.ensures.within (notes_long c.look-end.new.table.is.notes)

pub loop-i-preserved-then-table-size : goal.loop-i-preserved-then-table-size
loop-i-preserved-then-table-size c =
    let at = slimming_same c.loop-i.invariant c.look-end.ensures.file in
    slimming_full at c.loop-i-test.true c.limit_of-most.ensures c.look-end.ensures.looked c.look-end.ensures.within (notes_long c.look-end.new.table.is.notes)
    c.keep-m.ensures.done_value c.keep-m.ensures.out_after c.keep-m.ensures.flags
    c.if-table-size.true c.end_epoch.ensures.mended c.end_epoch.ensures.clear c.empty.ensures.file (pages_none _ _ c.empty.ensures.held) c.empty.ensures.held

-- fewer are left after one that does not, and the next goes on with its pages.
pub loop-i-smaller : goal.loop-i-smaller
loop-i-smaller c =
    let at = slimming_same c.loop-i.invariant c.look-end.ensures.file in
    slimming_moves at c.loop-i-test.true c.limit_of-most.ensures c.look-end.ensures.looked c.look-end.ensures.within (notes_long c.look-end.new.table.is.notes)

pub loop-i-preserved : goal.loop-i-preserved
loop-i-preserved c =
    let at = slimming_same c.loop-i.invariant c.look-end.ensures.file in
    slimming_else at c.loop-i-test.true c.limit_of-most.ensures c.look-end.ensures.looked c.look-end.ensures.within (notes_long c.look-end.new.table.is.notes)
    c.keep-m.ensures.done_value c.keep-m.ensures.out_after c.keep-m.ensures.flags c.if-table-size.false

-- All is done.
pub returns : goal.returns
returns c =
    record { value = slimming_count c.loop-i.invariant c.loop-i-test.false; out_after = slimming_bytes c.loop-i.invariant c.loop-i-test.false }
