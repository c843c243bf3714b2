-- `slim::mend` meets its contract. Assumes nothing.
use mathlib.Core.Path.{sym, ◌∙◌}
use native.Mathlib.Omega.{arith}
use Rattle.filter.specs.Filter.{places}
use Rattle.filter.proofs.Noting.{notes_long}
use Rattle.filter.proofs.Bits.{flag_bit, zeros_clear}
use Rattle.slim.proofs.Mending.{mending_none, mending_stop, mending_clear, mending_all, mending_found, mending_set, mending_leave}
use Rattle.slim.proofs.mend.Goals as goal

-- There is a flag for each place.
pub loop-k-init : goal.loop-k-init
loop-k-init c =
    let within = c.args.table.now.is.notes.within in
    mending_none c.requires (omega (arith, notes_long c.args.table.now.is.notes, c.args.owed.now.is_long))

-- No flag is set: all is settled.
pub returns-then-owed-eq0 : goal.returns-then-owed-eq0
returns-then-owed-eq0 c =
    let none = sym c.loop-k.owed.is_count ∙ c.if-owed-eq0.true in
    record {
      mended = mending_stop c.loop-k.invariant c.loop-k.owed.is_long none;
      clear = mending_clear c.loop-k.invariant c.loop-k.owed.is_long none (flag_bit _);
    }

-- The page of an item has a flag.
pub put-requires : goal.put-requires
put-requires c =
    let found = mending_found c.loop-k.invariant c.loop-k-test.true c.item_at-x.ensures c.in-Some.ensures in
    let long = notes_long c.args.table.now.is.notes in
    let within = c.args.table.now.is.notes.within in
    omega (arith, found)

-- A turn settles the last item of a page that is owed a write,
pub loop-k-preserved-in-Some : goal.loop-k-preserved-in-Some
loop-k-preserved-in-Some c =
    rw c.put.ensures (mending_set c.loop-k.invariant c.loop-k-test.true c.item_at-x.ensures c.in-Some.ensures c.item.ensures)

-- or leaves an item as it is.
pub loop-k-preserved : goal.loop-k-preserved
loop-k-preserved c =
    mending_leave c.loop-k.invariant c.loop-k-test.true c.item_at-x.ensures c.in_default.ensures

-- All items are passed.
pub returns : goal.returns
returns c =
    record { mended = mending_all c.loop-k.invariant c.loop-k-test.false; clear = zeros_clear places c.clear.ensures }
