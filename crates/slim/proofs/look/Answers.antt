-- `slim::look` meets its contract. Assumes nothing.
use mathlib.Core.Path.{refl}
use native.Mathlib.Omega.{arith}
use borrow.Author.Rules.{rules}
use Rattle.slim.proofs.Looking.{looking_none, looking_all, looking_place, looking_old, looking_add, looking_new, looking_full}
use Rattle.slim.proofs.look.Goals as goal
use Rattle.slim.proofs.look.Goals.{in-Some, in_default+else-most-held, else-loop-k-test, then-loop-k-test+in_default+then-most-held}

pub loop-k-init : goal.loop-k-init
loop-k-init c =
    (looking_none c.requires c.args.table.now.is, refl)

pub offset_bounds-last-j : goal.offset_bounds-last-j
offset_bounds-last-j c =
    omega (arith, looking_place c.loop-k.invariant.0 c.loop-k-test.true c.item_at-x.ensures c.in-Some.ensures)

pub bounds-last-j : goal.bounds-last-j
bounds-last-j c =
    looking_place c.loop-k.invariant.0 c.loop-k-test.true c.item_at-x.ensures c.in-Some.ensures

-- An item whose page is new may be added to a filter that is not full.
pub add-requires-clause-can_add : goal.add-requires-clause-can_add
add-requires-clause-can_add c =
    looking_add c.loop-k.invariant.0 c.loop-k-test.true c.item_at-x.ensures c.in_default.ensures (omega (arith, c.if-most-held.false)) (search rules)

-- A turn passes an item whose page is in the filter, or is added to it.
pub loop-k-preserved : goal.loop-k-preserved
loop-k-preserved c =
    let (looking, end) = c.loop-k.invariant in
    elim c.match-find.branch [
      | in-Some w ↦ rw (w.held-is, w.last-is, w.heads-is, w.next-is) (
        looking_old looking c.loop-k-test.true c.item_at-x.ensures w.in-Some.ensures (omega arith),
        end,
      )
      | in_default+else-most-held w ↦ rw (w.held-is, w.last-is, w.heads-is, w.next-is) (
        looking_new looking c.loop-k-test.true c.item_at-x.ensures w.in_default.ensures (omega (arith, w.if-most-held.false)) (search rules)
            w.add.ensures.last_after w.add.ensures.holds,
        end,
      )
    ]

-- A stretch ends with the trace, or before an item whose page is new to a full filter.
pub returns-clause-looked : goal.returns-clause-looked
returns-clause-looked c =
    let (looking, end) = c.loop-k.invariant in
    elim c.loop-k-test.branch [
      | else-loop-k-test w ↦ rw (w.table-is, w.end-is, end) (looking_all looking (omega arith) w.loop-k-test.false)
      | then-loop-k-test+in_default+then-most-held w ↦ rw (w.table-is, w.end-is) (
          looking_full looking w.loop-k-test.true w.item_at-x.ensures w.in_default.ensures (omega (arith, looking.holds, w.if-most-held.true)) (omega (arith, w.if-most-held.true)))
    ]

pub returns-clause-within : goal.returns-clause-within
returns-clause-within c =
    let (looking, end) = c.loop-k.invariant in
    elim c.loop-k-test.branch [
      | else-loop-k-test w ↦ rw (w.end-is, end) (record { begins = looking.can.within; ends = omega arith; holds = omega (arith, looking.holds) })
      | then-loop-k-test+in_default+then-most-held w ↦ rw w.end-is (record { begins = looking.begins; ends = looking.ends; holds = omega (arith, looking.holds) })
    ]
