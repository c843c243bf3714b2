-- `filter::lent::Rows::walk` meets its contract. Assumes nothing.
use native.Mathlib.Omega.{arith}
use mathlib.Core.Path.{◌≡◌}
use Rattle.chains.proofs.Counted.{counted_some}
use Rattle.filter.proofs.Finding.{counted_none, find_held, find_less}
use Rattle.filter.proofs.Walking.{walk_none, walk_more, walk_end}
use Rattle.filter.proofs.lent.Rows.walk.Goals as goal

pub loop-at-init : goal.loop-at-init
loop-at-init g c =
    walk_none c.args.self.now.is c.newest-at.ensures

pub test-requires : goal.test-requires
test-requires g c =
    c.requires _ (find_held c.args.self.now.is c.loop-at.invariant.seeking (counted_some c.in-Some.is))

pub returns-then-test-clause-found : goal.returns-then-test-clause-found
returns-then-test-clause-found g c = λ j e.
    let q : c.in-Some.j ≡ j = cc in
    rw (← q) (find_held c.args.self.now.is c.loop-at.invariant.seeking (counted_some c.in-Some.is), rw c.if-test.true at c.test.ensures)

pub link-at-requires : goal.link-at-requires
link-at-requires g c =
    let here = find_held c.args.self.now.is c.loop-at.invariant.seeking (counted_some c.in-Some.is) in
    let room = c.args.self.now.is.notes.within in
    let long = c.args.self.now.is.next_long in
    omega arith

pub loop-at-smaller : goal.loop-at-smaller
loop-at-smaller g c =
    find_less c.args.self.now.is c.loop-at.invariant.seeking (counted_some c.in-Some.is) c.link-at.ensures

-- The place failed: the walk goes on,
pub loop-at-preserved : goal.loop-at-preserved
loop-at-preserved g c =
    walk_more c.args.self.now.is c.loop-at.invariant (counted_some c.in-Some.is) (rw c.if-test.false at c.test.ensures) c.link-at.ensures

-- and ends.
pub returns-clause-nowhere : goal.returns-clause-nowhere
returns-clause-nowhere g c = λ e j o q.
    walk_end c.args.self.now.is c.loop-at.invariant (counted_none c.in_default.is) j o q
