-- `recency::find` meets its contract. Assumes nothing.
use borrow.Author.Rules.{rules}
use Rattle.recency.proofs.Linking.{find_none, find_reads, find_next, find_less, find_end, find_here, find_more}
use Rattle.recency.proofs.find.Goals as goal

pub loop-e-init : goal.loop-e-init
loop-e-init c =
    search find_none

pub offset_bounds-pages-e : goal.offset_bounds-pages-e
offset_bounds-pages-e c =
    search (find_reads, rules)

pub bounds-pages-e : goal.bounds-pages-e
bounds-pages-e c =
    search find_reads

pub returns-then-pages-e : goal.returns-then-pages-e
returns-then-pages-e c =
    search find_here

pub offset_bounds-next-e : goal.offset_bounds-next-e
offset_bounds-next-e c =
    search (find_next, rules)

pub bounds-next-e : goal.bounds-next-e
bounds-next-e c =
    search find_next

pub loop-e-smaller : goal.loop-e-smaller
loop-e-smaller c =
    find_less c.requires c.loop-e.invariant c.loop-e-test.true c.from-e-in-loop-e.ensures

pub loop-e-preserved : goal.loop-e-preserved
loop-e-preserved c =
    find_more c.requires c.loop-e.invariant c.loop-e-test.true c.if-pages-e.false c.from-e-in-loop-e.ensures

pub returns : goal.returns
returns c =
    search find_end
