-- `filter::lent::scan` meets its contract. Assumes nothing.
use mathlib.Core.Path.{refl}
use Rattle.filter.proofs.Noting.{notes_stands}
use Rattle.filter.proofs.Finding.{ahead, ahead_by, scan_here, scan_found, scan_four, scan_more, scan_all}
use Rattle.filter.proofs.lent.scan.Goals as goal

ruleset stands = (notes_stands, ahead, ahead_by)

pub page_at-requires : goal.page_at-requires
page_at-requires c =
    search stands

pub returns-then-page_at-page : goal.returns-then-page_at-page
returns-then-page_at-page c =
    scan_here c.requires _ (ahead c.loop-j-test.true) c.page_at.ensures c.if-page_at-page.true

pub page_at-requires-in-loop-j : goal.page_at-requires-in-loop-j
page_at-requires-in-loop-j c =
    search stands

-- One of the three places after the first has the page.
pub returns-then-page_at-page-2 : goal.returns-then-page_at-page-2
returns-then-page_at-page-2 c =
    scan_found c.requires c.loop-j.invariant 1 refl c.loop-j-test.true c.page_at-in-loop-j.ensures c.if-page_at-page-2.true

pub page_at-requires-in-loop-j-2 : goal.page_at-requires-in-loop-j-2
page_at-requires-in-loop-j-2 c =
    search stands

pub returns-then-page_at-page-3 : goal.returns-then-page_at-page-3
returns-then-page_at-page-3 c =
    scan_found c.requires c.loop-j.invariant 2 refl c.loop-j-test.true c.page_at-in-loop-j-2.ensures c.if-page_at-page-3.true

pub page_at-requires-in-loop-j-3 : goal.page_at-requires-in-loop-j-3
page_at-requires-in-loop-j-3 c =
    search stands

pub returns-then-page_at-page-4 : goal.returns-then-page_at-page-4
returns-then-page_at-page-4 c =
    scan_found c.requires c.loop-j.invariant 3 refl c.loop-j-test.true c.page_at-in-loop-j-3.ensures c.if-page_at-page-4.true

-- None of the four has it.
pub loop-j-preserved : goal.loop-j-preserved
loop-j-preserved c =
    scan_four c.requires c.loop-j.invariant c.loop-j-test.true c.page_at.ensures c.if-page_at-page.false
    c.page_at-in-loop-j.ensures c.if-page_at-page-2.false c.page_at-in-loop-j-2.ensures c.if-page_at-page-3.false c.page_at-in-loop-j-3.ensures c.if-page_at-page-4.false

pub page_at-requires-in-loop-j-2-2 : goal.page_at-requires-in-loop-j-2-2
page_at-requires-in-loop-j-2-2 c =
    search notes_stands

pub returns-then-page_at-page-5 : goal.returns-then-page_at-page-5
returns-then-page_at-page-5 c =
    scan_here c.requires _ c.loop-j-2-test.true c.page_at-in-loop-j-2-2.ensures c.if-page_at-page-5.true

pub loop-j-2-preserved : goal.loop-j-2-preserved
loop-j-2-preserved c =
    scan_more c.requires c.loop-j-2.invariant c.loop-j-2-test.true c.page_at-in-loop-j-2-2.ensures c.if-page_at-page-5.false

pub returns : goal.returns
returns c =
    search scan_all
