-- `filter::lent::Rows::noted_at_page` meets its contract. Assumes nothing.
use native.Mathlib.Omega.{arith}
use Rattle.filter.proofs.Finding.{found_place, page_nowhere, page_here, page_other}
use Rattle.filter.proofs.Noting.{notes_long}
use Rattle.filter.proofs.lent.Rows.noted_at_page.Goals as goal

pub returns-in_default : goal.returns-in_default
returns-in_default c =
    page_nowhere c.args.self.now.is.notes _ c.requires.page_value c.in_default.ensures

pub bounds-self-j : goal.bounds-self-j
bounds-self-j c =
    let place = found_place _ _ c.in-Some.ensures in
    let long = notes_long c.args.self.now.is.notes in
    let room = c.args.self.now.is.notes.within in
    omega arith

pub offset_bounds-self-j : goal.offset_bounds-self-j
offset_bounds-self-j c =
    let place = found_place _ _ c.in-Some.ensures in
    let long = notes_long c.args.self.now.is.notes in
    let room = c.args.self.now.is.notes.within in
    record { fits = omega arith }

pub returns-then-self-j : goal.returns-then-self-j
returns-then-self-j c =
    page_here c.args.self.now.is.notes _ c.requires.page_value c.in-Some.ensures c.if-self-j.true

pub returns-else-self-j : goal.returns-else-self-j
returns-else-self-j c =
    page_other c.args.self.now.is.notes _ c.requires.page_value c.in-Some.ensures c.if-self-j.false
