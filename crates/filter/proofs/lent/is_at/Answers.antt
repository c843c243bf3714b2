-- `filter::lent::is_at` meets its contract. Assumes nothing.
use mathlib.Core.Path.{◌∙◌}
use native.Mathlib.Omega.{arith}
use borrow.Author.Tests.{le-ltb}
use Rattle.filter.proofs.Noting.{notes_stands, at_page, at_none}
use Rattle.filter.proofs.lent.is_at.Goals as goal

pub page_at-requires : goal.page_at-requires
page_at-requires c =
    let here = c.if-c-held.true in
    notes_stands c.requires.notes _ (omega arith)

pub returns-then-c-held : goal.returns-then-c-held
returns-then-c-held c =
    let here = c.if-c-held.true in
    at_page c.requires.notes _ c.requires.held_value _ (omega arith) c.page_at.ensures

pub returns-else-c-held : goal.returns-else-c-held
returns-else-c-held c =
    le-ltb _ _ c.if-c-held.false ∙ at_none c.requires.notes _ c.requires.held_value _ c.if-c-held.false
