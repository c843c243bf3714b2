-- `filter::lent::Rows::first_noted` meets its contract. Assumes nothing.
use borrow.Author.Rules.{rules}
use Rattle.filter.proofs.Finding.{noted_at, noted_end, noted_first}
use Rattle.filter.proofs.lent.Rows.first_noted.Goals as goal

pub returns-in-Found : goal.returns-in-Found
returns-in-Found c =
    let (h, t) = c.walk.ensures.found _ c.in-Found.is in
    noted_at c.args.self.now.is _ h (search rules)

pub returns-in-Long : goal.returns-in-Long
returns-in-Long c =
    rw c.unwrap_or.ensures (noted_first c.args.k _ _ (search rules) c.next_noted.ensures)

pub returns-in-Nowhere : goal.returns-in-Nowhere
returns-in-Nowhere c =
    noted_end c.args.self.now.is _ (λ j h b. let t = c.walk.ensures.nowhere c.in-Nowhere.is j h (rw c.item_at-x.ensures b) in search rules)
