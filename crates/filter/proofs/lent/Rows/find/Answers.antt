-- `filter::lent::Rows::find` meets its contract. Assumes nothing.
use Rattle.std.proofs.Common.{rules}
use Rattle.filter.proofs.Finding.{found_at, found_end}
use Rattle.filter.proofs.lent.Rows.find.Goals as goal

pub returns-in-Found : goal.returns-in-Found
returns-in-Found c =
    let (h, t) = c.walk.ensures.found _ c.in-Found.is in
    found_at c.args.self.now.is _ h (search rules)

pub returns-in-Nowhere : goal.returns-in-Nowhere
returns-in-Nowhere c =
    found_end c.args.self.now.is _ (λ j h b. let t = c.walk.ensures.nowhere c.in-Nowhere.is j h b in search rules)
