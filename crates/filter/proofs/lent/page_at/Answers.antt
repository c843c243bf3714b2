-- `filter::lent::page_at` meets its contract. Assumes nothing.
use borrow.Author.Rules.{rules}
use Rattle.filter.proofs.Noting.{page_read}
use Rattle.filter.proofs.lent.page_at.Goals as goal

pub returns : goal.returns
returns c =
    search (page_read, rules)
