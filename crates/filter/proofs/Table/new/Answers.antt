-- `filter::Table::new` meets its contract. Assumes nothing.
use borrow.Author.Rules.{rules}
use Rattle.filter.proofs.Filling.{holds_first}
use Rattle.filter.proofs.Table.new.Goals as goal

pub invariant_of-result : goal.invariant_of-result
invariant_of-result c =
    record { is = holds_first _ _ (search rules) c.new.ensures.heads c.new.ensures.next }
