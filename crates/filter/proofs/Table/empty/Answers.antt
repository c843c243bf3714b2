-- `filter::Table::empty` meets its contract. Assumes nothing.
use Rattle.filter.proofs.Filling.{holds_in}
use Rattle.filter.proofs.Table.empty.Goals as goal

pub empty-self-requires : goal.empty-self-requires
empty-self-requires c =
    c.args.self.now.is

pub invariant_of-self : goal.invariant_of-self
invariant_of-self c =
    record { is = holds_in c.empty-self.ensures.holds }
