-- `filter::Table::add` meets its contract. Assumes nothing.
use Rattle.filter.proofs.Filling.{holds_in}
use Rattle.filter.proofs.Table.add.Goals as goal

pub add-requires : goal.add-requires
add-requires c =
    record { filter = c.args.self.now.is; can_add = c.requires }

pub invariant_of-self : goal.invariant_of-self
invariant_of-self c =
    record { is = holds_in c.add.ensures.holds }
