-- `filter::Table::is_at` meets its contract. Assumes nothing.
use Rattle.filter.proofs.Table.is_at.Goals as goal

pub is_at-requires : goal.is_at-requires
is_at-requires c =
    record { notes = c.args.self.now.is.notes; held_value = c.requires }
