-- `filter::Table::note` meets its contract. Assumes nothing.
use Rattle.filter.proofs.Filling.{note_holds}
use Rattle.filter.proofs.Table.note.Goals as goal

pub invariant_of-self : goal.invariant_of-self
invariant_of-self c =
    record { is = note_holds c.args.self.now.is c.requires }
