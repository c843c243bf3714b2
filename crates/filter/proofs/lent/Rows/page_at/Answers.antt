-- `filter::lent::Rows::page_at` meets its contract. Assumes nothing.
use Rattle.filter.proofs.Noting.{notes_stands}
use Rattle.filter.proofs.lent.Rows.page_at.Goals as goal

pub page_at-requires : goal.page_at-requires
page_at-requires c =
    notes_stands c.args.self.now.is.notes _ c.requires
