-- `read::is_field` meets its contract. Assumes nothing.
use Rattle.trace.proofs.Reading.{field_other, field_tagged}
use Rattle.trace.proofs.read.is_field.Goals as goal

pub returns-then-number_at-tag : goal.returns-then-number_at-tag
returns-then-number_at-tag c =
    search field_tagged

pub returns-else-number_at-tag : goal.returns-else-number_at-tag
returns-else-number_at-tag c =
    search field_other
