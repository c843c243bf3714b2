-- `write::field` meets its contract. Assumes nothing.
use Rattle.trace.proofs.Writing.{field_put}
use Rattle.trace.proofs.write.field.Goals as goal

pub returns : goal.returns
returns g c =
    search field_put
