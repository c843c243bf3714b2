-- `slim::noted_from` meets its contract. Assumes nothing.
use Rattle.slim.proofs.Keeping.{still_none}
use Rattle.slim.proofs.noted_from.Goals as goal

pub returns-then-k-skip : goal.returns-then-k-skip
returns-then-k-skip c =
    search still_none
