-- `rows::put_replayed` meets its contract. Assumes nothing.
use mathlib.Core.Path.{refl}
use Rattle.abi.specs.Rows.{replay_row}
use Rattle.abi.proofs.Telling.{tells}
use Rattle.abi.proofs.rows.put_replayed.Goals as goal

pub returns-in-Ok : goal.returns-in-Ok
unfolding replay_row
returns-in-Ok c =
    tells replay_row c.in-Ok.is c.put_summary.ensures refl

pub returns-in-Err : goal.returns-in-Err
unfolding replay_row
returns-in-Err c =
    tells replay_row c.in-Err.is c.put_refusal.ensures refl
