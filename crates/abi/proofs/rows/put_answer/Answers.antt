-- `rows::put_answer` meets its contract. Assumes nothing.
use mathlib.Core.Path.{refl}
use Rattle.abi.specs.Rows.{answer_row}
use Rattle.abi.proofs.Telling.{tells}
use Rattle.abi.proofs.rows.put_answer.Goals as goal

pub returns-in-Ok : goal.returns-in-Ok
unfolding answer_row
returns-in-Ok c =
    tells answer_row c.in-Ok.is c.put_header.ensures refl

pub returns-in-Err : goal.returns-in-Err
unfolding answer_row
returns-in-Err c =
    tells answer_row c.in-Err.is c.put_refusal.ensures refl
