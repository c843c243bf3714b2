-- `write::put_mark` meets its contract. Assumes nothing.
use native.Mathlib.Omega.{arith}
use lib.ListN.{length-set}
use Rattle.trace.proofs.Writing.{mark_put}
use Rattle.trace.proofs.write.put_mark.Goals as goal

pub put-requires-clause-in_bounds : goal.put-requires-clause-in_bounds
put-requires-clause-in_bounds c =
    simp length-set (omega arith)

pub shape_of-out : goal.shape_of-out
shape_of-out c =
    simp length-set at c.put.auto.out

pub returns : goal.returns
returns c =
    search mark_put
