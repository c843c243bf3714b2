-- `numbers::put` meets its contract. Assumes nothing.
use Rattle.trace.proofs.Eight.{number_put}
use Rattle.trace.proofs.numbers.put.Goals as goal

pub returns : goal.returns
returns g c =
    number_put c.args.x g.row.W c.requires.width c.args.out.now c.args.at c.requires.in_bounds c.to_le_bytes.ensures c.copy_from_slice.ensures.after
