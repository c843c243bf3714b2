-- `lines::Text::text` meets its contract. Assumes nothing.
use mathlib.Core.Path.{refl}
use native.Mathlib.Omega.{arith}
use Rattle.trace.proofs.Writing.{part_put}
use Rattle.lines.proofs.Texts.{puts}
use Rattle.lines.proofs.Text.text.Goals as goal

pub returns : goal.returns
returns c =
    puts (record { next = refl; bytes = rw c.copy_from_slice.ensures.after (part_put c.args.self.now.out.now c.args.self.now.at c.args.text.now (omega arith) c.requires) }) refl
