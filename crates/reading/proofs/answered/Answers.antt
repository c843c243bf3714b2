-- What the program is given is what was read. Assumes nothing.
use Rattle.std.proofs.Common.{rules, take, refl}
use lib.Seq.{length-take-le}
use Rattle.reading.proofs.answered.Goals as goal

pub returns : goal.returns
returns g c = (
  take c.in_ok-n.n c.read_full.new.buf,
  c.in_ok-n.ensures.bytes,
  (λ h. let short = rw (length-take-le c.in_ok-n.n c.read_full.new.buf c.in_ok-n.ensures.bound) at h in c.in_ok-n.ensures.end (search rules)),
  record { given = _; gives = refl; shown = _; shows = refl; left = _; leaves = refl; met = c.program.ensures },
)
