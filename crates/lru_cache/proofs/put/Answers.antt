-- `lru_cache::put` meets its contract. Assumes nothing.
use Rattle.std.specs.Prelude.{Some}
use native.Mathlib.Omega.{arith}
use Rattle.lru_cache.specs.Passes.{told}
use Rattle.trace.proofs.Writing.{part_put}
use Rattle.lru_cache.proofs.put.Goals as goal

pub returns-in-Some : goal.returns-in-Some
returns-in-Some c =
    rw (c.copy_from_slice.ensures.after, c.numbers.ensures, c.in-Some.is)
    (part_put c.args.events.now c.args.at (told (Some c.in-Some.f)) (omega arith) (omega arith))
