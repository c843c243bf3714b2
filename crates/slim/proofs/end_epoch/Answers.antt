-- `slim::end_epoch` meets its contract. Assumes nothing.
use Prim.Native.Nat.{◌≤◌}
use mathlib.Core.Path.{◌≡◌}
use native.Mathlib.Omega.{arith}
use lib.ListN.{length}
use Rattle.filter.specs.Filter.{places, flags_of, flags_set}
use Rattle.filter.specs.Tables.{pages}
use Rattle.filter.proofs.Noting.{notes_long}
use Rattle.filter.proofs.Bits.{flag_bit}
use Rattle.slim.proofs.Mending.{mending_quiet}
use Rattle.slim.proofs.end_epoch.Goals as goal

-- Nothing is owed.
pub returns-else-owed-gt0 : goal.returns-else-owed-gt0
returns-else-owed-gt0 c =
    let within = c.args.table.now.is.notes.within in
    let count = c.args.owed.now.is_count in
    let room : length (pages c.args.table.now) ≤ length (flags_of c.args.owed.now.bytes) =
    omega (arith, notes_long c.args.table.now.is.notes, c.args.owed.now.is_long) in
    let none : flags_set places (flags_of c.args.owed.now.bytes) ≡ 0 = omega arith in
    let quiet = mending_quiet c.requires room c.args.owed.now.is_long none (flag_bit _) in
    record { mended = quiet.0; clear = quiet.1 }
