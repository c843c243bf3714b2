-- `slim::owe` meets its contract. Assumes nothing.
use native.Mathlib.Omega.{arith}
use Rattle.filter.proofs.Noting.{notes_long}
use Rattle.slim.proofs.Flags.{flag_kept, flag_set}
use Rattle.slim.proofs.owe.Goals as goal

-- The page's place has a flag,
pub put-requires : goal.put-requires
put-requires c =
    let told = flag_set _ _ _ c.in-Some.ensures in
    let long = notes_long c.args.table.now.is.notes in
    let room = c.args.table.now.is.notes.within in
    omega arith

-- and is owed a write now,
pub returns-in-Some : goal.returns-in-Some
returns-in-Some c =
    let told = flag_set _ _ _ c.in-Some.ensures in
    rw told.0 at c.put.ensures

-- or it was owed one before.
pub returns-in_default : goal.returns-in_default
returns-in_default c =
    flag_kept _ _ _ c.requires c.in_default.ensures
