-- `filter::flags::Flags::is_set` meets its contract. Assumes nothing.
use native.Mathlib.Omega.{arith}
use Rattle.filter.proofs.flags.Flags.is_set.Goals as goal

pub flag_at-requires : goal.flag_at-requires
flag_at-requires c =
    omega (arith, c.args.self.now.is_long, c.requires)
