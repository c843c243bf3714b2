-- `filter::flags::Flags::clear` meets its contract. Assumes nothing.
use mathlib.Core.Path.{◌≡◌}
use Prim.Native.Nat.{ℕ}
use lib.ListN.{replicate, length-replicate}
use Rattle.filter.specs.Filter.{places, flags_of}
use Rattle.filter.proofs.Bits.{zeros_clear, clear_none}
use Rattle.filter.proofs.flags.Flags.clear.Goals as goal

pub invariant_of-self : goal.invariant_of-self
invariant_of-self c =
    let zeros : flags_of c.clear_flags.new.flags ≡ replicate {A = ℕ} places 0 = rw c.args.self.now.is_long at c.clear_flags.ensures in
    record { is_long = rw (zeros, length-replicate); is_count = clear_none places _ (zeros_clear places zeros) }

pub returns : goal.returns
returns c =
    rw c.args.self.now.is_long at c.clear_flags.ensures
