-- `filter::flags::clear_flags` meets its contract. Assumes nothing.
use Prim.Native.Nat.{ℕ}
use mathlib.Core.Path.{◌≡◌}
use lib.ListN.{length, replicate}
use borrow.Author.Rules.{rules}
use Rattle.filter.proofs.Bits.{flags_filled}
use Rattle.filter.proofs.flags.clear_flags.Goals as goal

pub returns : goal.returns
returns c =
    let zeros : c.fill.new.self ≡ replicate {A = ℕ} (length c.args.flags.now) 0 = search rules in
    flags_filled _ zeros
