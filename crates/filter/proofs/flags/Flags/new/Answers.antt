-- `filter::flags::Flags::new` meets its contract. Assumes nothing.
use lib.ListN.{length-replicate}
use Rattle.filter.specs.Filter.{places}
use Rattle.filter.proofs.Bits.{flags_zero, zeros_clear, clear_none}
use Rattle.filter.proofs.flags.Flags.new.Goals as goal

pub invariant_of-result : goal.invariant_of-result
invariant_of-result c =
    record { is_long = rw (flags_zero 512, length-replicate); is_count = clear_none places _ (zeros_clear places (flags_zero 512)) }

pub returns : goal.returns
returns c =
    flags_zero 512
