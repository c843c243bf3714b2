-- `filter::flags::put_flag` meets its contract. Assumes nothing.
use mathlib.Core.Path.{◌∙◌}
use Rattle.filter.proofs.Bits.{flag_byte, byte_is, put_even, put_odd, flag_most}
use Rattle.filter.proofs.flags.put_flag.Goals as goal
use Rattle.filter.proofs.flags.put_flag.Goals.{then-j-eq0, else-j-eq0}

pub bounds-flags-i : goal.bounds-flags-i
bounds-flags-i c =
    flag_byte _ _ c.requires

pub bounds-flags-i-2 : goal.bounds-flags-i-2
bounds-flags-i-2 c =
    flag_byte _ _ c.requires

-- The flag is put, in one half of its byte or in the other.
pub returns : goal.returns
returns c =
    let v = c.from-v.ensures ∙ byte_is c.args.on in
    elim c.if-j-eq0.branch [
      | then-j-eq0 w ↦ put_even _ _ _ (flag_most c.args.on) (w.flags-is ∙ rw v) w.if-j-eq0.true
      | else-j-eq0 w ↦ put_odd _ _ _ (flag_most c.args.on) (w.flags-is ∙ rw v) w.if-j-eq0.false
    ]
