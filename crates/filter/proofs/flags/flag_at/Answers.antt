-- `filter::flags::flag_at` meets its contract. Assumes nothing.
use mathlib.Core.Path.{ap, ◌∙◌}
use Prim.Native.Nat.{ℕ}
use lib.Dec.{eqb}
use Rattle.filter.proofs.Bits.{flag_byte, flag_even, flag_odd}
use Rattle.filter.proofs.flags.flag_at.Goals as goal
use Rattle.filter.proofs.flags.flag_at.Goals.{then-j-eq0, else-j-eq0}

pub bounds-flags-j : goal.bounds-flags-j
bounds-flags-j c =
    flag_byte _ _ c.requires

pub returns : goal.returns
returns c =
    ap (λ (n : ℕ). eqb n 1)
    (elim c.if-j-eq0.branch [
      | then-j-eq0 w ↦ w.flag-is ∙ flag_even _ _ w.if-j-eq0.true
      | else-j-eq0 w ↦ w.flag-is ∙ flag_odd _ _ w.if-j-eq0.false
    ])
