-- `filter::lent::Rows::is_flagged` meets its contract. Assumes nothing.
use mathlib.Core.Path.{ap}
use lib.Dec.{eqb}
use Prim.Native.Nat.{ℕ}
use Rattle.filter.proofs.Flagged.{flag_asked, both_so, both_not}
use Rattle.filter.proofs.lent.Rows.is_flagged.Goals as goal

-- Its flag is such: the page tells.
pub returns-then-flag_at-on : goal.returns-then-flag_at-on
returns-then-flag_at-on c =
    both_so (flag_asked _ _ c.flag_at.ensures) c.if-flag_at-on.true (ap (λ (q : ℕ). eqb q c.args.page) c.page_at.ensures)

pub returns-else-flag_at-on : goal.returns-else-flag_at-on
returns-else-flag_at-on c =
    both_not _ (flag_asked _ _ c.flag_at.ensures) c.if-flag_at-on.false
