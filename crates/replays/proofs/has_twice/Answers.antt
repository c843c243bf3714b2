-- `replays::has_twice` meets its contract. Assumes nothing.
use mathlib.Core.Path.{sym, ◌∙◌}
use Rattle.replays.proofs.Starting.{sifting_none, sifting_again, sifting_more}
use Rattle.replays.proofs.has_twice.Goals as goal

pub loop-i-init : goal.loop-i-init
loop-i-init c =
    sifting_none c.requires c.clear.ensures

pub returns-then-again : goal.returns-then-again
returns-then-again c =
    sifting_again c.loop-i.invariant c.loop-i-test.true c.find.result c.find.ensures (sym c.is_some-again.ensures ∙ c.if-again.true)

pub loop-i-preserved : goal.loop-i-preserved
loop-i-preserved c =
    sifting_more c.loop-i.invariant c.loop-i-test.true c.find.result c.find.ensures (sym c.is_some-again.ensures ∙ c.if-again.false) c.link.ensures
