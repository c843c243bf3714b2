-- `recency::evict` meets its contract. Assumes nothing.
use mathlib.Core.Path.{sym, ◌∙◌}
use Rattle.recency.proofs.Aging.{aging_none, aging_more, aging_here, aging_never}
use Rattle.recency.proofs.evict.Goals as goal

pub loop-r-init : goal.loop-r-init
loop-r-init c =
    aging_none c.requires

pub returns-then-not-is_stale : goal.returns-then-not-is_stale
returns-then-not-is_stale c =
    rw c.is_written.ensures (aging_here c.requires c.loop-r.invariant c.loop-r-test.true (sym c.is_stale.ensures ∙ c.if-not-is_stale.true))

pub loop-r-preserved : goal.loop-r-preserved
loop-r-preserved c =
    aging_more c.requires c.loop-r.invariant c.loop-r-test.true (sym c.is_stale.ensures ∙ c.if-not-is_stale.false)

pub unreachable-requires : goal.unreachable-requires
unreachable-requires c =
    aging_never c.requires c.loop-r.invariant c.loop-r-test.false
