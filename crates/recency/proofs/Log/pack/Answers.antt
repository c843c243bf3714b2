-- `recency::Log::pack` meets its contract. Assumes nothing.
use mathlib.Core.Path.{sym, ◌∙◌}
use Rattle.recency.proofs.Keeping.{rows_none, rows_stored}
use Rattle.recency.proofs.Packing.{packing_none, packing_passed, packing_kept, packing_all}
use Rattle.recency.proofs.Log.pack.Goals as goal

pub loop-r-init : goal.loop-r-init
loop-r-init c =
    (packing_none c.requires, rows_none _)

pub loop-r-preserved-then-is_stale : goal.loop-r-preserved-then-is_stale
loop-r-preserved-then-is_stale c =
    (packing_passed c.requires c.loop-r.invariant.0 c.loop-r-test.true (sym c.is_stale.ensures ∙ c.if-is_stale.true), rows_stored c.loop-r.invariant.1 _ _ _ _)

pub loop-r-preserved : goal.loop-r-preserved
loop-r-preserved c =
    (packing_kept c.requires c.loop-r.invariant.0 c.loop-r-test.true (sym c.is_stale.ensures ∙ c.if-is_stale.false), rows_stored c.loop-r.invariant.1 _ _ _ _)

pub returns : goal.returns
returns c =
    record { packed = packing_all c.requires c.loop-r.invariant.0 c.loop-r-test.false; rows = c.loop-r.invariant.1 }
