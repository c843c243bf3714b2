-- `recency::Log::copy_back` meets its contract. Assumes nothing.
use native.Mathlib.Omega.{arith}
use Rattle.recency.proofs.Copying.{copying_none, copying_more, copying_all}
use Rattle.recency.proofs.Keeping.{rows_none, rows_stored}
use Rattle.recency.proofs.Log.copy_back.Goals as goal

pub loop-i-init : goal.loop-i-init
loop-i-init c =
    (copying_none c.requires, rows_none _)

pub loop-i-preserved : goal.loop-i-preserved
loop-i-preserved c =
    (copying_more c.requires c.loop-i.invariant.0 (omega arith) (omega arith) (omega arith) c.of.ensures, rows_stored c.loop-i.invariant.1 _ _ _ _)

pub returns : goal.returns
returns c =
    record { copied = copying_all c.requires c.loop-i.invariant.0 (omega arith); rows = c.loop-i.invariant.1 }
