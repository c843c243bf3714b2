-- The number of a mode, and the mode that a number asks for. Assumes nothing.
use Rattle.std.specs.Prelude.{ℕ, cond, eqb, Result, Ok, Err}
use Rattle.trace.specs.declared.Reason.{Reason}
use Rattle.trace.specs.declared.Reason.TheVariants.{BadSetting}
use Rattle.epochs.specs.declared.Mode.{Mode}
use Rattle.epochs.specs.declared.Mode.TheVariants.{FastSlim, Demand}

-- "A reduction's mode is the kind it writes": 1 FastSlim, 2 FastSlim-Demand.
abbrev pub number_of : Mode → ℕ
number_of FastSlim = 1
number_of Demand = 2

-- 7: "mode not 1 or 2".
abbrev pub asked : ℕ → Result Mode Reason
asked n = cond (eqb n 1) (Ok FastSlim) (cond (eqb n 2) (Ok Demand) (Err BadSetting))
