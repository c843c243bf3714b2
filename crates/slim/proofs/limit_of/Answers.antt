-- `slim::limit_of` meets its contract. Assumes nothing.
use Rattle.slim.proofs.Limits.{limit-phase, limit_epoch}
use Rattle.slim.proofs.limit_of.Goals as goal

ruleset laws = (limit-phase, limit_epoch)

pub returns-in-FastSlim : goal.returns-in-FastSlim
returns-in-FastSlim c =
    search laws

pub returns-in-Demand : goal.returns-in-Demand
returns-in-Demand c =
    search laws
