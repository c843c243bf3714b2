-- `recency::Log::evict` meets its contract. Assumes nothing.
use mathlib.Core.Path.{refl}
use Rattle.recency.proofs.Unchained.{evict_rows, evicted}
use Rattle.recency.proofs.Log.evict.Goals as goal

pub evict-requires : goal.evict-requires
evict-requires c =
    evict_rows c.requires

pub returns : goal.returns
returns c =
    record { gone = evicted c.evict.ensures; rest = refl }
