-- `lru_cache::play` meets its contract. Assumes nothing.
use Rattle.recency.specs.State.{state, SameRows}
use Rattle.lru_cache.proofs.Turns.{Running}
use Rattle.lru_cache.proofs.play.Given as goal

abbrev pub invariant-loop-i : goal.invariant-loop-i
invariant-loop-i l =
    Running l.items.file.now l.items.count l.k (state l.initial.log) l.initial.events (state l.log) l.events l.t l.i × SameRows l.initial.log l.log
