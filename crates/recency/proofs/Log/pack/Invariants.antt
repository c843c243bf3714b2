-- `recency::Log::pack` meets its contract. Assumes nothing.
use Rattle.recency.specs.State.{SameRows}
use Rattle.recency.proofs.Packing.{Packing}
use Rattle.recency.proofs.Log.pack.Given as goal

abbrev pub invariant-loop-r : goal.invariant-loop-r
invariant-loop-r l =
    Packing l.initial.self.pages.now l.initial.self.marks.now l.initial.self.queue.low l.initial.self.queue.now l.self.pages.now l.self.marks.now l.r l.w
    × SameRows l.initial.self l.self
