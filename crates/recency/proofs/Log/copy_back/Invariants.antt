-- `recency::Log::copy_back` meets its contract. Assumes nothing.
use Rattle.std.proofs.Common.{◌-◌, length}
use Rattle.recency.specs.State.{SameRows}
use Rattle.recency.proofs.Copying.{Copying}
use Rattle.recency.proofs.Log.copy_back.Given as goal

abbrev pub invariant-loop-i : goal.invariant-loop-i
invariant-loop-i l =
    Copying l.list l.kept l.initial.self.pages.now l.initial.self.marks.now l.self.pages.now l.self.marks.now l.i (length l.list - l.i)
    × SameRows l.initial.self l.self
