-- `recency::find` meets its contract. Assumes nothing.
use Rattle.recency.proofs.Linking.{Finding}
use Rattle.recency.proofs.find.Given as goal

abbrev pub invariant-loop-e : goal.invariant-loop-e
invariant-loop-e l =
    Finding l.pages l.end l.page l.e

abbrev pub decreases-loop-e : goal.decreases-loop-e
decreases-loop-e l =
    l.e
