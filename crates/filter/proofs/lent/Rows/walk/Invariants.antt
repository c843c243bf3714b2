-- `filter::lent::Rows::walk` meets its contract. Assumes nothing.
use mathlib.Core.Bool.{false}
use Rattle.chains.specs.Chains.{counted}
use Rattle.filter.specs.Filter.{bucket_of}
use Rattle.filter.specs.Lent.{pages}
use Rattle.filter.proofs.Walking.{Walking}
use Rattle.filter.proofs.lent.Rows.walk.Given as goal

abbrev pub invariant-loop-at : goal.invariant-loop-at
invariant-loop-at g l =
    Walking (λ j. goal.T-post g l.test j false) (pages l.self) l.self.held (bucket_of l.page) (counted l.at)

abbrev pub decreases-loop-at : goal.decreases-loop-at
decreases-loop-at g l =
    counted l.at
