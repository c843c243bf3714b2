-- `filter::lent::scan` meets its contract. Assumes nothing.
use Prim.Native.Nat.{◌-◌}
use Rattle.filter.specs.Filter.{pages_in}
use Rattle.filter.proofs.Finding.{Scanning}
use Rattle.filter.proofs.lent.scan.Given as goal

abbrev pub invariant-loop-j : goal.invariant-loop-j
invariant-loop-j l =
    Scanning l.held (pages_in l.file l.last l.held) l.page l.j

abbrev pub decreases-loop-j : goal.decreases-loop-j
decreases-loop-j l =
    l.held - l.j

abbrev pub invariant-loop-j-2 : goal.invariant-loop-j-2
invariant-loop-j-2 l =
    Scanning l.held (pages_in l.file l.last l.held) l.page l.j

abbrev pub decreases-loop-j-2 : goal.decreases-loop-j-2
decreases-loop-j-2 l =
    l.held - l.j
