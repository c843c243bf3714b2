-- `replays::bad_start` meets its contract. Assumes nothing.
use Rattle.replays.proofs.Starting.{start_sift, start_many, start_short, start_twice}
use Rattle.replays.proofs.bad_start.Goals as goal
use Rattle.replays.proofs.bad_start.Goals.{then-k-resident-via-then-k-resident, then-k-resident-via-else-k-resident+then-cache-k}

pub returns-then-k-resident : goal.returns-then-k-resident
returns-then-k-resident c =
    elim c.then-k-resident.branch [
      | then-k-resident-via-then-k-resident w ↦ start_many c.args.k c.args.cache.now c.args.resident w.if-k-resident.true
      | then-k-resident-via-else-k-resident+then-cache-k w ↦ start_short c.args.k c.args.cache.now c.args.resident w.if-k-resident.false w.if-cache-k.true
    ]

pub has_twice-requires : goal.has_twice-requires
has_twice-requires c =
    search start_sift

pub returns : goal.returns
returns c =
    search start_twice
