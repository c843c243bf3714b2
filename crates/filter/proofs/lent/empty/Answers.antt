-- `filter::lent::empty` meets its contract. Assumes nothing.
use Rattle.filter.proofs.Filling.{emptied_above, emptied_clear}
use Rattle.filter.proofs.lent.empty.Goals as goal

-- The heads stay,
pub returns-then-above-last-le65535 : goal.returns-then-above-last-le65535
returns-then-above-last-le65535 c =
    let h = emptied_above c.requires c.if-above-last-le65535.true in
    record { value = h.0; heads_after = h.1.0; holds = h.1.1 }

-- or are cleared.
pub returns : goal.returns
returns c =
    let h = emptied_clear c.requires c.if-above-last-le65535.false c.clear.ensures in
    record { value = h.0; heads_after = h.1.0; holds = h.1.1 }
