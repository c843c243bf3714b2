-- `filter::lent::add` meets its contract. Assumes nothing.
use mathlib.Core.Path.{refl}
use Rattle.filter.proofs.Finding.{bucket_is}
use Rattle.filter.proofs.Filling.{add_push, add_holds}
use Rattle.filter.proofs.lent.add.Goals as goal

pub push-requires : goal.push-requires
push-requires c =
    add_push c.requires.filter c.requires.can_add c.item_at-x.ensures (bucket_is _ c.bucket-v.ensures.value)

pub returns : goal.returns
returns c =
    let h = add_holds c.requires.filter c.requires.can_add c.item_at-x.ensures (bucket_is _ c.bucket-v.ensures.value) refl c.push.ensures.heads_after c.push.ensures.next_after in
    record { last_after = h.0; heads_after = h.1.0; next_after = h.1.1.0; holds = h.1.1.1 }
