-- `recency::link` meets its contract. Assumes nothing.
use Rattle.recency.proofs.Linking.{link_push, link_more}
use Rattle.recency.proofs.link.Goals as goal

pub push-requires : goal.push-requires
push-requires c =
    link_push c.requires c.bucket-v.ensures.value

pub returns : goal.returns
returns c =
    link_more c.requires c.bucket-v.ensures.value c.push.ensures.heads_after c.push.ensures.next_after
