-- `filter::lent::Rows::newest` meets its contract. Assumes nothing.
use Rattle.filter.proofs.Finding.{bucket_is}
use Rattle.filter.proofs.lent.Rows.newest.Goals as goal

pub returns : goal.returns
returns c =
    rw (bucket_is _ c.bucket.ensures.value) at c.head.ensures.value
