-- `trace::read::header_at` meets its contract. Assumes nothing.
use borrow.Author.Rules.{rules}
use Rattle.trace.proofs.Reading.{header_read}
use Rattle.trace.proofs.read.header_at.Goals as goal

pub returns : goal.returns
returns c =
    record { value = search header_read; references_bound = search rules }
