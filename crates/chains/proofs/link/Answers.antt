-- `Chains::link` meets its contract. Assumes nothing.
use borrow.Author.Rules.{rules}
use Rattle.chains.proofs.Counted.{counted_is}
use Rattle.chains.proofs.link.Goals as goal

pub returns : goal.returns
returns c =
    search (counted_is, rules)
