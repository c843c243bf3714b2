-- `join::header_of` meets its contract. Assumes nothing.
use borrow.Author.Rules.{rules}
use Rattle.join.proofs.Heading.{header-joined}
use Rattle.join.proofs.header_of.Goals as goal

ruleset laws = (header-joined, rules)

pub returns : goal.returns
returns c =
    search laws
