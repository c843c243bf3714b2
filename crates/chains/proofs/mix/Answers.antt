-- `chains::mix` meets its contract. Assumes nothing.
use borrow.Author.Rules.{rules}
use Rattle.chains.specs.Chains.{mixed}
use Rattle.chains.proofs.mix.Goals as goal

pub returns : goal.returns
unfolding mixed
returns c =
    search rules
