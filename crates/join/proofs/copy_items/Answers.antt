-- `join::copy_items` meets its contract. Assumes nothing.
use borrow.Author.Rules.{rules}
use Rattle.join.proofs.Copying.{copying_none, copying_more, copying_all}
use Rattle.join.proofs.copy_items.Goals as goal

ruleset laws = (copying_none, copying_more, copying_all, rules)

pub loop-i-init : goal.loop-i-init
loop-i-init c =
    search laws

pub overflow_add-at : goal.overflow_add-at
overflow_add-at c =
    search laws

pub item-requires : goal.item-requires
item-requires c =
    search laws

pub loop-i-preserved : goal.loop-i-preserved
loop-i-preserved c =
    search laws

pub shape_of-out : goal.shape_of-out
shape_of-out c =
    search laws

pub returns : goal.returns
returns c =
    search laws
