-- `join::kind_of` meets its contract. Assumes nothing.
use Rattle.join.proofs.Heading.{kind_first, kind_second, kind_one, kind_other, kind_whole}
use Rattle.join.proofs.kind_of.Goals as goal

ruleset laws = (kind_first, kind_second, kind_one, kind_other, kind_whole)

pub returns-then-a-eq2 : goal.returns-then-a-eq2
returns-then-a-eq2 c =
    search laws

pub returns-then-b-eq2 : goal.returns-then-b-eq2
returns-then-b-eq2 c =
    search laws

pub returns-then-a-ne0 : goal.returns-then-a-ne0
returns-then-a-ne0 c =
    search laws

pub returns-then-b-ne0 : goal.returns-then-b-ne0
returns-then-b-ne0 c =
    search laws

pub returns : goal.returns
returns c =
    search laws
