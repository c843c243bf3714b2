-- `join::falls` meets its contract. Assumes nothing.
use Rattle.join.proofs.Judging.{header_there, first_there, last_there, meets_none, meets_nothing, meets_times}
use Rattle.join.proofs.falls.Goals as goal

ruleset laws = (header_there, first_there, last_there, meets_none, meets_nothing, meets_times)

pub header_at-n-requires : goal.header_at-n-requires
header_at-n-requires c =
    search laws

pub header_at-m-requires : goal.header_at-m-requires
header_at-m-requires c =
    search laws

pub returns-then-n-eq0 : goal.returns-then-n-eq0
returns-then-n-eq0 c =
    search laws

pub returns-then-m-eq0 : goal.returns-then-m-eq0
returns-then-m-eq0 c =
    search laws

pub item_at-requires : goal.item_at-requires
item_at-requires c =
    search laws

pub item_at-requires-2 : goal.item_at-requires-2
item_at-requires-2 c =
    search laws

pub returns : goal.returns
returns c =
    search laws
