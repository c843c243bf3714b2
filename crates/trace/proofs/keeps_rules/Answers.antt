-- `trace::keeps_rules` meets its contract. Assumes nothing.
use Rattle.limits.proofs.Numbers.{items_least, items_most}
use Rattle.limits.proofs.Made.{number_out, number_in}
use Rattle.trace.proofs.Ruling.{rule_count, rule_whole, rule_kind, rule_reduced}
use Rattle.trace.proofs.keeps_rules.Goals as goal

pub returns-then-is_none : goal.returns-then-is_none
returns-then-is_none c =
    rule_count c.args.h (number_out items_least items_most c.args.h.items c.new.ensures c.is_none.ensures c.if-is_none.true)

pub returns-then-h-eq0 : goal.returns-then-h-eq0
returns-then-h-eq0 c =
    rule_whole c.args.h (number_in items_least items_most c.args.h.items c.new.ensures c.is_none.ensures c.if-is_none.false) c.if-h-eq0.true c.keeps_whole.ensures

pub returns-then-h-le2 : goal.returns-then-h-le2
returns-then-h-le2 c =
    rule_reduced c.args.h (number_in items_least items_most c.args.h.items c.new.ensures c.is_none.ensures c.if-is_none.false) c.if-h-eq0.false c.if-h-le2.true c.keeps_reduced.ensures

pub returns-else-h-le2 : goal.returns-else-h-le2
returns-else-h-le2 c =
    rule_kind c.args.h (number_in items_least items_most c.args.h.items c.new.ensures c.is_none.ensures c.if-is_none.false) c.if-h-le2.false
