-- `numbers::number_at` meets its contract. Assumes nothing.
use mathlib.Core.Path.{◌∙◌}
use Rattle.trace.proofs.Eight.{number_read, number_small}
use Rattle.trace.proofs.numbers.number_at.Goals as goal

pub returns-clause-value : goal.returns-clause-value
returns-clause-value g c =
    c.from_le_bytes.ensures ∙ number_read c.args.s.now c.args.at g.row.W c.requires.width c.requires.in_bounds c.copy_from_slice.ensures.after

pub returns-clause-upper_bound : goal.returns-clause-upper_bound
returns-clause-upper_bound g c =
    number_small c.args.s.now c.args.at g.row.W c.requires.width c.requires.in_bounds (λ i. (c.type_inv.s i).fits) (returns-clause-value g c)
