-- The library's digits are those of the definition. Assumes nothing.
use mathlib.Core.Path.{◌∙◌}
use Rattle.lines.proofs.Numerals.{number_put}
use Rattle.lines.proofs.Text.number.Goals as goal

pub returns-clause-put : goal.returns-clause-put
returns-clause-put c =
    number_put c.args.x c.ranges.x.fits (c.as_bytes.ensures.value ∙ c.format.ensures.text) c.text.ensures
