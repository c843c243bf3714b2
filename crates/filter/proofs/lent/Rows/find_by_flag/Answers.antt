-- `filter::lent::Rows::find_by_flag` meets its contract. Assumes nothing.
use mathlib.Core.Path.{◌∙◌}
use Rattle.std.proofs.Common.{rules}
use native.Mathlib.Omega.{arith}
use Rattle.filter.proofs.Noting.{notes_long}
use Rattle.filter.proofs.Finding.{found_place}
use Rattle.filter.proofs.Flagged.{flag_asked, flagged_nowhere, flagged_told, flagged_end, flagged_here}
use Rattle.filter.proofs.lent.Rows.find_by_flag.Goals as goal

pub returns-in-Found : goal.returns-in-Found
returns-in-Found g c =
    let (h, t) = c.walk.ensures.found _ c.in-Found.is in
    flagged_here c.args.self.now.is _ _ _ h (search rules)

-- A place that was found by all places is asked for its flag.
pub returns-in_err-j-in-Long : goal.returns-in_err-j-in-Long
returns-in_err-j-in-Long g c =
    c.from_residual.ensures ∙ flagged_nowhere _ _ _ _ c.in_err-j-in-Long.ensures

pub flag_at-requires : goal.flag_at-requires
flag_at-requires g c =
    let place = found_place _ _ c.in_ok-j-in-Long.ensures in
    let long = notes_long c.args.self.now.is.notes in
    let room = c.requires in
    omega arith

pub returns-in_ok-j-in-Long : goal.returns-in_ok-j-in-Long
returns-in_ok-j-in-Long g c =
    c.then_some.ensures ∙ flagged_told _ _ _ _ c.in_ok-j-in-Long.ensures (flag_asked _ _ c.flag_at.ensures)

pub returns-in-Nowhere : goal.returns-in-Nowhere
returns-in-Nowhere g c =
    flagged_end c.args.self.now.is _ _ _ (λ j h b. let t = c.walk.ensures.nowhere c.in-Nowhere.is j h b in search rules)
