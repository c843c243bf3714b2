-- `lines::Text::fetches` meets its contract. Assumes nothing.
use Rattle.lines.specs.Report.{row_line}
use Rattle.lines.proofs.Pieces.{Pieced}
use Rattle.lines.proofs.Text.fetches.Given as goal

abbrev pub invariant-loop-event : goal.invariant-loop-event
invariant-loop-event l =
    Pieced (row_line l.events) 84 l.n l.initial.self l.event-index l.self
