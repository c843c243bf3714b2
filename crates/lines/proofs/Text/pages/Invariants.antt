-- `lines::Text::pages` meets its contract. Assumes nothing.
use Rattle.lines.specs.Report.{page_field}
use Rattle.lines.proofs.Pieces.{Pieced}
use Rattle.lines.proofs.Text.pages.Given as goal

abbrev pub invariant-loop-page : goal.invariant-loop-page
invariant-loop-page l =
    Pieced (page_field l.cache) 21 l.n l.initial.self l.page-index l.self
