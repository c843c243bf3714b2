-- The pages that a filter holds whose rows are lent, of the struct. Assumes nothing.
use Rattle.std.specs.Prelude.{ℕ, List}
use Rattle.filter.specs.Filter.{pages_in}
use Rattle.filter.specs.declared.lent.Rows.{Rows}

-- The pages that it holds.
abbrev pub pages : Rows → List ℕ
pages t = pages_in t.file.now t.last.now t.held
