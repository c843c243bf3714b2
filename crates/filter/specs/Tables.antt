-- The pages that a filter holds, of the struct. Assumes nothing.
use Rattle.std.specs.Prelude.{ℕ, List}
use Rattle.filter.specs.Filter.{pages_in}
use Rattle.filter.specs.declared.Table.{Table}

-- The pages that it holds.
abbrev pub pages : Table → List ℕ
pages t = pages_in t.file.now t.last t.held
