-- The order of recency, read off a log: each use of a page appends it to a list, oldest first. Assumes nothing.
use Rattle.std.specs.Prelude.{ℕ, not, List, [], ◌∷◌, reverse}
use Rattle.pages.specs.Rows.{cons_if}
use Rattle.pages.specs.Pages.{has}

-- The pages of a log, each once, where it was used last.
unfoldable pub lasts : List ℕ → List ℕ
lasts [] = []
lasts (p ∷ l) = cons_if (not (has p l)) p (lasts l)

-- The pages of a log, the most recently used first.
unfoldable pub order : List ℕ → List ℕ
order l = reverse (lasts l)
