-- Text in a buffer, as one value. Assumes nothing.
use Rattle.std.specs.Prelude.{ℕ, ◌≡◌, List, length}
use Rattle.lines.specs.declared.Text.{Text}
use Rattle.lines.specs.Text.{Put}

-- A text was put behind what stood in a buffer, which is the same buffer and as long as it was.
pub record Puts (text : List ℕ) (old new : Text) : Type 0 where
  pub put : Put text old.at old.out.now new.at new.out.now
  pub same : new.out.ghost_name ≡ old.out.ghost_name
  pub long : length new.out.now ≡ length old.out.now
