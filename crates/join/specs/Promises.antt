-- What is promised of a join, over the definitions that its contract cites. Assumes nothing.
use Rattle.std.specs.Prelude.{ℕ, ◌≡◌, List, ◌++◌}
use Rattle.trace.specs.Layout.{items}
use Rattle.trace.specs.Check.{checked}
use Rattle.trace.specs.Promises.{AreBytes}
use Rattle.std.specs.Prelude.{Ok}
use Rattle.join.specs.Join.{Passed}
use Rattle.join.specs.Join.{joined_header, joined_file, judged}

-- The joined file is accepted, with the header that is answered, and its items are the two files' items in order.
pub record IsJoined (f g : List ℕ) : Type 0 where
  pub accepted : checked (joined_file f g) ≡ Ok (joined_header f g)
  pub items_are : items (joined_file f g) ≡ items f ++ items g

-- Wherever the join is not refused.
abbrev pub WritesJoined : Type 0
WritesJoined = (f g : List ℕ) (room : ℕ) → AreBytes f → AreBytes g → judged f g room ≡ Passed → IsJoined f g
