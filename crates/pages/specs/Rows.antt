-- Lists of anything: each element as a statement says, and one list put in front of, after or over another. Assumes nothing.
use Rattle.std.specs.Prelude.{Bool, true, false, List, [], ◌∷◌, ◌++◌, length, drop}

module _ {A : Type 0} where
  -- The element x in front of a list if a test passes, and else the list as it is.
  abbrev pub cons_if : Bool → A → List A → List A
  cons_if true x l = x ∷ l
  cons_if false x l = l

  -- Each element of a list is as P says.
  abbrev pub All : (A → Type 0) → List A → Type 0
  All P [] = Unit {0}
  All P (x ∷ l) = P x × All P l

  -- The lists of a list one after the other.
  unfoldable pub flat : List (List A) → List A
  flat [] = []
  flat (l ∷ ls) = l ++ flat ls

  -- The row s written over the front of the buffer d, of which what lies beyond s stays.
  unfoldable pub over : List A → List A → List A
  over s d = s ++ drop (length s) d
