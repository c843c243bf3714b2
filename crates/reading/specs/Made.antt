-- What a program makes of its input. Assumes nothing.
use Rattle.std.specs.Prelude.{◌≡◌, ℕ, List}
use denote.Ref.{Bor, MutBor}
use denote.Param.Members.{Once}

-- Given `input`, and an output that is `old`, the program may answer m and leave the output `new`.
pub record Makes {P O : Type 0} (g : Once P (Bor (List ℕ) × (MutBor O × Unit {0})) (ℕ × (MutBor O × Unit {0}))) (program : P) (input : List ℕ)
    (old : O) (m : ℕ) (new : O) : Type 0 where
  pub given : Bor (List ℕ)
  pub gives : given.now ≡ input
  pub shown : MutBor O
  pub shows : shown.now ≡ old
  pub left : MutBor O
  pub leaves : left.now ≡ new
  pub met : g.post program (given, (shown, tt)) (m, (left, tt))
