-- A test whose error is made another by `map_err`, as it goes on by `?`. Assumes nothing.
use mathlib.Core.Path.{◌≡◌, refl, sym, subst}
use mathlib.Core.Bool.{true, true≢false}
use Rattle.std.specs.Prelude.{Result, Ok, Err}
use Rattle.std.specs.Result.{MatchResult, IsErrAnd, is_ok}

module _ {E F : Type 0} {m : Result (Unit {0}) F} where
  -- Where the other has no error, there was none.
  pub mapped_ok : (w : Result (Unit {0}) E) (Q : E → F → Type 0) {x : Unit {0}} → MatchResult w (λ y. m ≡ Ok y) (λ r. IsErrAnd m (Q r)) → m ≡ Ok x → w ≡ Ok x
  mapped_ok (Ok y) Q h e = refl
  mapped_ok (Err r) Q h e = absurd (subst (λ n. IsErrAnd n (Q r)) e h)

  -- Where it has one, there was one of which it is made.
  pub mapped_err : (w : Result (Unit {0}) E) (Q : E → F → Type 0) {b : F} → MatchResult w (λ y. m ≡ Ok y) (λ r. IsErrAnd m (Q r)) → m ≡ Err b → (r : E) × (w ≡ Err r) × Q r b
  mapped_err (Ok y) Q h e = absurd (true≢false (sym (subst (λ n. is_ok n ≡ true) e (rw h refl))))
  mapped_err (Err r) Q h e = (r, refl, subst (λ n. IsErrAnd n (Q r)) e h)
