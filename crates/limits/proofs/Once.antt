-- Each public function's contract allows one result. Assumes nothing.
use Prim.Native.Nat.{ℕ}
use mathlib.Core.Path.{sym, ◌∙◌}
use mir.Val.{Fits}
use mir.Syntax.{w64}
use Rattle.pages.proofs.Once.{OneResult}
use Rattle.limits.proofs.Within.new.Kinds as new
use Rattle.limits.proofs.Within.new.Reads.{Post as new_post}
use Rattle.limits.proofs.Within.number.Kinds as number
use Rattle.limits.proofs.Within.number.Reads.{Post as number_post}

module _ (least most : ℕ) (least_fits : Fits w64 least) (most_fits : Fits w64 most) where
  pub new_once : OneResult (new.ps least most least_fits most_fits) (new.r least most least_fits most_fits) (new_post least most least_fits most_fits)
  new_once κs args x y s t p q = p ∙ sym q

  pub number_once : OneResult (number.ps least most least_fits most_fits) (number.r least most least_fits most_fits) (number_post least most least_fits most_fits)
  number_once κs args x y s t p q = p ∙ sym q
