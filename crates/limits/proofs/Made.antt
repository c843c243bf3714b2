-- What a constructor's answer says of the number. Assumes nothing.
use Prim.Native.Nat.{ℕ}
use mathlib.Core.Path.{◌≡◌, refl, sym, ◌∙◌}
use mathlib.Core.Bool.{Bool, true, false, not}
use Rattle.std.specs.Prelude.{Option, Some, None}
use Rattle.std.specs.Option.{is_some}
use Rattle.pages.proofs.Choice.{split}
use Rattle.limits.specs.Sizes.{between, within}
use Rattle.limits.specs.declared.Within.{Within}

module _ (least most n : ℕ) where
  -- Something is made exactly if the number lies within the limits.
  pub made_some : is_some (within least most n) ≡ between least most n
  made_some = split (between least most n) (λ t. rw t) (λ f. rw f)

  -- What is made has the number, which lies within the limits.
  pub made_ready : {x : Within least most} → Some x ≡ within least most n → (between least most n ≡ true) × (x.number ≡ n)
  made_ready {x} e =
      split (between least most n)
      (λ t.
      let q : ◌≡◌ {A = Option (Within least most)} (Some x) (Some (record { number = n })) = rw t at e in
      let z : x.number ≡ n = cc in
      (t, z))
      (λ f. absurd (let q : ◌≡◌ {A = Option (Within least most)} (Some x) None = rw f at e in cc))

  -- So the test that nothing is made tells whether it does.
  module _ {r : Option (Within least most)} (e : r ≡ within least most n) {b : Bool} (q : is_some r ≡ not b) where
    pub number_out : b ≡ true → between least most n ≡ false
    number_out t = sym made_some ∙ rw (← e, q, t) refl

    pub number_in : b ≡ false → between least most n ≡ true
    number_in f = sym made_some ∙ rw (← e, q, f) refl
