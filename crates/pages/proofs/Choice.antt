-- Laws of tests: what follows from the value of one, and of tests put together. Assumes nothing.
use Prim.Native.Nat.{ℕ}
use mathlib.Core.Path.{◌≡◌, refl, sym, ◌∙◌}
use mathlib.Core.Bool.{Bool, true, false, ◌&&◌, ◌||◌, true≢false, false≢true}
use lib.Dec.{T, eqb}
use borrow.Author.Tests.{eq-eqb}
pub use borrow.Author.Tests.{eqb-true as same, not-false}

-- ---- one test

pub split : {C : Type 0} (b : Bool) → (b ≡ true → C) → (b ≡ false → C) → C
split true f g = f refl
split false f g = g refl

pub T→true : (b : Bool) → T b → b ≡ true
T→true true t = refl
T→true false t = absurd t

pub true→T : (b : Bool) → b ≡ true → T b
true→T b e = rw e tt

-- ---- whether two numbers are the same

pub eqb_self : (p : ℕ) → eqb p p ≡ true
eqb_self p = eq-eqb p p refl

pub eqb_sym : (p q : ℕ) → eqb p q ≡ eqb q p
eqb_sym p q =
    split (eqb p q)
    (λ e. rw (same p q e) refl)
    (λ e. split (eqb q p) (λ f. rw (same q p f) refl) (λ f. e ∙ sym f))

-- ---- one test or another

pub or_false : (a b : Bool) → a || b ≡ false → (a ≡ false) × (b ≡ false)
or_false true b e = absurd (true≢false e)
or_false false b e = (refl, e)

pub or_false_right : (a b : Bool) → a || b ≡ false → b ≡ false
or_false_right a b e = (or_false a b e).1

pub or_mono : (a b c : Bool) → a || b ≡ true → (b ≡ true → c ≡ true) → a || c ≡ true
or_mono true b c e f = refl
or_mono false b c e f = f e

pub or_swap : (a b c d : Bool) → a || c ≡ d → a || (b || c) ≡ b || d
or_swap true true c d e = refl
or_swap true false c d e = e
or_swap false true c d e = refl
or_swap false false c d e = e

-- ---- one test and another

pub and_true : (a b : Bool) → a && b ≡ true → (a ≡ true) × (b ≡ true)
and_true true b e = (refl, e)
and_true false b e = absurd (false≢true e)

pub and_both : (a b : Bool) → a ≡ true → b ≡ true → a && b ≡ true
and_both a b p q = rw (p, q)
