-- Numbers within limits. The limits are the code's constants: a definition takes them, and a contract hands them over. Assumes nothing.
use Rattle.std.specs.Prelude.{ℕ, Bool, cond, ◌&&◌, leb, Option, Some, None}
use Rattle.limits.specs.declared.Within.{Within}

-- A number lies from the least to the most.
abbrev pub between : ℕ → ℕ → ℕ → Bool
between least most n = leb least n && leb n most

-- The number asked, if it lies within the limits.
abbrev pub within : (least most : ℕ) → ℕ → Option (Within least most)
within least most n = cond (between least most n) (Some (record { number = n })) None
