-- How much of a lent row can matter. Assumes nothing.
use Rattle.std.specs.Prelude.{ℕ, cond, ltb}
use Rattle.limits.proofs.Numbers.{cache_most}

-- How many frames of a row of n can matter: no more than the largest cache has.
unfoldable pub reached : ℕ → ℕ
reached n = cond (ltb n cache_most) n cache_most
