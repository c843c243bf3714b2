-- What the functions that judge a start are told, and that work on columns. Assumes nothing.
use Rattle.std.specs.Prelude.{ℕ, ◌≤◌, List, length}
use Rattle.recency.specs.Linked.{buckets}

-- The rows have room for a list's pages.
pub record CanSift (list next heads : List ℕ) : Type 0 where
  pub small : length list ≤ 65535
  pub next_long : length list ≤ length next
  pub heads_long : buckets ≤ length heads

-- They have room for K pages.
pub record CanStart (K : ℕ) (next heads : List ℕ) : Type 0 where
  pub small : K ≤ 65535
  pub next_long : K ≤ length next
  pub heads_long : buckets ≤ length heads
