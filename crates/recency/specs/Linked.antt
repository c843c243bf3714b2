-- How a page's last place in a log is found: the places are chained by their pages' buckets. Assumes nothing.
use Rattle.std.specs.Prelude.{ℕ, ◌≤◌, ◌<◌, cond, List, length, ltb}
use Rattle.chains.specs.Chains.{at, newest, Chained, bucket_in}

-- How many buckets there are.
abbrev pub buckets : ℕ
buckets = 8192

-- The bucket of a page.
unfoldable pub bucket_of : ℕ → ℕ
bucket_of p = bucket_in buckets p

-- The bucket of the page at a place of a list.
unfoldable pub bucket_at : List ℕ → ℕ → ℕ
bucket_at log j = bucket_of (at log j)

-- The first n places of a list of pages are chained by their pages' buckets, and the rows have room for all of its places.
pub record Linked (log next heads : List ℕ) (n : ℕ) : Type 0 where
  pub chained : Chained (bucket_at log) n 0 heads next
  pub within : n ≤ length log
  pub small : length log ≤ 65535
  pub next_long : length log ≤ length next
  pub heads_long : buckets ≤ length heads

-- Place c can be chained: those before it are.
pub record CanLink (log next heads : List ℕ) (c : ℕ) : Type 0 where
  pub linked : Linked log next heads c
  pub room : c < length log

-- The rows have room for a list of pages, of which the first n places are to be chained.
pub record CanIndex (log next heads : List ℕ) (n : ℕ) : Type 0 where
  pub within : n ≤ length log
  pub small : length log ≤ 65535
  pub next_long : length log ≤ length next
  pub heads_long : buckets ≤ length heads

-- The last place of page p from low on among the first n of a list, counted from 1, or 0 where there is none.
unfoldable pub last_from : ℕ → List ℕ → ℕ → ℕ → ℕ
last_from low log n p = let e = newest (at log) p n in cond (ltb low e) e 0
