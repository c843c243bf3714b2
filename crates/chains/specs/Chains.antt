-- Chains: places in buckets, where the places of a bucket are chained from the last to the first. Assumes nothing.
use Rattle.std.specs.Prelude.{ℕ, zero, suc, Option, None, Some, ◌+◌, ◌-◌, ◌*◌, ◌/◌, ◌%◌, ◌<◌, ◌≡◌, cond, List, length, get_or, set, eqb}

-- What stands at a place of a list, and beyond it 0.
unfoldable pub at : List ℕ → ℕ → ℕ
at l j = get_or l j 0

-- A place that may be missing, counted from 1: 0 where there is none.
unfoldable pub counted : Option ℕ → ℕ
counted None = 0
counted (Some j) = suc j

-- One more than the last of the first i places j with m j = v, or 0 where there is none.
unfoldable pub newest : (ℕ → ℕ) → ℕ → ℕ → ℕ
newest m v zero = 0
newest m v (suc j) = cond (eqb (m j) v) (suc j) (newest m v j)

-- Two rows chain the first n places, where place j is in bucket m j. Places are counted from 1: of each bucket that has a place heads has base plus the last of them,
-- and next has, for each place, the last before it in its bucket. Of a bucket that has none heads may say anything up to base.
pub record Chained (m : ℕ → ℕ) (n base : ℕ) (heads next : List ℕ) : Type 0 where
  pub heads_are : (v : ℕ) → get_or heads v 0 - base ≡ newest m v n
  pub next_are : (j : ℕ) → j < n → get_or next j 0 ≡ newest m (m j) j

-- ---- a place more

-- Place c can be put in front of bucket v: the rows have room, and its number fits two bytes.
pub record CanPush (base c v : ℕ) (heads next : List ℕ) : Type 0 where
  pub bucket : v < length heads
  pub room : c < length next
  pub small : base + c < 65535

-- The heads with place c in front of bucket v.
abbrev pub heads_with : ℕ → ℕ → ℕ → List ℕ → List ℕ
heads_with base c v heads = set heads v (base + c + 1)

-- The links then: what was in front of the bucket comes behind place c.
abbrev pub next_with : ℕ → ℕ → ℕ → List ℕ → List ℕ → List ℕ
next_with base c v heads next = set next c (get_or heads v 0 - base)

-- ---- a bucket for a page

-- A number in which every bit of a page counts, from which its bucket is made. What is found does not depend on it.
unfoldable pub mixed : ℕ → ℕ
mixed p = p % 4294967296 * 1640531527 + p / 4294967296 * 1540483477

-- The bucket of a page, of so many: of the lower 32 bits of the number that it is mixed to, the upper ones.
abbrev pub bucket_in : ℕ → ℕ → ℕ
bucket_in n p = mixed p / (4294967296 / n) % n
