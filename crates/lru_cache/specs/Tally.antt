-- "A running tally of items, fetches and evictions that each item moves on." Assumes nothing.
use Rattle.std.specs.Prelude.{ℕ, zero, suc, ◌+◌, ◌*◌, ◌/◌, ◌<◌, ◌^◌, Bool, true, false, List, [], ◌∷◌}
use Rattle.std.proofs.Math.Option.{Option, some, none}
use Rattle.frames.specs.declared.Frame.{Frame}
use Rattle.trace.specs.declared.Item.{Item}
use Rattle.lru_cache.specs.Lru.{Event, Outcome, step}
use Rattle.lru_cache.specs.declared.Tally.{Tally}

-- 1 for true, and 0 for false.
abbrev pub one_of : Bool → ℕ
one_of true = 1
one_of false = 0

-- Nothing counted yet.
abbrev pub nothing : Tally
nothing = record { items = 0; fetches = 0; evictions = 0 }

-- The tally with one item more, which was a fetch or not, and evicted a page or not.
abbrev pub counted_of : Tally → Bool → Bool → Tally
counted_of t f e = record { items = t.items + 1; fetches = t.fetches + one_of f; evictions = t.evictions + one_of e }

-- Each count can grow by one.
pub record HasRoom (t : Tally) : Type 0 where
  pub items_fit : t.items + 1 < 2 ^ 64
  pub fetches_fit : t.fetches + 1 < 2 ^ 64
  pub evictions_fit : t.evictions + 1 < 2 ^ 64

-- An item was a fetch.
unfoldable pub is_fetch : List Event → Bool
is_fetch [] = false
is_fetch (e ∷ es) = true

-- A page was evicted.
unfoldable pub is_eviction : List Event → Bool
is_eviction [] = false
is_eviction (e ∷ es) = gone e.evicted
  where
    gone : Option Frame → Bool
    gone none = false
    gone (some f) = true

-- The tally after one outcome of an item.
unfoldable pub tallied : Tally → Outcome → Tally
tallied c o = counted_of c (is_fetch o.events) (is_eviction o.events)

-- The tally after a trace, from a tally before it.
unfoldable pub tally : ℕ → List Frame → Tally → List Item → Tally
tally K s c [] = c
tally K s c (i ∷ t) = let o = step K s i in tally K o.final (tallied c o) t

-- "Fetches per million items, rounded down, 0 for an empty trace."
unfoldable pub per_million : ℕ → ℕ → ℕ
per_million fetches zero = 0
per_million fetches (suc n) = fetches * 1000000 / suc n
