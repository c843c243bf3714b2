-- What the tally counts, and what fetches per million items are. Assumes nothing.
use Prim.Native.Nat.{ℕ, zero, suc, ◌+◌, ◌*◌, ◌/◌, ◌≤◌, ◌<◌}
use mathlib.Core.Path.{◌≡◌, refl}
use mathlib.Core.Bool.{Bool, true, false}
use mathlib.Core.List.{List, [], ◌∷◌, ◌++◌, get_last?}
use mathlib.Core.Option.{Option, some, none}
use Rattle.std.specs.Prelude.{Option as Maybe, Some, None, SomeIff}
use Rattle.std.specs.Option.{unwrap_or}
use native.Mathlib.Nat.{zero-add, add_assoc, div-mul-le_self, div-lt_iff_lt-mul}
use native.Mathlib.Omega.{arith}
use lib.ListN.{length, length-append}
use lib.Dec.{ltb}
use Rattle.pages.specs.Pages.{has}
use Rattle.pages.proofs.Choice.{split}
use Rattle.frames.specs.Frames.{pages_of}
use Rattle.frames.specs.declared.Frame.{Frame}
use Rattle.trace.specs.declared.Item.{Item}
use Rattle.lru_cache.specs.Lru.{Event, fetched, hit, fetch, step, ◌then◌, replay}
use Rattle.lru_cache.specs.Tally.{one_of, nothing, counted_of, is_fetch, is_eviction, tallied, tally, per_million}
use Rattle.lru_cache.specs.Promises.{evictions, TallyCounts, PerMillionIs}
use Rattle.lru_cache.specs.declared.Tally.{Tally}

-- ---- an item

-- The counts that the code adds up are the tally with one item more.
pub counted_is : (t : Tally) (f e : Bool) {a b : ℕ} → a ≡ one_of f → b ≡ one_of e
    → record { items = t.items + 1; fetches = t.fetches + a; evictions = t.evictions + b } ≡ counted_of t f e
counted_is t f e p q = rw (p, q)

-- A test counts at most once.
pub one_most : (b : Bool) → one_of b ≤ 1
one_most true = omega arith
one_most false = omega arith

-- Events that two flags count: at most one event.
pub record Flagged (es : List Event) : Type 0 where
  pub fetches_are : length es ≡ one_of (is_fetch es)
  pub evictions_are : evictions es ≡ one_of (is_eviction es)

flagged : (i : Item) (e : Option Frame) → Flagged (fetched i e)
unfolding evictions is_fetch is_eviction
flagged i none = record { fetches_are = refl; evictions_are = refl }
flagged i (some p) = record { fetches_are = refl; evictions_are = refl }

-- The two flags of an item count its events.
pub step_flagged : (K : ℕ) (s : List Frame) (i : Item) → Flagged (step K s i).events
unfolding step hit fetch evictions is_fetch is_eviction
step_flagged K s i =
    split (has i.page (pages_of s))
    (λ h. rw h (record { fetches_are = refl; evictions_are = refl }))
    (λ h. split (ltb (length s) K) (λ l. rw (h, l) (flagged i none)) (λ l. rw (h, l) (flagged i (get_last? s))))

-- ---- a trace

evictions-append : (a b : List Event) → evictions (a ++ b) ≡ evictions a + evictions b
unfolding evictions
evictions-append [] b = rw zero-add
evictions-append (e ∷ a) b = rw (evictions-append a b, add_assoc)

-- A tally c moves on to d, by the items t and the events es.
pub record MovesOn (c d : Tally) (t : List Item) (es : List Event) : Type 0 where
  pub items_are : d.items ≡ c.items + length t
  pub fetches_are : d.fetches ≡ c.fetches + length es
  pub evictions_are : d.evictions ≡ c.evictions + evictions es

-- From any tally, a trace counts its items and its events, and of these the evictions.
pub tally_moves : (K : ℕ) (s : List Frame) (c : Tally) (t : List Item) → MovesOn c (tally K s c t) t (replay K s t).events
unfolding tally tallied replay ◌then◌ evictions
tally_moves K s c [] = omega arith
tally_moves K s c (i ∷ t) =
    let o = step K s i in
    let f = step_flagged K s i in
    let m = tally_moves K o.final (tallied c o) t in
    record { items_are = omega arith; fetches_are = rw length-append (omega arith); evictions_are = rw evictions-append (omega arith) }

-- From nothing, the counts are those of the trace.
pub tally_counts : TallyCounts
tally_counts K s t = let m = tally_moves K s nothing t in omega arith

-- ---- fetches per million

-- Fetches per million items are the whole part of the quotient.
pub per_million_lem : PerMillionIs
unfolding per_million
per_million_lem fetches zero h = absurd (omega arith)
per_million_lem fetches (suc n) h =
    let x = fetches * 1000000 in
    (div-mul-le_self x (suc n), (div-lt_iff_lt-mul h).0 (omega arith))

-- A trace has no more fetches than items.
pub fetches_few : (K : ℕ) (s : List Frame) (t : List Item) → length (replay K s t).events ≤ length t
unfolding replay ◌then◌
fetches_few K s [] = omega arith
fetches_few K s (i ∷ t) =
    let o = step K s i in
    omega (arith, length-append o.events (replay K o.final t).events, (step_flagged K s i).fetches_are, one_most (is_fetch o.events), fetches_few K o.final t)

-- A quotient where there is one, and else 0.
pub rate_is : (fetches items : ℕ) (r : Maybe ℕ) → SomeIff r (0 < items) (fetches * 1000000 / items) → unwrap_or r 0 ≡ per_million fetches items
unfolding per_million
rate_is fetches zero None n = refl
rate_is fetches zero (Some x) q = absurd (omega (arith, q.0))
rate_is fetches (suc k) None n = absurd (n (omega arith))
rate_is fetches (suc k) (Some x) q = q.1
