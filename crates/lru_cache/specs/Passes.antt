-- What the code's own functions are told, and what they leave. Assumes nothing.
use Rattle.std.specs.Prelude.{ℕ, ◌+◌, ◌*◌, ◌≤◌, ◌<◌, ◌≡◌, Bool, false, cond, List, [], ◌∷◌, length, take, Option, Some, None, is_some}
use Rattle.limits.proofs.Numbers.{items_most, cache_most}
use Rattle.pages.specs.Rows.{over}
use Rattle.pages.specs.Pages.{Distinct}
use Rattle.frames.specs.Frames.{pages_of, marks_of}
use Rattle.frames.specs.declared.Frame.{Frame}
use Rattle.recency.specs.Linked.{buckets}
use Rattle.recency.specs.Held.{Logged, Held, Holds, Gone}
use Rattle.recency.specs.State.{State}
use Rattle.trace.specs.Layout.{items_from}
use Rattle.lru_cache.specs.Lru.{Outcome, words, replay}
use Rattle.lru_cache.specs.Tally.{nothing, is_fetch, is_eviction, tally}
use Rattle.lru_cache.specs.declared.Tally.{Tally}
use Rattle.lru_cache.specs.declared.Fetch.{Fetch}

-- ---- one item

-- Room can be made in a cache of at least one page.
pub record CanMake (K : ℕ) (log : State) : Type 0 where
  pub logged : Logged log
  pub some : 1 ≤ K

-- The last frame went, and is told.
pub record Went (log log' : State) (gone : Option Frame) : Type 0 where
  pub frame : Frame
  pub gone_is : gone ≡ Some frame
  pub left : Gone log log'.queue frame
  pub rest : log' ≡ record log { queue = log'.queue }

-- Nothing went.
pub record Stayed (log log' : State) (gone : Option Frame) : Type 0 where
  pub gone_is : gone ≡ None
  pub same : log' ≡ log

-- Room was made: nothing goes where the page is found, or where fewer than K are resident; otherwise the last one goes.
pub record Made (K : ℕ) (last : Option ℕ) (log log' : State) (gone : Option Frame) : Type 0 where
  pub found : (j : ℕ) → last ≡ Some j → Stayed log log' gone
  pub room : log.queue.resident < K → Stayed log log' gone
  pub full : last ≡ None → K ≤ log.queue.resident → Went log log' gone

-- The fourth number, as the code finds it: whether a page was evicted, and whether it was written.
abbrev pub cost_of : Option Frame → ℕ
cost_of None = 0
cost_of (Some f) = cond f.written 2 1

-- The log holds a cache of at most K pages, and has room for one more.
pub record Ready (K : ℕ) (log : State) : Type 0 where
  pub held : Held log
  pub some : 1 ≤ K
  pub small : K + 1 < length log.pages
  pub within : log.queue.resident ≤ K

-- The third number: the page evicted, or 0.
abbrev pub word_of : Option Frame → ℕ
word_of None = 0
word_of (Some f) = f.page

-- The numbers that are written of an item: four of a fetch, and none of a hit.
abbrev pub told : Option Fetch → List ℕ
told None = []
told (Some f) = f.time ∷ f.page ∷ word_of f.gone ∷ cost_of f.gone ∷ []

-- Whether an item evicted a page.
abbrev pub evicts : Option Fetch → Bool
evicts None = false
evicts (Some f) = is_some f.gone

-- One item's outcome o stands in the log, and is told.
pub record Stepped (o : Outcome) (K : ℕ) (r : Option Fetch) (log' : State) : Type 0 where
  pub holds : Holds o.final log'
  pub within : log'.queue.resident ≤ K
  pub told_is : told r ≡ words o.events
  pub fetched_is : is_some r ≡ is_fetch o.events
  pub evicted_is : evicts r ≡ is_eviction o.events

-- ---- all items

-- A replay of n items can begin with the cache that the log holds.
pub record CanPlay (n K : ℕ) (log : State) (events : List ℕ) : Type 0 where
  pub few : n ≤ items_most
  pub ready : Ready K log
  pub room : 4 * n ≤ length events

-- The outcome o stands in the log and the events, with its tally c.
pub record Turned (o : Outcome) (c : Tally) (K : ℕ) (events : List ℕ) (r : Tally) (log' : State) (events' : List ℕ) : Type 0 where
  pub holds : Holds o.final log'
  pub within : log'.queue.resident ≤ K
  pub events_are : events' ≡ over (words o.events) events
  pub tally_is : r ≡ c

-- So does that of the replay of the first n items of a file, from a list of frames.
abbrev pub Plays : List ℕ → ℕ → ℕ → List Frame → List ℕ → Tally → State → List ℕ → Type 0
Plays file n K s events =
    let u = items_from file 0 n in
    Turned (replay K s u) (tally K s nothing u) K events

-- A replay of n items can begin.
pub record CanRun (n K resident : ℕ) (cache : List ℕ) (kept : List Bool) (events : List ℕ) : Type 0 where
  pub few : n ≤ items_most
  pub some : 1 ≤ K
  pub most : K ≤ cache_most
  pub places : K ≤ length cache
  pub marks : length kept ≡ length cache
  pub within : resident ≤ K
  pub once : Distinct (take resident cache)
  pub room : 4 * n ≤ length events

-- The rows have room for the largest cache.
pub record Rows (log : State) : Type 0 where
  pub log_long : cache_most + 1 < length log.pages
  pub small : length log.pages ≤ 65535
  pub next_long : length log.pages ≤ length log.next
  pub stale_long : length log.pages ≤ length log.marks
  pub heads_long : buckets ≤ length log.heads

-- The whole outcome o stands in the buffers, with its tally c. The log's count is that of the frames at the end.
pub record Ran (o : Outcome) (c : Tally) (cache : List ℕ) (kept : List Bool) (events : List ℕ) (r : Tally) (log' : State)
    (cache' : List ℕ) (kept' : List Bool) (events' : List ℕ) : Type 0 where
  pub cache_is : cache' ≡ over (pages_of o.final) cache
  pub kept_is : kept' ≡ over (marks_of o.final) kept
  pub events_are : events' ≡ over (words o.events) events
  pub resident_is : log'.queue.resident ≡ length o.final
  pub tally_is : r ≡ c
