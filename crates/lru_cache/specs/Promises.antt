-- What is promised of LRU and its tally. Assumes nothing.
use Rattle.std.specs.Prelude.{ℕ, ◌+◌, ◌*◌, ◌≤◌, ◌<◌, ◌≡◌, false, List, [], ◌∷◌, map, length}
use Rattle.std.proofs.Math.Option
use Rattle.std.proofs.Math.Option.{Option, some, none}
use Rattle.pages.specs.Pages.{Distinct}
use Rattle.frames.specs.Frames.{framed, pages_of}
use Rattle.frames.specs.declared.Frame.{Frame}
use Rattle.trace.specs.declared.Item.{Item}
use Rattle.lru_cache.specs.Lru.{Event, Outcome, replay, words}
use Rattle.lru_cache.specs.Tally.{nothing, tally, per_million}
use Rattle.lru_cache.specs.declared.Tally.{Tally}

-- "A list of distinct pages, most recently used first, with room for K": distinct pages, and no more than K.
pub record Fine (K : ℕ) (s : List Frame) : Type 0 where
  pub distinct : Distinct (pages_of s)
  pub room : length s ≤ K

-- The list stays so.
abbrev pub StaysFine : Type 0
StaysFine = (K : ℕ) → 1 ≤ K → (s : List Frame) (t : List Item) → Fine K s → Fine K (replay K s t).final

-- How many of some events evicted a page.
unfoldable pub evictions : List Event → ℕ
evictions [] = 0
evictions (e ∷ es) = one e.evicted + evictions es
  where
    one : Option Frame → ℕ
    one none = 0
    one (some f) = 1

-- The tally counts the items, one fetch for each event, and one eviction for each event that evicted a page.
pub record Counts (c : Tally) (t : List Item) (es : List Event) : Type 0 where
  pub items_are : c.items ≡ length t
  pub fetches_are : c.fetches ≡ length es
  pub evictions_are : c.evictions ≡ evictions es

abbrev pub TallyCounts : Type 0
TallyCounts = (K : ℕ) (s : List Frame) (t : List Item) → Counts (tally K s nothing t) t (replay K s t).events

-- Fetches per million items are the whole part of the quotient.
abbrev pub PerMillionIs : Type 0
PerMillionIs = (fetches n : ℕ) → 1 ≤ n → (per_million fetches n * n ≤ fetches * 1000000) × (fetches * 1000000 < (per_million fetches n + 1) * n)

-- "The fourth number says whether anything was evicted": events with the same numbers are the same, whatever pages they have. So page 0 evicted is told from nothing evicted.
abbrev pub WordsTell : Type 0
WordsTell = (a b : List Event) → words a ≡ words b → a ≡ b

-- ---- without the marks

-- A frame without its mark.
abbrev pub clean : Frame → Frame
clean f = framed f.page false

-- An event without that of the frame evicted: its time, its page and the page evicted, if any.
abbrev pub page_event : Event → Event
page_event e = record { time = e.time; page = e.page; evicted = Option.map clean e.evicted }

-- Two outcomes differ in marks alone: the same fetches (times, pages, evicted pages), and the same pages in the same order.
pub record SamePages (o p : Outcome) : Type 0 where
  pub events_are : map page_event o.events ≡ map page_event p.events
  pub pages_are : pages_of o.final ≡ pages_of p.final

-- An item without its mark.
abbrev pub unmarked : Item → Item
unmarked i = record { page = i.page; time = i.time; written = false }

-- Marks decide nothing but marks: from lists of the same pages, items of the same pages and times fetch and evict the same pages.
abbrev pub MarksDecideNothing : Type 0
MarksDecideNothing = (K : ℕ) (s r : List Frame) → pages_of s ≡ pages_of r → (t u : List Item) → map unmarked t ≡ map unmarked u → SamePages (replay K s t) (replay K r u)
