-- Replays of the paper's trace T, by computation. Assumes nothing.
use Rattle.std.specs.Prelude.{ℕ, ◌≡◌, refl, true, false, [], ◌∷◌, take}
use Rattle.std.proofs.Math.Option.{Option, some, none}
use Rattle.pages.specs.Pages.{has}
use Rattle.frames.specs.Frames.{framed, dirty, taken}
use Rattle.frames.specs.declared.Frame.{Frame}
use Rattle.trace.specs.Examples.{top, T}
use Rattle.trace.specs.declared.Item.{Item}
use Rattle.lru_cache.specs.Lru.{Event, hit, fetch, step, ◌then◌, replay, word, cost, words}
use Rattle.lru_cache.specs.Tally.{nothing, is_fetch, is_eviction, tallied, tally, per_million}

-- ---- T

-- At time t page p was fetched, and e evicted. A page that was only read is clean.
abbrev event : ℕ → ℕ → Option Frame → Event
event t p e = record { time = t; page = p; evicted = e }

two : replay 2 [] T ≡ record {
  events = event 10 1 none ∷ event 40 2 none ∷ event 60 3 (some (framed 2 false)) ∷ event 80 4 (some (framed 1 false)) ∷ event 110 1 (some (framed 4 false)) ∷ [];
  final = framed 1 false ∷ framed 3 false ∷ [];
}
unfolding replay ◌then◌ step hit fetch has dirty taken
two = refl

three : replay 3 [] T ≡ record {
  events = event 10 1 none ∷ event 40 2 none ∷ event 60 3 none ∷ event 80 4 (some (framed 2 false)) ∷ [];
  final = framed 1 false ∷ framed 3 false ∷ framed 4 false ∷ [];
}
unfolding replay ◌then◌ step hit fetch has dirty taken
three = refl

one_tally : tally 1 [] nothing T ≡ record { items = 12; fetches = 7; evictions = 6 }
unfolding tally tallied is_fetch is_eviction step hit fetch has dirty taken
one_tally = refl

two_tally : tally 2 [] nothing T ≡ record { items = 12; fetches = 5; evictions = 3 }
unfolding tally tallied is_fetch is_eviction step hit fetch has dirty taken
two_tally = refl

rate : per_million 5 12 ≡ 416666
unfolding per_million
rate = refl

-- The first fetch evicts nothing, and the third page 2, which was only read.
first-words : words (take 3 (replay 2 [] T).events)
    ≡ 10 ∷ 1 ∷ 0 ∷ 0 ∷ 40 ∷ 2 ∷ 0 ∷ 0 ∷ 60 ∷ 3 ∷ 2 ∷ 1 ∷ []
unfolding replay ◌then◌ step hit fetch has dirty taken words word cost
first-words = refl

-- ---- with writes

-- A read, and a write, of page p at time t.
abbrev read : ℕ → ℕ → Item
read p t = record { page = p; time = t; written = false }

abbrev write : ℕ → ℕ → Item
write p t = record { page = p; time = t; written = true }

-- A hit by a write marks its page, one by a read keeps the mark, and the page that goes tells it: at 40 page 2 goes clean; at 50 page 3, whose write was itself the
-- fetch, goes written, and at 60 page 1, which was read after it was written.
marks : replay 2 [] (read 1 10 ∷ read 2 20 ∷ write 1 30 ∷ write 3 40 ∷ read 1 45 ∷ read 4 50 ∷ read 5 60 ∷ []) ≡ record {
  events =
      event 10 1 none ∷ event 20 2 none ∷ event 40 3 (some (framed 2 false)) ∷ event 50 4 (some (framed 3 true)) ∷ event 60 5 (some (framed 1 true)) ∷ [];
  final = framed 5 false ∷ framed 4 false ∷ [];
}
unfolding replay ◌then◌ step hit fetch has dirty taken
marks = refl

-- The same page goes clean, and once it was written goes written.
clean_then_written : words (replay 1 [] (read 1 10 ∷ read 2 20 ∷ write 1 30 ∷ read 2 40 ∷ [])).events
    ≡ 10 ∷ 1 ∷ 0 ∷ 0 ∷ 20 ∷ 2 ∷ 1 ∷ 1 ∷ 30 ∷ 1 ∷ 2 ∷ 1 ∷ 40 ∷ 2 ∷ 1 ∷ 2 ∷ []
unfolding replay ◌then◌ step hit fetch has dirty taken words word cost
clean_then_written = refl

-- Page 0 evicted beside nothing evicted, and page 2^64−1 fetched and evicted: at 10 nothing goes, at 20 page 0 clean, at 30 page 2^64−1, and at 40 page 0 written.
zero_and_top : words (replay 1 [] (read 0 10 ∷ read top 20 ∷ write 0 30 ∷ read top 40 ∷ [])).events
    ≡ 10 ∷ 0 ∷ 0 ∷ 0 ∷ 20 ∷ top ∷ 0 ∷ 1 ∷ 30 ∷ 0 ∷ top ∷ 1 ∷ 40 ∷ top ∷ 0 ∷ 2 ∷ []
unfolding replay ◌then◌ step hit fetch has dirty taken words word cost
zero_and_top = refl

-- Marks of the start: page 7's survives a read, and page 8, which goes with its mark, comes in again clean.
start : replay 2 (framed 7 true ∷ framed 8 true ∷ []) (read 7 1 ∷ read 9 2 ∷ read 8 3 ∷ []) ≡ record {
  events = event 2 9 (some (framed 8 true)) ∷ event 3 8 (some (framed 7 true)) ∷ [];
  final = framed 8 false ∷ framed 9 false ∷ [];
}
unfolding replay ◌then◌ step hit fetch has dirty taken
start = refl
