-- A replay in the rows and the events, item by item. Assumes nothing.
use Prim.Native.Nat.{ℕ, ◌+◌, ◌*◌, ◌≤◌, ◌<◌}
use mathlib.Core.Path.{◌≡◌, refl, ◌∙◌}
use mathlib.Core.List.{List}
use native.Mathlib.Omega.{arith}
use Rattle.std.specs.Prelude.{Option, is_some}
use mir.Syntax.{w64}
use mir.Val.{Fits}
use lib.ListN.{length}
use lib.Seq.{sets}
use Rattle.pages.specs.Rows.{over}
use Rattle.pages.proofs.Rows.{over_more}
use Rattle.recency.specs.Held.{frames}
use Rattle.recency.specs.State.{State, AsLong}
use Rattle.trace.specs.Layout.{item_at, items_of, items_from}
use Rattle.trace.specs.declared.Item.{Item}
use Rattle.trace.proofs.Items.{first_more}
use Rattle.lru_cache.specs.Lru.{Outcome, step, ◌then◌, replay, words}
use Rattle.lru_cache.specs.Tally.{nothing, counted_of, HasRoom, is_fetch, tallied, tally}
use Rattle.lru_cache.specs.Passes.{told, evicts, Ready, Stepped, CanPlay, Turned, Plays}
use Rattle.lru_cache.specs.declared.Tally.{Tally}
use Rattle.lru_cache.specs.declared.Fetch.{Fetch}
use Rattle.lru_cache.proofs.Counting.{one_most, step_flagged, tally_counts}
use Rattle.lru_cache.proofs.Online.{replay_more, tally_more}
use Rattle.lru_cache.proofs.Words.{words_append, length-words}

-- ---- one outcome after another

-- An outcome stands in the events, and an item's outcome after it: so do both, one after the other.
turned_then : {o p : Outcome} {c : Tally} {K : ℕ} {t : Tally} {e : Option Fetch} {events : List ℕ} {log : State} {events' : List ℕ} {log' : State} {events'' : List ℕ}
    → Turned o c K events t log events' → Stepped p K e log' → events'' ≡ sets events' (4 * t.fetches) (told e)
    → t.fetches ≡ length o.events → 4 * (length o.events + length p.events) ≤ length events
    → Turned (o then p) (tallied c p) K events (counted_of t (is_some e) (evicts e)) log' events''
unfolding ◌then◌ tallied
turned_then {o} {p} {t = t} {events = events} d s y f l =
    let w = words o.events in
    let v = words p.events in
    let n : 4 * t.fetches ≡ length w = rw (f, length-words o.events) in
    record {
      holds = s.holds;
      within = s.within;
      events_are =
          y
          ∙ rw (s.told_is, n, d.events_are, words_append o.events p.events)
          (over_more w v events (omega (arith, length-words o.events, length-words p.events)));
      tally_is = rw (d.tally_is, s.fetched_is, s.evicted_is);
    }

-- ---- the loop

-- A replay of n items of the file f, from the cache that the log held, has done i: the tally is t.
pub record Running (f : List ℕ) (n K : ℕ) (log₀ : State) (events₀ : List ℕ) (log : State) (events : List ℕ) (t : Tally) (i : ℕ) : Type 0 where
  pub done : Plays f i K (frames log₀) events₀ t log events
  pub items_are : t.items ≡ i
  pub fetched : t.fetches ≤ i
  pub evicted : t.evictions ≤ i
  pub events_long : length events ≡ length events₀

-- No item is done yet.
pub running_none : (f : List ℕ) {n K : ℕ} {log : State} {events : List ℕ} → CanPlay n K log events → Running f n K log events log events nothing 0
unfolding replay tally items_from items_of words over
running_none f can =
    record {
      done = record {
        holds = record { held = can.ready.held; frames_are = refl };
        within = can.ready.within;
        events_are = refl;
        tally_is = refl;
      };
      items_are = refl;
      fetched = omega arith;
      evicted = omega arith;
      events_long = refl;
    }

module _ {f : List ℕ} {n K : ℕ} {log₀ : State} {events₀ : List ℕ} {log : State} {events : List ℕ} {t : Tally} {i : ℕ}
    (r : Running f n K log₀ events₀ log events t i) (can : CanPlay n K log₀ events₀) where
  -- An item can be taken.
  pub running_step : i < n → AsLong log₀ log → Ready K log
  running_step h long = record { held = r.done.holds.held; some = can.ready.some; small = omega (arith, long.pages, can.ready.small); within = r.done.within }

  -- There is room for its numbers.
  pub running_put : i < n → 4 * t.fetches + 4 ≤ length events
  running_put h = omega (arith, r.fetched, r.events_long, can.room)

  pub running_fits : i < n → Fits w64 (4 * t.fetches)
  running_fits h = record { fits = omega (arith, r.fetched, can.few) }

  -- It can be counted.
  pub running_room : i < n → HasRoom t
  running_room h =
      record {
        items_fit = omega (arith, r.items_are, can.few);
        fetches_fit = omega (arith, r.fetched, can.few);
        evictions_fit = omega (arith, r.evicted, can.few);
      }

  -- One item more is done.
  pub running_more : {x : Item} {e : Option Fetch} {t' : Tally} {log' : State} {events' : List ℕ} → i < n → x ≡ item_at f i
      → Stepped (step K (frames log) x) K e log' → events' ≡ sets events (4 * t.fetches) (told e) → t' ≡ counted_of t (is_some e) (evicts e)
      → length events' ≡ length events → Running f n K log₀ events₀ log' events' t' (i + 1)
  running_more {x} {e} {t'} {log'} {events'} h y g v w z =
      let s = frames log₀ in
      let u = items_from f 0 i in
      let S = (replay K s u).final in
      let p = step K S x in
      let g' : Stepped p K e log' = rw r.done.holds.frames_are at g in
      let k : t.fetches ≡ length (replay K s u).events = rw r.done.tally_is (tally_counts K s u).fetches_are in
      let l : 4 * (length (replay K s u).events + length p.events) ≤ length events₀ =
      omega (arith, (step_flagged K S x).fetches_are, one_most (is_fetch p.events), r.fetched, can.room)
      in
      record {
        done = rw (first_more f i, ← y, replay_more K s u x, tally_more K s nothing u x, w) (turned_then r.done g' v k l);
        items_are = rw w (omega (arith, r.items_are));
        fetched = rw w (omega (arith, one_most (is_some e), r.fetched));
        evicted = rw w (omega (arith, one_most (evicts e), r.evicted));
        events_long = z ∙ r.events_long;
      }

  -- All items are done.
  pub running_all : i ≤ n → n ≤ i → Plays f n K (frames log₀) events₀ t log events
  running_all b h = let e : i ≡ n = omega arith in rw e at r.done
