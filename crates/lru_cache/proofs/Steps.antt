-- What one item does, in the code's terms: a page that is found, one that comes in, or one that comes in the last one's place. Assumes nothing.
use Prim.Native.Nat.{ℕ, suc, ◌+◌, ◌<◌, ◌≤◌}
use mathlib.Core.Path.{◌≡◌, refl, sym, ap, subst, ◌∙◌}
use mathlib.Core.Bool.{Bool, true, false, ◌||◌, false≢true}
use mathlib.Core.List.{List, [], ◌∷◌, drop_last, get_last?}
use mathlib.Core.Option.{none}
use native.Mathlib.Omega.{arith}
use lib.ListN.{length}
use lib.Dec.{ltb}
use borrow.Author.Tests.{le-ltb, lt-ltb, ltb-true, ltb-false}
use Rattle.pages.specs.Pages.{has}
use Rattle.pages.proofs.Choice.{split}
use Rattle.pages.proofs.Pages.{has_init}
use Rattle.frames.specs.Frames.{framed, pages_of, dirty, taken}
use Rattle.frames.specs.declared.Frame.{Frame}
use Rattle.frames.proofs.Columns.{pages_init}
use Rattle.frames.proofs.By.{dirty_absent, taken_absent}
use Rattle.std.specs.Prelude.{Option, Some, None, is_some}
use Rattle.chains.specs.Chains.{counted}
use Rattle.recency.specs.Linked.{last_from}
use Rattle.recency.specs.Held.{frames, Holds, CanUse}
use Rattle.recency.specs.State.{State}
use Rattle.recency.proofs.Appending.{has-frames, length-frames, gone_held, found_low, last_later}
use Rattle.trace.specs.declared.Item.{Item}
use Rattle.lru_cache.specs.Lru.{step, hit, fetch, fetched, words, word, cost}
use Rattle.lru_cache.specs.Tally.{is_fetch, is_eviction}
use Rattle.lru_cache.specs.Passes.{Went, Made, Ready, Stepped}
use Rattle.lru_cache.specs.declared.Fetch.{Fetch}
use Rattle.lru_cache.proofs.Room.{taken-count}

-- ---- the three cases

module _ (K : ℕ) (x : Item) (s : List Frame) where
  step-hit : has x.page (pages_of s) ≡ true → step K s x ≡ record { events = []; final = framed x.page (dirty x.page s || x.written) ∷ taken x.page s }
  unfolding step hit
  step-hit h = rw h

  module _ (h : has x.page (pages_of s) ≡ false) where
    step_room : length s < K → step K s x ≡ record { events = fetched x none; final = framed x.page x.written ∷ s }
    unfolding step fetch
    step_room r = rw (h, lt-ltb (length s) K r)

    step_full : K ≤ length s → step K s x ≡ record { events = fetched x (get_last? s); final = framed x.page x.written ∷ drop_last s }
    unfolding step fetch
    step_full f = rw (h, le-ltb (length s) K f)

-- How many pages the log holds.
holds_count : {s : List Frame} {l : State} → Holds s l → length s ≡ l.queue.resident
holds_count h = ap length (sym h.frames_are) ∙ length-frames h.held

-- All but the last of a list that has one.
init_count : (s : List Frame) → 1 ≤ length s → length (drop_last s) + 1 ≡ length s
init_count [] h = absurd (omega arith)
init_count (f ∷ []) h = refl
init_count (f ∷ g ∷ s) h = omega (arith, init_count (g ∷ s) (omega arith))

-- A page that comes in is written if the item is a write.
came_in : (p : ℕ) (w : Bool) (s : List Frame) → has p (pages_of s) ≡ false → framed p (dirty p s || w) ∷ taken p s ≡ framed p w ∷ s
came_in p w s h = rw (dirty_absent p s h, taken_absent p s h)

-- ---- where the page is

by_found : {C : Type 0} (o : Option ℕ) → (o ≡ None → C) → ((j : ℕ) → o ≡ Some j → C) → C
by_found None n s = n refl
by_found (Some j) n s = s j refl

-- ---- each case in the log, from what the code knows there

module _ {K : ℕ} {l : State} (ready : Ready K l) (x : Item) {o : Option ℕ} (k : counted o ≡ last_from l.queue.low l.pages l.queue.now x.page) {l' : State} {g : Option Frame} (made : Made K o l l' g) where
  abbrev now : List Frame
  now = frames l

  count : length now ≡ l.queue.resident
  count = length-frames ready.held

  as_was : l' ≡ l → CanUse l' x.page o
  as_was z = rw z (record { held = ready.held; last_is = k; few = omega (arith, ready.small, ready.within) })

  none_is : o ≡ None → 0 ≡ last_from l.queue.low l.pages l.queue.now x.page
  unfolding counted
  none_is e = rw e at k

  away : o ≡ None → has x.page (pages_of now) ≡ false
  away e = has-frames ready.held x.page (none_is e) ∙ le-ltb l.queue.low 0 (omega arith)

  here : {j : ℕ} → o ≡ Some j → has x.page (pages_of now) ≡ true
  unfolding counted
  here {j} e =
      let z : suc j ≡ last_from l.queue.low l.pages l.queue.now x.page = rw e at k in
      has-frames ready.held x.page z ∙ lt-ltb l.queue.low (suc j) (omega (arith, found_low l.queue.low l.pages l.queue.now x.page z))

  module _ (w : Went l l' g) (h : K ≤ l.queue.resident) where
    -- The log without the last one.
    abbrev without : State
    without = record l { queue = l'.queue }

    left : length (frames without) + 1 ≡ l.queue.resident
    left = rw w.left.frames_are (init_count now (omega (arith, count, ready.some)) ∙ count)

    use_without : o ≡ None → CanUse without x.page o
    unfolding counted
    use_without e =
        let held = gone_held ready.held w.left in
        record {
          held = held;
          last_is = rw (e, w.left.now_is) (last_later l.queue.low l'.queue.low l.pages l.queue.now x.page (none_is e) (omega arith) w.left.from);
          few = omega (arith, length-frames held, left, ready.within, ready.small);
        }

  -- The page can be used where room was made.
  pub step_use : CanUse l' x.page o
  step_use =
      by_found o
      (λ e. split (ltb l.queue.resident K)
      (λ r. as_was (made.room (ltb-true l.queue.resident K r)).same)
      (λ r.
      let h = ltb-false l.queue.resident K r in
      let w = made.full e h in
      subst (λ (m : State). CanUse m x.page o) (sym w.rest) (use_without w h e)))
      (λ j e. as_was (made.found j e).same)

  module _ {l'' : State} (u : Holds (framed x.page (dirty x.page (frames l') || x.written) ∷ taken x.page (frames l')) l'') where
    -- It was found.
    pub stepped_hit : is_some o ≡ true → Stepped (step K now x) K None l''
    unfolding words is_fetch is_eviction
    stepped_hit s =
        by_found o
        (λ e. absurd (false≢true (rw e at s)))
        (λ j e.
        let t = here e in
        let w = rw (made.found j e).same at u in
        rw (step-hit K x now t)
        (record {
          holds = w;
          within = omega (arith, holds_count w, taken-count x.page now t, count, ready.within);
          told_is = refl;
          fetched_is = refl;
          evicted_is = refl;
        }))

    -- It came in.
    module _ (i : is_some o ≡ false) where
      e : o ≡ None
      e = by_found o (λ n. n) (λ j n. absurd (false≢true (sym i ∙ rw n)))

      abbrev came : Option Frame → Option Fetch
      came gone = Some (record { time = x.time; page = x.page; gone = gone })

      came_room : l.queue.resident < K → Stepped (step K now x) K (came None) l''
      unfolding words word cost is_fetch is_eviction
      came_room h =
          let r = made.room h in
          let z = rw r.same at u in
          let w = rw (came_in x.page x.written now (away e)) at z in
          rw (step_room K x now (away e) (omega (arith, count)))
          (record { holds = w; within = omega (arith, holds_count w, count); told_is = refl; fetched_is = refl; evicted_is = refl })

      came_full : (h : K ≤ l.queue.resident) → Stepped (step K now x) K (came (Some (made.full e h).frame)) l''
      unfolding words word cost is_fetch is_eviction
      came_full h =
          let m = made.full e h in
          let n : has x.page (pages_of (drop_last now)) ≡ false = rw (pages_init now) (has_init x.page (pages_of now) (away e)) in
          let k : frames l' ≡ drop_last now = ap frames m.rest ∙ m.left.frames_are in
          let z = rw k at u in
          let w = rw (came_in x.page x.written (drop_last now) n) at z in
          rw (step_full K x now (away e) (omega (arith, count)), m.left.last_is)
          (record {
            holds = w;
            within = omega (arith, holds_count w, rw m.left.frames_are at (left m h), ready.within);
            told_is = refl;
            fetched_is = refl;
            evicted_is = refl;
          })

      pub stepped_fetch : Stepped (step K now x) K (came g) l''
      stepped_fetch =
          split (ltb l.queue.resident K)
          (λ b.
          let h = ltb-true l.queue.resident K b in
          subst (λ (y : Option Frame). Stepped (step K now x) K (came y) l'') (sym (made.room h).gone_is) (came_room h))
          (λ b.
          let h = ltb-false l.queue.resident K b in
          subst (λ (y : Option Frame). Stepped (step K now x) K (came y) l'') (sym (made.full e h).gone_is) (came_full h))
