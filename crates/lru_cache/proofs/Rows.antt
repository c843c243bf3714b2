-- A replay from the lent columns: their frames put in the rows, the items, and the resident frames told. Assumes nothing.
use Prim.Native.Nat.{ℕ, ◌≤◌}
use mathlib.Core.Path.{◌≡◌, sym, ap, ◌∙◌}
use mathlib.Core.Bool.{Bool}
use mathlib.Core.List.{List}
use native.Mathlib.Omega.{arith}
use lib.ListN.{length, take, length-take}
use Rattle.pages.specs.Rows.{over}
use Rattle.frames.specs.Frames.{pages_of, marks_of, frames_of}
use Rattle.frames.proofs.Columns.{frames-take}
use Rattle.recency.specs.Held.{frames, Holds, CanLoad, CanSave}
use Rattle.recency.specs.State.{State, AsLong}
use Rattle.recency.proofs.Appending.{length-frames}
use Rattle.trace.specs.Layout.{items_from}
use Rattle.lru_cache.specs.Lru.{replay}
use Rattle.lru_cache.specs.Tally.{nothing, tally}
use Rattle.lru_cache.specs.Passes.{CanPlay, Plays, CanRun, Rows, Ran}
use Rattle.lru_cache.specs.declared.Tally.{Tally}

module _ {n K m : ℕ} {cache : List ℕ} {kept : List Bool} {events : List ℕ} (can : CanRun n K m cache kept events)
    {log : State} (rows : Rows log) where
  few : length (take m cache) ≤ K
  few = rw length-take (omega (arith, can.within))

  -- The frames can be put in.
  pub run_load : CanLoad (take m cache) (take m kept) log
  run_load = record {
    marks = rw (length-take, length-take, can.marks);
    few = omega (arith, few, can.most, rows.log_long);
    small = rows.small;
    next_long = rows.next_long;
    stale_long = rows.stale_long;
    heads_long = rows.heads_long;
    once = can.once;
  }

  module _ {l : State} (h : Holds (frames_of (take m cache) (take m kept)) l) (long : AsLong log l) where
    start : frames l ≡ take m (frames_of cache kept)
    start = h.frames_are ∙ frames-take m cache kept

    fits : length (take m (frames_of cache kept)) ≤ K
    fits = rw length-take (omega (arith, can.within))

    -- The items can be taken.
    pub run_play : CanPlay n K l events
    run_play = record {
      few = can.few;
      ready = record {
        held = h.held;
        some = can.some;
        small = omega (arith, can.most, rows.log_long, long.pages);
        within = omega (arith, length-frames h.held, ap length start, fits);
      };
      room = can.room;
    }

    module _ (f : List ℕ) {t : Tally} {l' : State} {events' : List ℕ} (u : Plays f n K (frames l) events t l' events') where
      -- The resident frames can be told.
      pub run_save : CanSave l' cache kept
      run_save = record { logged = u.holds.held.logged; marks = can.marks; room = omega (arith, u.within, can.places) }

      -- What they leave is the replay from the cache.
      pub run_done : {cache' : List ℕ} {kept' : List Bool} → cache' ≡ over (pages_of (frames l')) cache → kept' ≡ over (marks_of (frames l')) kept
          → Ran (replay K (take m (frames_of cache kept)) (items_from f 0 n)) (tally K (take m (frames_of cache kept)) nothing (items_from f 0 n)) cache kept events
          t l' cache' kept' events'
      run_done e k =
          let w = rw start at u in
          record {
            cache_is = e ∙ rw w.holds.frames_are;
            kept_is = k ∙ rw w.holds.frames_are;
            events_are = w.events_are;
            resident_is = sym (length-frames w.holds.held) ∙ ap length w.holds.frames_are;
            tally_is = w.tally_is;
          }

-- Rows of which the chains were used have room as before.
pub rows_kept : {log : State} → Rows log → (next heads : List ℕ) → length next ≡ length log.next → length heads ≡ length log.heads → Rows (record log { next = next; heads = heads })
rows_kept r next heads a b = record {
  log_long = r.log_long;
  small = r.small;
  next_long = omega (arith, r.next_long);
  stale_long = r.stale_long;
  heads_long = omega (arith, r.heads_long);
}
