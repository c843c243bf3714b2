-- What an eviction and an end look at in two rows alone they look at in a log. Assumes nothing.
use Prim.Native.Nat.{ℕ}
use mathlib.Core.Path.{◌≡◌, refl}
use mathlib.Core.Bool.{Bool}
use mathlib.Core.List.{List}
use Rattle.pages.specs.Rows.{over}
use Rattle.frames.specs.Frames.{pages_of, marks_of}
use Rattle.frames.specs.declared.Frame.{Frame}
use Rattle.recency.specs.State.{State, unchained}
use Rattle.recency.specs.Held.{residents, frames, Logged, CanEvict, Gone, CanSave}
use Rattle.recency.specs.declared.Queue.{Queue}

-- A log without its chains.
abbrev pub bare : State → State
bare l = unchained l.pages l.marks l.queue

logged : {l : State} → Logged l → Logged (bare l)
unfolding residents
logged h = record { behind = h.behind; within = h.within; stale_long = h.stale_long; marked = h.marked; count = h.count }

-- There is a page to evict in it,
pub evict_rows : {l : State} → CanEvict l → CanEvict (bare l)
evict_rows h = record { logged = logged h.logged; some = h.some }

-- and what goes from it goes from the log.
pub evicted : {l : State} {q : Queue} {f : Frame} → Gone (bare l) q f → Gone l q f
unfolding frames residents
evicted g = record {
  logged = record { behind = g.logged.behind; within = g.logged.within; stale_long = g.logged.stale_long; marked = g.logged.marked; count = g.logged.count };
  from = g.from;
  now_is = g.now_is;
  frames_are = g.frames_are;
  last_is = g.last_is;
}

-- Its frames can be told,
pub save_rows : {l : State} {list : List ℕ} {kept : List Bool} → CanSave l list kept → CanSave (bare l) list kept
save_rows h = record { logged = logged h.logged; marks = h.marks; room = h.room }

-- and are the log's.
pub saved_pages : (l : State) (list : List ℕ) → over (pages_of (frames (bare l))) list ≡ over (pages_of (frames l)) list
unfolding frames residents
saved_pages l list = refl

pub saved_marks : (l : State) (kept : List Bool) → over (marks_of (frames (bare l))) kept ≡ over (marks_of (frames l)) kept
unfolding frames residents
saved_marks l kept = refl
