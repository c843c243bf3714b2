-- A log as plain lists, and what of its rows stays. Assumes nothing.
use Rattle.std.specs.Prelude.{ℕ, ◌≡◌, List, [], length}
use Rattle.recency.specs.declared.Mark.{Mark}
use Rattle.recency.specs.declared.Queue.{Queue}
use Rattle.recency.specs.declared.Log.{Log}

-- What the four rows of a log hold, and which places are in use.
pub record State : Type 0 where
  pub pages : List ℕ
  pub marks : List Mark
  pub next : List ℕ
  pub heads : List ℕ
  pub queue : Queue

-- That of a log.
abbrev pub state : Log → State
state l = record { pages = l.pages.now; marks = l.marks.now; next = l.next.now; heads = l.heads.now; queue = l.queue }

-- That of two rows alone, without chains: an eviction and an end look at no others.
abbrev pub unchained : List ℕ → List Mark → Queue → State
unchained pages marks q = record { pages = pages; marks = marks; next = []; heads = []; queue = q }

-- Each row is as long as it was.
pub record AsLong (old new : State) : Type 0 where
  pub pages : length new.pages ≡ length old.pages
  pub marks : length new.marks ≡ length old.marks
  pub next : length new.next ≡ length old.next
  pub heads : length new.heads ≡ length old.heads

-- A log has the rows that it had, and each is as long as it was.
pub record SameRows (old new : Log) : Type 0 where
  pub pages : new.pages.ghost_name ≡ old.pages.ghost_name
  pub marks : new.marks.ghost_name ≡ old.marks.ghost_name
  pub next : new.next.ghost_name ≡ old.next.ghost_name
  pub heads : new.heads.ghost_name ≡ old.heads.ghost_name
  pub long : AsLong (state old) (state new)
