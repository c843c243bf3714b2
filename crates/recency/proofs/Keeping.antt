-- The rows of a log stay. Assumes nothing.
use Prim.Native.Nat.{ℕ}
use mathlib.Core.Path.{◌≡◌, refl, ◌∙◌}
use mathlib.Core.List.{List}
use lib.ListN.{length, set, length-set}
use Rattle.recency.specs.declared.Mark.{Mark}
use Rattle.recency.specs.State.{SameRows}
use Rattle.recency.specs.declared.Log.{Log}
use Rattle.recency.specs.declared.Queue.{Queue}

-- A log that is left as it was has its rows.
pub rows_none : (l : Log) → SameRows l l
rows_none l = record { pages = refl; marks = refl; next = refl; heads = refl; long = record { pages = refl; marks = refl; next = refl; heads = refl } }

-- A place of the pages and a mark are stored.
pub rows_stored : {l l' : Log} → SameRows l l' → (i x j : ℕ) (m : Mark)
    → SameRows l (record l' { pages = record l'.pages { now = set l'.pages.now i x }; marks = record l'.marks { now = set l'.marks.now j m } })
rows_stored {l} {l'} p i x j m = record {
  pages = p.pages;
  marks = p.marks;
  next = p.next;
  heads = p.heads;
  long = record {
    pages = length-set l'.pages.now i x ∙ p.long.pages;
    marks = length-set l'.marks.now j m ∙ p.long.marks;
    next = p.long.next;
    heads = p.long.heads;
  };
}

-- The places are chained anew.
pub rows_chained : {l l' : Log} → SameRows l l' → {next heads : List ℕ} {q : Queue} → length next ≡ length l'.next.now → length heads ≡ length l'.heads.now
    → SameRows l (record l' { next = record l'.next { now = next }; heads = record l'.heads { now = heads }; queue = q })
rows_chained p a b = record {
  pages = p.pages;
  marks = p.marks;
  next = p.next;
  heads = p.heads;
  long = record { pages = p.long.pages; marks = p.long.marks; next = a ∙ p.long.next; heads = b ∙ p.long.heads };
}

-- Rows that stay, and have stayed before, have stayed.
pub rows_more : {l l' l'' : Log} → SameRows l' l'' → SameRows l l' → SameRows l l''
rows_more q p = record {
  pages = q.pages ∙ p.pages;
  marks = q.marks ∙ p.marks;
  next = q.next ∙ p.next;
  heads = q.heads ∙ p.heads;
  long = record {
    pages = q.long.pages ∙ p.long.pages;
    marks = q.long.marks ∙ p.long.marks;
    next = q.long.next ∙ p.long.next;
    heads = q.long.heads ∙ p.long.heads;
  };
}
