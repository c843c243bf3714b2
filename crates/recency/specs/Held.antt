-- A cache held as a log: which frames are resident, what the rows must say, and what the functions are told and leave. Assumes nothing.
use Rattle.std.specs.Prelude.{ℕ, ◌+◌, ◌-◌, ◌^◌, ◌≤◌, ◌<◌, ◌≡◌, Bool, true, false, cond, ◌||◌, length, get_or, take, drop, set, eqb, Option, Some, None}
use mathlib.Core.List.{List, ◌∷◌, drop_last, get_last?, reverse}
use Rattle.std.proofs.Math.Option.{some}
use Rattle.pages.specs.Rows.{over}
use Rattle.pages.specs.Pages.{has, remove, Distinct}
use Rattle.frames.specs.Frames.{frames_by}
use Rattle.frames.specs.declared.Frame.{Frame}
use Rattle.chains.specs.Chains.{counted}
use Rattle.recency.specs.Order.{lasts, order}
use Rattle.recency.specs.Linked.{buckets, Linked, last_from}
use Rattle.recency.specs.declared.Mark.{Mark}
use Rattle.recency.specs.declared.Mark.TheVariants.{Clean, Stale, Written}
use Rattle.recency.specs.declared.Queue.{Queue}
use Rattle.recency.specs.State.{State}

-- The places of a log from low up to end.
abbrev pub part : List ℕ → ℕ → ℕ → List ℕ
part log low end = drop low (take end log)

-- The resident pages, most recently used first.
unfoldable pub residents : State → List ℕ
residents log = order (part log.pages log.queue.low log.queue.now)

-- What the last place of a page says: whether it was written. Any other place says that it is stale.
abbrev pub state_of : Bool → Mark
state_of w = cond w Written Clean

-- A place is stale.
abbrev pub is_stale : Mark → Bool
is_stale Stale = true
is_stale Clean = false
is_stale Written = false

-- A place says that its page was written.
abbrev pub is_written : Mark → Bool
is_written Written = true
is_written Clean = false
is_written Stale = false

-- Whether a page was written.
unfoldable pub wrote : List ℕ → List Mark → ℕ → ℕ → ℕ → Bool
wrote log marks low end p = is_written (get_or marks (last_from low log end p - 1) Clean)

-- Whether a page of a log was.
abbrev pub wrote_in : State → ℕ → Bool
wrote_in log = wrote log.pages log.marks log.queue.low log.queue.now

-- The resident frames.
unfoldable pub frames : State → List Frame
frames log = frames_by (wrote_in log) (residents log)

-- A place is stale exactly if its page stands again in the log behind it.
pub record Marked (log : List ℕ) (marks : List Mark) (low end : ℕ) : Type 0 where
  pub are : (r : ℕ) → low ≤ r → r < end → is_stale (get_or marks r Clean) ≡ has (get_or log r 0) (drop (r + 1) (take end log))

-- A log's stale places are known, and how many pages are resident.
pub record Logged (log : State) : Type 0 where
  pub behind : log.queue.low ≤ log.queue.now
  pub within : log.queue.now ≤ length log.pages
  pub stale_long : length log.pages ≤ length log.marks
  pub marked : Marked log.pages log.marks log.queue.low log.queue.now
  pub count : length (residents log) ≡ log.queue.resident

-- The log holds a cache, and has room for a use more.
pub record Held (log : State) : Type 0 where
  pub logged : Logged log
  pub linked : Linked log.pages log.next log.heads log.queue.now
  pub room : log.queue.now < length log.pages

-- The log holds a cache whose frames are s.
pub record Holds (s : List Frame) (log : State) : Type 0 where
  pub held : Held log
  pub frames_are : frames log ≡ s

-- ---- the log made short

-- The stale places are known.
pub record CanPack (log : State) : Type 0 where
  pub behind : log.queue.low ≤ log.queue.now
  pub within : log.queue.now ≤ length log.pages
  pub stale_long : length log.pages ≤ length log.marks
  pub marked : Marked log.pages log.marks log.queue.low log.queue.now

-- The places that count are the first r, and say what they said.
pub record Packed (log log' : State) (r : ℕ) : Type 0 where
  pub lasts_are : take r log'.pages ≡ lasts (part log.pages log.queue.low log.queue.now)
  pub within : r ≤ length log'.pages
  pub live : (j : ℕ) → j < r → is_stale (get_or log'.marks j Clean) ≡ false
  pub said : (j : ℕ) → j < r → is_written (get_or log'.marks j Clean) ≡ wrote_in log (get_or log'.pages j 0)

-- A log can be made short, and has room then.
pub record CanShorten (log : State) : Type 0 where
  pub pack : CanPack log
  pub linked : Linked log.pages log.next log.heads log.queue.now
  pub few : length (residents log) < length log.pages

-- ---- the uses of pages

-- A page can be appended: the places are marked as they are with it behind them, it is counted among the resident pages, and a log of so many has room.
pub record CanAppend (log : State) (page : ℕ) : Type 0 where
  pub behind : log.queue.low ≤ log.queue.now
  pub stale_long : length log.pages ≤ length log.marks
  pub linked : Linked log.pages log.next log.heads log.queue.now
  pub room : log.queue.now < length log.pages
  pub marks : (r : ℕ) → log.queue.low ≤ r → r < log.queue.now
      → is_stale (get_or log.marks r Clean) ≡ has (get_or log.pages r 0) (drop (r + 1) (take log.queue.now log.pages)) || eqb (get_or log.pages r 0) page
  pub count : length (page ∷ remove page (residents log)) ≡ log.queue.resident
  pub few : log.queue.resident < length log.pages

-- The place where a page stood last can be marked, and the page counted.
pub record CanMark (log : State) (last : Option ℕ) : Type 0 where
  pub within : counted last ≤ length log.marks
  pub small : log.queue.resident + 1 < 2 ^ 64

-- How many pages are resident once a page is used that was found at a place, or not found: one more where it comes in.
abbrev pub count_with : Option ℕ → ℕ → ℕ
count_with None m = m + 1
count_with (Some j) m = m

-- The marks then: the place where it was found is stale.
abbrev pub stale_with : Option ℕ → List Mark → List Mark
stale_with None marks = marks
stale_with (Some j) marks = set marks j Stale

-- Whether it is written then: if it is written now, or was where it was found.
abbrev pub written_with : Option ℕ → List Mark → Bool → Bool
written_with None marks w = w
written_with (Some j) marks w = is_written (get_or marks j Clean) || w

-- A page can be used: its last place is known, and a log of one page more has room.
pub record CanUse (log : State) (page : ℕ) (last : Option ℕ) : Type 0 where
  pub held : Held log
  pub last_is : counted last ≡ last_from log.queue.low log.pages log.queue.now page
  pub few : log.queue.resident + 1 < length log.pages

-- There is a page to evict.
pub record CanEvict (log : State) : Type 0 where
  pub logged : Logged log
  pub some : 1 ≤ log.queue.resident

-- The last of the resident frames is f. It is gone from the places that are in use then.
pub record Gone (log : State) (queue : Queue) (f : Frame) : Type 0 where
  pub logged : Logged (record log { queue = queue })
  pub from : log.queue.low ≤ queue.low
  pub now_is : queue.now ≡ log.queue.now
  pub frames_are : frames (record log { queue = queue }) ≡ drop_last (frames log)
  pub last_is : get_last? (frames log) ≡ some f

-- ---- a start and an end

-- A list can be put in a log backwards, and its marks beside it.
pub record CanCopy (list : List ℕ) (kept : List Bool) (log : State) : Type 0 where
  pub marks : length kept ≡ length list
  pub room : length list ≤ length log.pages
  pub stale_long : length list ≤ length log.marks

-- It is: the page at place j of the list stands as far from the end of what was put in, and its mark with it.
pub record Copied (list : List ℕ) (kept : List Bool) (log log' : State) : Type 0 where
  pub pages_are : log'.pages ≡ over (reverse list) log.pages
  pub pages-at : (j : ℕ) → j < length list → get_or log'.pages (length list - 1 - j) 0 ≡ get_or list j 0
  pub marks_at : (j : ℕ) → j < length list → get_or log'.marks (length list - 1 - j) Clean ≡ state_of (get_or kept j false)

-- The frames of two columns can be the resident ones.
pub record CanLoad (list : List ℕ) (kept : List Bool) (log : State) : Type 0 where
  pub marks : length kept ≡ length list
  pub few : length list < length log.pages
  pub small : length log.pages ≤ 65535
  pub next_long : length log.pages ≤ length log.next
  pub stale_long : length log.pages ≤ length log.marks
  pub heads_long : buckets ≤ length log.heads
  pub once : Distinct list

-- The resident frames can be told in two columns.
pub record CanSave (log : State) (list : List ℕ) (kept : List Bool) : Type 0 where
  pub logged : Logged log
  pub marks : length kept ≡ length list
  pub room : log.queue.resident ≤ length list
