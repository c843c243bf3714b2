-- A log of distinct pages, chained anew: one that was made short, or that a start was put in. Assumes nothing.
use Prim.Native.Nat.{ℕ, zero, suc, ◌+◌, ◌-◌, ◌≤◌, ◌<◌}
use mathlib.Core.Path.{◌≡◌, refl, sym, ap, ◌∙◌}
use mathlib.Core.Bool.{Bool, true, false}
use mathlib.Core.List.{List, [], ◌∷◌, reverse, reverse-reverse}
use native.Mathlib.Omega.{arith}
use native.Mathlib.Numerals.{add-one}
use lib.ListN.{length, get_or, take, drop, length-reverse}
use lib.Seq.{length-take-le, get_or-take}
use Rattle.pages.specs.Pages.{has, place, Distinct}
use Rattle.pages.proofs.Added.{has-reverse, distinct_reverse}
use Rattle.pages.proofs.Table.{get_or-place, place_within, place_alone}
use Rattle.pages.proofs.Rows.{take_over}
use Rattle.frames.specs.Frames.{frames_by, frames_of}
use Rattle.frames.proofs.By.{by_same, by_columns}
use Rattle.recency.specs.Order.{order}
use Rattle.recency.specs.Linked.{Linked, CanIndex}
use Rattle.recency.specs.declared.Mark.TheVariants.{Clean}
use Rattle.recency.specs.Held.{part, residents, state_of, is_stale, is_written, wrote, wrote_in, frames, Held, Holds, Packed, CanShorten, CanCopy, Copied, CanLoad}
use Rattle.recency.specs.declared.Queue.{Queue}
use Rattle.recency.specs.State.{State, AsLong}
use Rattle.recency.proofs.Order.{order_distinct, distinct_lasts, length-order}
use Rattle.recency.proofs.Places.{wrote_live}

-- Of distinct pages none stands again behind its place.
distinct_behind : (l : List ℕ) → Distinct l → (r : ℕ) → r < length l → has (get_or l r 0) (drop (suc r) l) ≡ false
distinct_behind [] d r h = absurd (omega arith)
distinct_behind (x ∷ l) d zero h = d.0
distinct_behind (x ∷ l) d (suc r) h = distinct_behind l d.1 r (omega arith)

-- The log whose first n places are all there is.
abbrev pub whole : ℕ → Queue
whole n = record { resident = n; low = 0; now = n }

-- A log of which that is so, with its chains.
abbrev pub fresh : State → List ℕ → List ℕ → ℕ → State
fresh l next heads n = record l { next = next; heads = heads; queue = whole n }

module _ (l : State) {next heads : List ℕ} {n : ℕ} (linked : Linked l.pages next heads n) (once : Distinct (take n l.pages)) (room : n < length l.pages) (long : length l.pages ≤ length l.marks) where
  abbrev log : List ℕ
  log = l.pages

  first : length (take n log) ≡ n
  first = length-take-le n log (omega arith)

  again : (r : ℕ) → r < n → has (get_or log r 0) (drop (r + 1) (take n log)) ≡ false
  again r h = rw (← get_or-take n log r 0 h, add-one) (distinct_behind (take n log) once r (omega (arith, first)))

  module _ (live : (j : ℕ) → j < n → is_stale (get_or l.marks j Clean) ≡ false) where
    fresh_held : Held (fresh l next heads n)
    unfolding residents
    fresh_held = record {
      logged = record {
        behind = omega arith;
        within = omega arith;
        stale_long = long;
        marked = record { are = λ r f h. live r h ∙ sym (again r h) };
        count = rw (order_distinct (take n log) once, length-reverse) first;
      };
      linked = linked;
      room = room;
    }

    -- It holds its pages, each written as its place says.
    pub fresh_holds : (w : ℕ → Bool) → ((j : ℕ) → j < n → is_written (get_or l.marks j Clean) ≡ w (get_or log j 0))
        → Holds (frames_by w (reverse (take n log))) (fresh l next heads n)
    unfolding frames residents
    fresh_holds w says =
        let f = take n log in
        record {
          held = fresh_held;
          frames_are =
              ap (frames_by (wrote log l.marks 0 n)) (order_distinct f once)
              ∙ by_same (wrote log l.marks 0 n) w (reverse f)
              (λ p g.
              let k : has p f ≡ true = sym (has-reverse p f) ∙ g in
              let j = place p f in
              let o : j < n = omega (arith, place_within p f k, first) in
              let z : get_or log j 0 ≡ p = sym (get_or-take n log j 0 o) ∙ get_or-place p f k in
              let u = wrote_live log 0 n (omega arith) l.marks j (omega arith) o (again j o) ∙ says j o in
              rw z at u);
        }

-- ---- a log made short

-- It holds the frames that it held.
module _ {l l' : State} {n : ℕ} (can : CanShorten l) (p : Packed l l' n) (long : AsLong l l') where
  count : n ≡ length (residents l)
  unfolding residents
  count = sym (length-take-le n l'.pages p.within) ∙ ap length p.lasts_are ∙ sym (length-order (part l.pages l.queue.low l.queue.now))

  pub shorten_index : CanIndex l'.pages l'.next l'.heads n
  shorten_index = record {
    within = p.within;
    small = omega (arith, long.pages, can.linked.small);
    next_long = omega (arith, long.pages, long.next, can.linked.next_long);
    heads_long = omega (arith, long.heads, can.linked.heads_long);
  }

  pub shortened : {next heads : List ℕ} → Linked l'.pages next heads n → Holds (frames l) (fresh l' next heads n)
  unfolding frames residents order
  shortened linked =
      let t = p.lasts_are in
      let d : Distinct (take n l'.pages) = rw t (distinct_lasts (part l.pages l.queue.low l.queue.now)) in
      rw t at (fresh_holds l' linked d (omega (arith, count, can.few, long.pages)) (omega (arith, long.pages, long.marks, can.pack.stale_long)) p.live (wrote_in l) p.said)

-- ---- a start

pub state_live : (w : Bool) → is_stale (state_of w) ≡ false
state_live true = refl
state_live false = refl

pub state_says : (w : Bool) → is_written (state_of w) ≡ w
state_says true = refl
state_says false = refl

module _ {list : List ℕ} {kept : List Bool} {l : State} (can : CanLoad list kept l) where
  pub load_copy : CanCopy list kept l
  load_copy = record { marks = can.marks; room = omega (arith, can.few); stale_long = omega (arith, can.few, can.stale_long) }

  module _ {l' : State} (c : Copied list kept l l') (long : AsLong l l') where
    back : length (reverse list) ≡ length list
    back = length-reverse list

    pub load_index : CanIndex l'.pages l'.next l'.heads (length list)
    load_index = record {
      within = omega (arith, long.pages, can.few);
      small = omega (arith, long.pages, can.small);
      next_long = omega (arith, long.pages, long.next, can.next_long);
      heads_long = omega (arith, long.heads, can.heads_long);
    }

    -- Place j from the front is as far from the end as its page is in the list.
    abbrev mark_of : ℕ → Bool
    mark_of p = get_or kept (place p list) false

    at_place : (j : ℕ) → j < length list → get_or l'.marks j Clean ≡ state_of (mark_of (get_or l'.pages j 0))
    at_place j o =
        let k = length list - 1 - j in
        let z : length list - 1 - k ≡ j = omega arith in
        let a : get_or l'.pages j 0 ≡ get_or list k 0 = rw z at (c.pages-at k (omega arith)) in
        let b : get_or l'.marks j Clean ≡ state_of (get_or kept k false) = rw z at (c.marks_at k (omega arith)) in
        b ∙ ap (λ (i : ℕ). state_of (get_or kept i false)) (place_alone (get_or l'.pages j 0) list k can.once (omega arith) (sym a))

    pub loaded : {next heads : List ℕ} → Linked l'.pages next heads (length list) → Holds (frames_of list kept) (fresh l' next heads (length list))
    loaded i =
        let t : take (length list) l'.pages ≡ reverse list = rw (c.pages_are, ← back) (take_over (reverse list) l.pages) in
        let d : Distinct (take (length list) l'.pages) = rw t (distinct_reverse list can.once) in
        let h = fresh_holds l' i d (omega (arith, long.pages, can.few)) (omega (arith, long.pages, long.marks, can.stale_long))
        (λ j o. rw (at_place j o) (state_live (mark_of (get_or l'.pages j 0)))) mark_of (λ j o. rw (at_place j o) (state_says (mark_of (get_or l'.pages j 0)))) in
        let g = by_columns mark_of list kept can.marks (λ j o. ap (λ (k : ℕ). get_or kept k false) (sym (place_alone (get_or list j 0) list j can.once o refl))) in
        rw (t, reverse-reverse list, g) at h
