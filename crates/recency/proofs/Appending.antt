-- A use of a page: one that is resident, and one that comes in. Assumes nothing.
use Prim.Native.Nat.{ℕ, suc, ◌+◌, ◌-◌, ◌≤◌, ◌<◌}
use mathlib.Core.Path.{◌≡◌, refl, sym, ap, ◌∙◌}
use mathlib.Core.Bool.{Bool, true, false, ◌||◌, or-false, or-true, false≢true}
use mathlib.Core.List.{List, [], ◌∷◌, ◌++◌}
use native.Mathlib.Omega.{arith}
use native.Mathlib.Numerals.{add-one}
use lib.ListN.{length, get_or, take, drop, set, length-set, length-map}
use lib.Seq.{length-take-le, get_or-set_same, get_or-set_other, take-suc-set, drop-append-le}
use lib.Dec.{eqb, ltb}
use borrow.Author.Tests.{lt-ltb, le-ltb, ltb-true, ltb-false, eq-eqb, eqb-false}
use Rattle.pages.specs.Pages.{has, remove, Distinct}
use Rattle.pages.proofs.Choice.{split, same}
use Rattle.pages.proofs.Added.{has_join, distinct_reverse}
use Rattle.pages.proofs.Pages.{length_move, remove_absent, removed, has-remove}
use Rattle.frames.specs.Frames.{framed, pages_of, frames_by, dirty, taken}
use Rattle.frames.specs.declared.Frame.{Frame}
use Rattle.frames.proofs.By.{pages_by, by_same, dirty_by, dirty_absent, taken_by}
use Rattle.std.specs.Prelude.{Option, Some, None}
use Rattle.chains.specs.Chains.{counted, at, newest}
use Rattle.chains.proofs.Newest.{newest-at, newest_beyond}
use Rattle.recency.specs.Order.{lasts, order}
use Rattle.recency.specs.Linked.{Linked, CanLink, last_from}
use Rattle.recency.specs.declared.Mark.{Mark}
use Rattle.recency.specs.declared.Mark.TheVariants.{Clean, Stale}
use Rattle.recency.specs.Held.{part, residents, state_of, is_stale, wrote, wrote_in, frames, Marked, Held, Holds, CanShorten, CanAppend, CanMark, count_with, stale_with, written_with, CanUse, Gone}
use Rattle.recency.specs.declared.Queue.{Queue}
use Rattle.recency.specs.State.{State}
use Rattle.recency.proofs.Order.{order_use, has-order, distinct_lasts}
use Rattle.recency.proofs.Linking.{linked_store}
use Rattle.recency.proofs.Counting.{part_none}
use Rattle.recency.proofs.Places.{has_part, has_last, wrote_live, last_place_lem, last_other}
use Rattle.recency.proofs.Fresh.{state_live, state_says}

-- ---- a page that is resident

module _ {l : State} (h : Held l) where
  -- A page is resident exactly if its last place is found.
  pub has_held : (p : ℕ) {e : ℕ} → e ≡ last_from l.queue.low l.pages l.queue.now p → has p (residents l) ≡ ltb l.queue.low e
  unfolding residents last_from
  has_held p {e} k =
      has-order p (part l.pages l.queue.low l.queue.now) ∙ has_last l.pages l.queue.low l.queue.now p h.logged.behind h.logged.within
      ∙ split (ltb l.queue.low (newest (at l.pages) p l.queue.now))
      (λ t. let z : e ≡ newest (at l.pages) p l.queue.now = rw t at k in ap (ltb l.queue.low) (sym z))
      (λ t. let z : e ≡ 0 = rw t at k in t ∙ sym (rw z (le-ltb l.queue.low 0 (omega arith))))

  pub has-frames : (p : ℕ) {e : ℕ} → e ≡ last_from l.queue.low l.pages l.queue.now p → has p (pages_of (frames l)) ≡ ltb l.queue.low e
  unfolding frames
  has-frames p k = rw (pages_by (wrote_in l) (residents l)) (has_held p k)

  length_held : length (residents l) ≡ l.queue.resident
  length_held = h.logged.count

  pub length-frames : length (frames l) ≡ l.queue.resident
  unfolding frames
  length-frames = length-map (residents l) (λ (p : ℕ). framed p (wrote_in l p)) ∙ length_held

  -- The log holds the cache after an eviction too.
  pub gone_held : {q : Queue} {f : Frame} → Gone l q f → Held (record l { queue = q })
  gone_held g = record { logged = g.logged; linked = rw g.now_is h.linked; room = rw g.now_is h.room }

-- No page is resident twice.
distinct_held : (l : State) → Distinct (residents l)
unfolding residents order
distinct_held l = distinct_reverse (lasts (part l.pages l.queue.low l.queue.now)) (distinct_lasts (part l.pages l.queue.low l.queue.now))

-- A page that stays when another is taken out is resident, and another one.
stays : (l : State) (page p : ℕ) → has p (remove page (residents l)) ≡ true → (has p (part l.pages l.queue.low l.queue.now) ≡ true) × (eqb page p ≡ false)
unfolding residents
stays l page p h =
    let o = split (eqb page p)
    (λ e. absurd (false≢true (sym (removed page (residents l) (distinct_held l)) ∙ rw (← same page p e) at h)))
    (λ e. e) in
    let k = split (has p (residents l)) (λ e. e) (λ e. absurd (false≢true (sym (has-remove page p (residents l) e) ∙ h))) in
    (sym (has-order p (part l.pages l.queue.low l.queue.now)) ∙ k, o)

-- ---- a page appended

module _ {l : State} {page : ℕ} (can : CanAppend l page) where
  abbrev log : List ℕ
  log = l.pages

  abbrev stale : List Mark
  stale = l.marks

  abbrev q : Queue
  q = l.queue

  abbrev log' : List ℕ
  log' = set log q.now page

  pub append_stales : q.now < length stale
  append_stales = omega (arith, can.room, can.stale_long)

  pub append_link : CanLink log' l.next l.heads q.now
  append_link = record { linked = linked_store can.linked q.now page (omega arith); room = rw length-set can.room }

  was_long : length (take q.now log) ≡ q.now
  was_long = length-take-le q.now log (omega (arith, can.room))

  longer : take (q.now + 1) log' ≡ take q.now log ++ (page ∷ [])
  longer = rw add-one (take-suc-set log q.now page can.room)

  long_enough : q.now + 1 ≤ length log'
  long_enough = rw length-set (omega (arith, can.room))

  order_is : order (part log' q.low (q.now + 1)) ≡ page ∷ remove page (residents l)
  unfolding residents
  order_is = rw (longer, drop-append-le q.low (take q.now log) (page ∷ []) (omega (arith, was_long, can.behind))) (order_use page (part log q.low q.now))

  module _ (w : Bool) {v : Mark} (says : v ≡ state_of w) where
    abbrev stale' : List Mark
    stale' = set stale q.now v

    -- The log then, with its chains.
    abbrev after : List ℕ → List ℕ → State
    after next heads = record { pages = log'; marks = stale'; next = next; heads = heads; queue = record { resident = q.resident; low = q.low; now = q.now + 1 } }

    marked : Marked log' stale' q.low (q.now + 1)
    unfolding has
    marked = record {
      are = λ r f h. split (eqb r q.now)
          (λ t.
          let z = same r q.now t in
          rw (z, get_or-set_same stale q.now v Clean append_stales, part_none log' (q.now + 1) long_enough (q.now + 1) (omega arith), says) (state_live w))
          (λ t.
          let d = eqb-false r q.now t in
          rw (
            get_or-set_other stale q.now r v Clean d,
            get_or-set_other log q.now r page 0 d,
            longer,
            drop-append-le (r + 1) (take q.now log) (page ∷ []) (omega (arith, was_long)),
            has_join (get_or log r 0) (drop (r + 1) (take q.now log)) (page ∷ []),
            or-false (eqb (get_or log r 0) page),
          ) (can.marks r f (omega arith)));
    }

    -- The page is written as its new place says,
    wrote_new : wrote log' stale' q.low (q.now + 1) page ≡ w
    unfolding has
    wrote_new =
        let g = get_or-set_same log q.now page 0 can.room in
        let n : has (get_or log' q.now 0) (drop (q.now + 1) (take (q.now + 1) log')) ≡ false = rw (part_none log' (q.now + 1) long_enough (q.now + 1) (omega arith)) in
        let u = wrote_live log' q.low (q.now + 1) long_enough stale' q.now can.behind (omega arith) n in
        (rw g at u) ∙ rw (get_or-set_same stale q.now v Clean append_stales, says) (state_says w)

    -- and any other as it was.
    wrote_other : (p : ℕ) → has p (remove page (residents l)) ≡ true → wrote log' stale' q.low (q.now + 1) p ≡ wrote log stale q.low q.now p
    unfolding wrote
    wrote_other p h =
        let (k, o) = stays l page p h in
        let e = last_from q.low log q.now p in
        let l = last_place_lem log q.low q.now p can.behind (omega (arith, can.room)) k e refl in
        rw (last_other log q.low q.now page p can.room o, get_or-set_other stale q.now (e - 1) v Clean (λ y. omega (arith, l.0, l.1)))

    module _ (next heads : List ℕ) where
      frames_new : frames (after next heads) ≡ framed page w ∷ taken page (frames l)
      unfolding frames residents
      frames_new =
          let u = wrote log' stale' q.low (q.now + 1) in
          let y = wrote log stale q.low q.now in
          let r = remove page (residents l) in
          ap (frames_by u) order_is
          ∙ ap (λ (b : Bool). framed page b ∷ frames_by u r) wrote_new
          ∙ ap (λ (l : List Frame). framed page w ∷ l) (by_same u y r wrote_other ∙ sym (taken_by y page (residents l)))

      -- It can be made short,
      pub append_shorten : Linked log' next heads (q.now + 1) → CanShorten (after next heads)
      unfolding residents
      append_shorten i = record {
        pack = record { behind = omega (arith, can.behind); within = long_enough; stale_long = rw (length-set, length-set) can.stale_long; marked = marked };
        linked = i;
        few = rw (length-set, order_is) (omega (arith, can.count, can.few));
      }

      -- and holds the same frames then.
      pub append_short : {l' : State} → Holds (frames (after next heads)) l' → Holds (framed page w ∷ taken page (frames l)) l'
      append_short h = rw frames_new at h

      -- With room for a use more, it holds them.
      pub appended : Linked log' next heads (q.now + 1) → q.now + 1 < length log' → Holds (framed page w ∷ taken page (frames l)) (after next heads)
      unfolding residents
      appended i r = record {
        held = record {
          logged = record {
            behind = omega (arith, can.behind);
            within = long_enough;
            stale_long = rw (length-set, length-set) can.stale_long;
            marked = marked;
            count = rw order_is can.count;
          };
          linked = i;
          room = r;
        };
        frames_are = frames_new;
      }

-- ---- a page used

-- The place of a page that is found is one from low on.
pub found_low : (low : ℕ) (log : List ℕ) (n p : ℕ) {j : ℕ} → suc j ≡ last_from low log n p → low ≤ j
unfolding last_from
found_low low log n p {j} k =
    split (ltb low (newest (at log) p n))
    (λ t. let z : suc j ≡ newest (at log) p n = rw t at k in omega (arith, ltb-true low (newest (at log) p n) t))
    (λ t. let z : suc j ≡ 0 = rw t at k in absurd (omega arith))

module _ {l : State} {page : ℕ} {o : Option ℕ} (can : CanUse l page o) where
  module _ {j : ℕ} (found : o ≡ Some j) where
    last_is : suc j ≡ last_from l.queue.low l.pages l.queue.now page
    unfolding counted
    last_is = rw found at can.last_is

    from : l.queue.low ≤ j
    from = found_low l.queue.low l.pages l.queue.now page last_is

    last : newest (at l.pages) page l.queue.now ≡ suc j
    unfolding last_from
    last =
        let k = last_is in
        split (ltb l.queue.low (newest (at l.pages) page l.queue.now))
        (λ t. sym (rw t at k))
        (λ t. let z : suc j ≡ 0 = rw t at k in absurd (omega arith))

    place_of : (get_or l.pages j 0 ≡ page) × (j < l.queue.now)
    unfolding at
    place_of = newest-at (at l.pages) page l.queue.now j last

    has_it : has page (residents l) ≡ true
    has_it = has_held can.held page last_is ∙ lt-ltb l.queue.low (suc j) (omega (arith, from))

    -- What stands before the page's last place is stale already.
    found_marks : (r : ℕ) → l.queue.low ≤ r → r < l.queue.now
        → is_stale (get_or (set l.marks j Stale) r Clean) ≡ has (get_or l.pages r 0) (drop (r + 1) (take l.queue.now l.pages)) || eqb (get_or l.pages r 0) page
    unfolding at
    found_marks r f h =
        let g = can.held.logged in
        split (eqb r j)
        (λ t.
        let z = same r j t in
        let w : j < length l.marks = omega (arith, place_of.1, can.held.room, can.held.logged.stale_long) in
        rw (z, get_or-set_same l.marks j Stale Clean w, eq-eqb (get_or l.pages j 0) page place_of.0, or-true))
        (λ t.
        let d = eqb-false r j t in
        rw (get_or-set_other l.marks j r Stale Clean d, g.marked.are r f h) (split (eqb (get_or l.pages r 0) page)
        (λ y.
        let o : r < j = split (ltb r j)
        (λ u. ltb-true r j u)
        (λ u. let v = ltb-false r j u in absurd (newest_beyond (at l.pages) page l.queue.now r (omega (arith, last)) h (same (get_or l.pages r 0) page y))) in
        rw (y, or-true) (has_part l.pages (r + 1) l.queue.now (get_or l.pages r 0) (omega arith) g.within j (omega arith) place_of.1 (place_of.0 ∙ sym (same (get_or l.pages r 0) page y))))
        (λ y. rw (y, or-false))))

  module _ (miss : o ≡ None) where
    none_is : 0 ≡ last_from l.queue.low l.pages l.queue.now page
    unfolding counted
    none_is = rw miss at can.last_is

    away : has page (residents l) ≡ false
    away = has_held can.held page none_is ∙ le-ltb l.queue.low 0 (omega arith)

    other : (r : ℕ) → l.queue.low ≤ r → r < l.queue.now → eqb (get_or l.pages r 0) page ≡ false
    unfolding residents
    other r f h =
        split (eqb (get_or l.pages r 0) page)
        (λ t.
        let g = can.held.logged in
        let y = has_part l.pages l.queue.low l.queue.now page g.behind g.within r f h (same (get_or l.pages r 0) page t) in
        absurd (false≢true (sym away ∙ has-order page (part l.pages l.queue.low l.queue.now) ∙ y)))
        (λ t. t)

by_found : {C : Type 0} (o : Option ℕ) → (o ≡ None → C) → ((j : ℕ) → o ≡ Some j → C) → C
by_found None n s = n refl
by_found (Some j) n s = s j refl

module _ {l : State} {page : ℕ} {o : Option ℕ} (can : CanUse l page o) where
  -- The log once it is marked.
  abbrev marked_log : State
  marked_log = record l { marks = stale_with o l.marks; queue = record l.queue { resident = count_with o l.queue.resident } }

  -- Its last place can be marked,
  pub use_mark : CanMark l o
  unfolding counted
  use_mark = record {
    within = by_found o (λ e. rw e (omega arith)) (λ j e. rw e (omega (arith, (place_of can e).1, can.held.room, can.held.logged.stale_long)));
    small = omega (arith, can.few, can.held.linked.small);
  }

  pub use_reads : counted o ≤ length l.marks
  use_reads = use_mark.within

  -- and then it can be appended.
  use_append_lem : CanAppend marked_log page
  unfolding residents
  use_append_lem =
      let h = can.held in
      by_found o
      (λ e.
      rw e record {
        behind = h.logged.behind;
        stale_long = h.logged.stale_long;
        linked = h.linked;
        room = h.room;
        marks = λ r f k. rw (other can e r f k, or-false) (h.logged.marked.are r f k);
        count = rw (remove_absent page (residents l) (away can e)) (omega (arith, length_held h));
        few = omega (arith, can.few);
      })
      (λ j e.
      rw e record {
        behind = h.logged.behind;
        stale_long = rw length-set h.logged.stale_long;
        linked = h.linked;
        room = h.room;
        marks = found_marks can e;
        count = length_move page (residents l) (has_it can e) ∙ length_held h;
        few = omega (arith, can.few);
      })

  pub use_append : {m : State} → m ≡ marked_log → CanAppend m page
  use_append e = rw e use_append_lem

  -- ---- what it leaves

  -- The page was written if its last place says so.
  written_is : (w : Bool) → written_with o l.marks w ≡ dirty page (frames l) || w
  unfolding frames wrote
  written_is w =
      let y = wrote_in l in
      by_found o
      (λ e. rw (e, dirty_absent page (frames_by y (residents l)) (rw pages_by (away can e))))
      (λ j e.
      let k : suc j - 1 ≡ j = omega arith in
      rw (e, dirty_by y page (residents l) (has_it can e), ← last_is can e, k))

  -- The other pages are written as they were.
  others : taken page (frames marked_log) ≡ taken page (frames l)
  unfolding frames residents wrote
  others =
      let y = wrote_in l in
      let u = wrote_in marked_log in
      let r = remove page (residents l) in
      let g = can.held.logged in
      taken_by u page (residents l)
      ∙ by_same u y r
      (λ p h.
      let (k, x) = stays l page p h in
      let d = last_from l.queue.low l.pages l.queue.now p in
      let z = last_place_lem l.pages l.queue.low l.queue.now p g.behind g.within k d refl in
      by_found o
      (λ e. rw e)
      (λ j e.
      let f = (place_of can e).0 in
      rw (e, get_or-set_other l.marks j (d - 1) Stale Clean (λ i. eqb-false page p x (sym f ∙ ap (λ (n : ℕ). get_or l.pages n 0) (sym i) ∙ z.2)))))
      ∙ sym (taken_by y page (residents l))

  pub use_done : (w : Bool) {v : Bool} → v ≡ written_with o l.marks w → {m l' : State} → m ≡ marked_log → Holds (framed page v ∷ taken page (frames m)) l'
      → Holds (framed page (dirty page (frames l) || w) ∷ taken page (frames l)) l'
  use_done w b e h = rw (e, others, b, written_is w) at h

-- A page that is not found is not found in a shorter part either.
pub last_later : (low low' : ℕ) (log : List ℕ) (n p : ℕ) {e : ℕ} → e ≡ last_from low log n p → e ≤ low → low ≤ low' → e ≡ last_from low' log n p
unfolding last_from
last_later low low' log n p {e} k o h =
    split (ltb low (newest (at log) p n))
    (λ t. let z : e ≡ newest (at log) p n = rw t at k in absurd (omega (arith, ltb-true low (newest (at log) p n) t)))
    (λ t. let z : e ≡ 0 = rw t at k in z ∙ sym (rw (le-ltb low' (newest (at log) p n) (omega (arith, ltb-false low (newest (at log) p n) t)))))
