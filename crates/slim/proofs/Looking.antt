-- The first pass over a stretch: what holds at each turn of its loop. Assumes nothing.
use Prim.Native.Nat.{ℕ, ◌+◌, ◌-◌, ◌*◌, ◌≤◌, ◌<◌}
use mathlib.Core.Path.{◌≡◌, sym, ◌∙◌}
use mathlib.Core.Bool.{true, false, false≢true, or-true}
use mathlib.Core.List.{List, [], ◌++◌, append-nil}
use native.Mathlib.Omega.{arith}
use lib.ListN.{length, set}
use lib.Seq.{append_snoc}
use Rattle.std.specs.Prelude.{Some, None}
use Rattle.limits.proofs.Numbers.{filter_most}
use Rattle.pages.specs.Pages.{has, add, place}
use Rattle.pages.proofs.Added.{add_old, length_new}
use Rattle.pages.proofs.Table.{has_within, has_beyond, place_most, get_or-place}
use Rattle.trace.specs.Layout.{item_at, items_from}
use Rattle.trace.specs.declared.Item.{Item}
use Rattle.trace.proofs.Items.{length_from, from_turn, from_none, from_more}
use Rattle.filter.specs.Filter.{pages_in, Holds, IsFilter, CanNote, CanAdd, found}
use Rattle.filter.proofs.Noting.{notes_long}
use Rattle.filter.proofs.Finding.{found_place, found_nowhere}
use Rattle.filter.proofs.Filling.{holds_in, holds_again}
use Rattle.epochs.specs.Epochs.{pages, touched, cut}
use Rattle.epochs.proofs.Greedy.{touched-append, has-touched, cut_goes, cut-begins}
use Rattle.slim.specs.Passes.{Noted, CanLook, Looked}
use Rattle.slim.proofs.Noted.{noted_more}

-- The first pass has passed the items from `from` up to k, and its rows are a filter of c pages: the stretch is what is passed, and what it goes on with from item k on.
pub record Looking (file : List ℕ) (n from most held : ℕ) (seen last : List ℕ) (base : ℕ) (heads next : List ℕ) (k c : ℕ) : Type 0 where
  pub can : CanLook file n from most held
  pub begins : from ≤ k
  pub ends : k ≤ n
  pub holds : c ≤ most
  pub filter : IsFilter file last c base heads next
  pub filter_is : pages_in file last c ≡ touched seen (items_from file from (k - from))
  pub stretch_is : (cut most seen (items_from file from (n - from))).here
      ≡ items_from file from (k - from) ++ (cut most (pages_in file last c) (items_from file k (n - k))).here
  pub last_noted : Noted from (items_from file from (k - from)) (pages_in file last c) last

-- No item is passed.
pub looking_none : {file last : List ℕ} {n from most held base : ℕ} {heads next : List ℕ} → CanLook file n from most held → IsFilter file last held base heads next
    → Looking file n from most held (pages_in file last held) last base heads next from held
unfolding has pages touched
looking_none {file = file} {from = from} can filter =
    let e : items_from file from (from - from) ≡ [] = from_none file (omega arith) in
    record {
      can = can;
      begins = omega arith;
      ends = can.within;
      holds = can.holds;
      filter = filter;
      filter_is = rw e;
      stretch_is = rw e;
      last_noted = rw e (λ p h. absurd (false≢true h));
    }

module _ {file : List ℕ} {n from most held : ℕ} {seen last : List ℕ} {base : ℕ} {heads next : List ℕ} {k c : ℕ}
    (r : Looking file n from most held seen last base heads next k c) where
  stop : {c' : ℕ} → c' ≡ c → (cut most (pages_in file last c) (items_from file k (n - k))).here ≡ [] → Looked file n from most seen k (pages_in file last c') last
  stop w e = rw w (record { stretch_is = r.stretch_is ∙ rw (e, append-nil); filter_is = r.filter_is; last_noted = r.last_noted })

  -- All items are passed. Here and below a number that the code tells is asked to be the one that is meant, so that it is arithmetic which refuses another.
  pub looking_all : {c' : ℕ} → c' ≡ c → n ≤ k → Looked file n from most seen n (pages_in file last c') last
  unfolding cut
  looking_all w h =
      let e : k ≡ n = omega (arith, r.ends) in
      rw e at (stop w (rw (from_none file h)))

  filled : length (pages_in file last c) ≡ c
  filled = notes_long r.filter.notes

  -- An item more is passed, whose page is added to the filter, and whose number is noted at the page's place.
  more : {last' heads' next' : List ℕ} (c' j : ℕ) → k < n → last' ≡ set last j k
      → Holds file last' c' base heads' next' (add (item_at file k).page (pages_in file last c)) → c' ≤ most → j < length last
      → j ≡ place (item_at file k).page (pages_in file last c) → Looking file n from most held seen last' base heads' next' (k + 1) c'
  unfolding touched
  more c' j h e y g l f =
      let F = pages_in file last c in
      let x = item_at file k in
      let u = items_from file from (k - from) in
      let m = from_more file r.begins in
      let t : touched seen (items_from file from (k + 1 - from)) ≡ add x.page F = rw (m, touched-append, ← r.filter_is) in
      let a : length (add x.page F) ≤ most = rw (notes_long y.notes) g in
      let among : (q : ℕ) → has q (pages u) ≡ true → has q F ≡ true = λ q b. rw (r.filter_is, has-touched, b) (or-true (has q seen)) in
      record {
        can = r.can;
        begins = omega arith;
        ends = omega arith;
        holds = g;
        filter = holds_in y;
        filter_is = y.notes.pages_are ∙ sym t;
        stretch_is = r.stretch_is ∙ rw (from_turn file h, cut_goes most F x (items_from file (k + 1) (n - (k + 1))) a, y.notes.pages_are, m) (sym (append_snoc u x _));
        last_noted = rw (y.notes.pages_are, m, e, f) (noted_more from k u x F last among (omega arith) (omega (arith, length_from file from (k - from))) r.last_noted);
      }

  module _ (h : k < n) {x : Item} (e : x ≡ item_at file k) where
    readable : 23 + 19 * (k + 1) ≤ length file
    readable = omega (arith, r.can.file_long)

    -- An item whose page is in the filter may be noted, at one of the filter's places, and is passed.
    module _ {j : ℕ} (f : Some j ≡ found x.page (pages_in file last c)) where
      here : (j ≡ place (item_at file k).page (pages_in file last c)) × (j < c)
      here =
          let (q, w) = found_place _ _ f in
          (rw e at q, omega (arith, filled))

      old : has (item_at file k).page (pages_in file last c) ≡ true
      old = has_within _ _ (omega (arith, here, filled))

      pub looking_note : CanNote file last c j k
      looking_note = record {
        within = here.1;
        readable = readable;
        few = omega (arith, r.can.few);
        page = sym (get_or-place (item_at file k).page (pages_in file last c) old) ∙ rw (← here.0);
      }

      pub looking_place : j < filter_most
      looking_place = omega (arith, here, r.holds, r.can.room)

      pub looking_old : {i : ℕ} → i ≡ k → Looking file n from most held seen (set last j i) base heads next (k + 1) c
      looking_old w =
          more c j h (rw w) (rw (w, add_old _ _ old) (holds_again r.filter k readable j here.1 looking_note.page)) r.holds (omega (arith, here.1, r.filter.notes.within)) here.0

    module _ (f : None ≡ found x.page (pages_in file last c)) where
      new : has (item_at file k).page (pages_in file last c) ≡ false
      new = rw e at (has_beyond _ _ (found_nowhere _ _ f))

      -- An item whose page is not in the filter, which has room, may be added, and is passed.
      module _ (o : c < most) where
        pub looking_add : length last ≡ filter_most → CanAdd file last c k
        looking_add l = record { room = omega (arith, r.can.room); readable = readable; few = omega (arith, r.can.few); new = new }

        pub looking_new : length last ≡ filter_most → {last' heads' next' : List ℕ} → last' ≡ set last c k
            → Holds file last' (c + 1) base heads' next' (add (item_at file k).page (pages_in file last c))
            → Looking file n from most held seen last' base heads' next' (k + 1) (c + 1)
        looking_new l a b =
            let i : c ≡ place (item_at file k).page (pages_in file last c) =
            omega (arith, filled, place_most (item_at file k).page (pages_in file last c), rw e at (found_nowhere _ _ f)) in
            more (c + 1) c h a b (omega arith) (omega (arith, r.can.room)) i

      -- An item is not passed whose page is not in the filter, which is full.
      pub looking_full : {c' : ℕ} → c' ≡ c → most ≤ c → Looked file n from most seen k (pages_in file last c') last
      looking_full w o = stop w (rw (from_turn file h, cut-begins most (pages_in file last c) (item_at file k) _ (omega (arith, filled, length_new _ _ new))))
