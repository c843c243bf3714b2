-- The second pass over a stretch: what is left of it, and the loop that has kept some of it. Assumes nothing.
use Prim.Native.Nat.{ℕ, suc, ◌+◌, ◌-◌, ◌*◌, ◌≤◌, ◌<◌}
use mathlib.Core.Path.{◌≡◌, refl, sym, ap, ◌∙◌}
use mathlib.Core.Bool.{Bool, true, false, cond, or-true}
use mathlib.Core.List.{List, [], ◌∷◌, ◌++◌, append-nil, append_assoc}
use native.Mathlib.Nat.{add-zero}
use native.Mathlib.Omega.{arith}
use lib.ListN.{length, get_or, take, set, length-append, length-set}
use lib.Seq.{sets, length-take-le, take-append_seam, set-get_or, get_or-set_other}
use lib.Dec.{ltb, eqb}
use borrow.Author.Tests.{ltb-true, lt-ltb, le-ltb, eqb-false}
use Rattle.pages.specs.Rows.{cons_if}
use Rattle.pages.specs.Pages.{has, add, place}
use Rattle.pages.proofs.Choice.{split, same, eqb_self}
use Rattle.pages.proofs.Added.{add_old, has-add, length_new, length-add, add-begins}
use Rattle.trace.specs.Layout.{encode_item, encode_items, item_at, items_from}
use Rattle.trace.specs.declared.Item.{Item}
use Rattle.trace.proofs.Items.{from_turn, from_none}
use Rattle.trace.proofs.Output.{Wrote, wrote_none, wrote_one, wrote_then, wrote_long}
use Rattle.epochs.specs.Epochs.{pages, touched}
use Rattle.epochs.specs.Keep.{is_first, is_last, keeps, kept, owe, lost}
use Rattle.epochs.specs.declared.Mode.TheVariants.{Demand}
use Rattle.epochs.proofs.Kept.{first-kept, last_kept}
use Rattle.slim.specs.Passes.{last_place, Noted, NoneNoted, CanKeep, kept_there, Owes, Flags}
use Rattle.slim.proofs.Flags.{place-taken, owes_new, owes_more}
use Rattle.pages.proofs.Table.{has-taken, has_within, place_within}
use Rattle.filter.specs.Filter.{places, Notes, FirstNoted, Clear, flags_set}
use Rattle.filter.proofs.Bits.{flags_few}
use Rattle.filter.proofs.Noting.{notes_long, notes_told}
use Rattle.filter.proofs.Finding.{first-after}

-- ---- the filter after a stretch begins with the filter before it

-- What was seen before a row of items stands in front of what is new in it.
touched-begins : (seen : List ℕ) (t : List Item) → (u : List ℕ) × (touched seen t ≡ seen ++ u)
unfolding touched
touched-begins seen [] = ([], sym (append-nil seen))
touched-begins seen (i ∷ t) =
    let r = touched-begins (add i.page seen) t in
    let a = add-begins i.page seen in
    (a.0 ++ r.0, r.1 ∙ ap (λ (l : List ℕ). l ++ r.0) a.1 ∙ append_assoc seen a.0 r.0)

module _ (F seen : List ℕ) (t : List Item) (h : F ≡ touched seen t) where
  -- The filter after a stretch is as long as the one before it, or longer.
  pub filter_grows : length seen ≤ length F
  filter_grows = let r = touched-begins seen t in rw (h, r.1, length-append) (omega arith)

  -- Its first places are the filter before the stretch.
  pub filter_begins : take (length seen) F ≡ seen
  filter_begins = let r = touched-begins seen t in ap (take (length seen)) (h ∙ r.1) ∙ take-append_seam seen r.0

-- ---- what is left of a stretch

-- The items v of the stretch are left, the first of which is item k, and the filter has c pages before them.
pub record Left (F last : List ℕ) (k c : ℕ) (v : List Item) : Type 0 where
  pub before : c ≤ length F
  pub filter_is : F ≡ touched (take c F) v
  pub last_noted : Noted k v F last

-- The flags say what is owed before the items v, after which it is `all`.
pub record Owing (F flags : List ℕ) (c : ℕ) (v : List Item) (all : List ℕ) : Type 0 where
  pub now_owed : List ℕ
  pub owes : Owes (take c F) flags now_owed
  pub then_owed : lost Demand (take c F) now_owed v ≡ all

-- A turn passes the item x and leaves v: the filter then has c' pages, the items a, which are x or none, are kept, and the flags say what is owed.
record Turn (F last flags : List ℕ) (k c : ℕ) (x : Item) (v : List Item) (c' : ℕ) (a : List Item) (flags' : List ℕ) : Type 0 where
  next : Left F last (k + 1) c' v
  kept_are : kept Demand (take c F) (x ∷ v) ≡ a ++ kept Demand (take c' F) v
  owes : (owed : List ℕ) → Owes (take c F) flags owed → Owing F flags' c' v (lost Demand (take c F) owed (x ∷ v))

module _ {F last : List ℕ} {k c : ℕ} {x : Item} {v : List Item} (l : Left F last k c (x ∷ v)) where
  -- The filter after the stretch, from the item's page on.
  after : F ≡ touched (add x.page (take c F)) v
  unfolding touched
  after = l.filter_is

  -- A turn keeps what `keeps` says.
  turn : {c' : ℕ} (a : List Item) {flags flags' : List ℕ} → length (add x.page (take c F)) ≡ c'
      → ((u : List Item) → cons_if (keeps Demand (take c F) x v) x u ≡ a ++ u)
      → ((owed : List ℕ) → Owes (take c F) flags owed → Owes (add x.page (take c F)) flags' (owe (keeps Demand (take c F) x v) x owed))
      → Turn F last flags k c x v c' a flags'
  unfolding has pages last_place kept lost
  turn {c'} a e f g =
      let s = add x.page (take c F) in
      let q : s ≡ take c' F = sym (rw e at (filter_begins F s v after)) in
      record {
        next = record {
          before = omega (arith, filter_grows F s v after);
          filter_is = after ∙ ap (λ (t : List ℕ). touched t v) q;
          last_noted = λ p h. l.last_noted p (rw (h, or-true)) ∙ rw h (omega arith);
        };
        kept_are = f (kept Demand s v) ∙ ap (λ (t : List ℕ). a ++ kept Demand t v) q;
        owes = λ owed o. record {
          now_owed = owe (keeps Demand (take c F) x v) x owed;
          owes = rw q at (g owed o);
          then_owed = ap (λ (t : List ℕ). lost Demand t (owe (keeps Demand (take c F) x v) x owed) v) (sym q);
        };
      }

  -- Its page is in the filter after the stretch, where no page before it is new.
  near : (place x.page F ≤ c) × (has x.page F ≡ true)
  near =
      let p = x.page in
      let s = add p (take c F) in
      let g = filter_grows F s v after in
      let a : has p s ≡ true = rw (has-add p (take c F) p, eqb_self p) (or-true (has p (take c F))) in
      let b : place p F < length s = ltb-true (place p F) (length s) (sym (has-taken p (length s) F g) ∙ rw (filter_begins F s v after) a) in
      (omega (arith, length-add p (take c F), length-take-le c F l.before), has_within p F (omega arith))

  module _ {j : ℕ} (q : j ≡ place x.page F) where
    -- Where the number of the last item of its page is noted stands x's, unless the page comes again.
    noted : get_or last j 0 ≡ k + cond (has x.page (pages v)) (suc (last_place x.page v)) 0
    unfolding has pages last_place
    noted = rw q (l.last_noted x.page (rw eqb_self))

    -- Its page is in the filter if its place is one of the first c.
    known : has x.page (take c F) ≡ ltb j c
    known = rw q (has-taken x.page c F l.before)

    module _ (h : j < c) where
      old : has x.page (take c F) ≡ true
      old = known ∙ lt-ltb j c h

      stays : length (add x.page (take c F)) ≡ c
      stays = rw (add_old x.page (take c F) old) (length-take-le c F l.before)

      -- An item whose page is in the filter is kept if it is the last of its page.
      turn_last : {flags : List ℕ} → get_or last j 0 ≡ k → Turn F last flags k c x v c (x ∷ []) flags
      turn_last e =
          let n : has x.page (pages v) ≡ false = split (has x.page (pages v)) (λ a. absurd (omega (arith, rw a at noted))) (λ a. a) in
          let kk = last_kept Demand (take c F) x v n in
          turn (x ∷ []) stays (λ u. rw kk) (λ owed o. rw (kk, add_old x.page (take c F) old) o)

      -- Else it is not.
      skipped : (get_or last j 0 ≡ k → ⊥) → keeps Demand (take c F) x v ≡ false
      unfolding is_first is_last keeps
      skipped e =
          let a : has x.page (pages v) ≡ true = split (has x.page (pages v)) (λ a. a) (λ n. absurd (e (rw n at noted ∙ add-zero k))) in
          rw (old, a)

      turn_skip : {flags : List ℕ} → (get_or last j 0 ≡ k → ⊥) → x.written ≡ false → Turn F last flags k c x v c [] flags
      turn_skip e r =
          let kk = skipped e in
          turn [] stays (λ u. rw kk) (λ owed o. rw (kk, r, add_old x.page (take c F) old) o)

      -- If it was a write, its page is owed one.
      turn_drop : {flags : List ℕ} → (get_or last j 0 ≡ k → ⊥) → x.written ≡ true → j < length flags → Turn F last flags k c x v c [] (set flags j 1)
      turn_drop e r g =
          let kk = skipped e in
          turn [] stays (λ u. rw kk)
          (λ owed o. rw (kk, r, add_old x.page (take c F) old) (owes_more o x.page old (q ∙ sym (place-taken x.page c F old)) g))

    -- An item whose page is not in the filter is kept.
    turn_new : {flags : List ℕ} → c ≤ j → c < length flags → Turn F last flags k c x v (c + 1) (x ∷ []) (set flags c 0)
    turn_new h g =
        let n : has x.page (take c F) ≡ false = known ∙ le-ltb j c h in
        let kk = first-kept Demand (take c F) x v n in
        turn (x ∷ []) (omega (arith, length_new x.page (take c F) n, length-take-le c F l.before)) (λ u. rw kk)
        (λ owed o. rw kk (owes_new o x.page n (length-take-le c F l.before) g))

-- ---- items that are known not to be noted

-- Up to an item that lies ahead none is noted: it is the first that may be.
pub still_none : {items : List ℕ} {k skip : ℕ} → NoneNoted items k skip → k < skip → FirstNoted items k skip
still_none n o = record { from = omega arith; none = n.none; here = λ e. absurd (omega arith) }

-- ---- the loop: up to item k the stretch is passed, and m items are in the output

-- What is kept so far is written behind what was done, and with what is kept of the rest it is all.
pub record Keeping (file : List ℕ) (from end had done : ℕ) (filter last : List ℕ) (held : ℕ) (flags₀ out₀ : List ℕ)
    (k c m skip : ℕ) (flags out : List ℕ) : Type 0 where
  pub within : k ≤ end
  pub left : Left filter last k c (items_from file k (end - k))
  pub so_far : List Item
  pub wrote : Wrote done so_far out₀ out
  pub all : so_far ++ kept Demand (take c filter) (items_from file k (end - k)) ≡ kept_there file from end had filter
  pub count : m ≡ done + length so_far
  pub few : m + from ≤ done + k
  pub room : 23 + 19 * (done + (end - from)) ≤ length out
  pub out_long : length out ≡ length out₀
  pub flags_long : length filter ≤ length flags
  pub flags_same : length flags ≡ length flags₀
  pub owing : (owed : List ℕ) → Owes (take had filter) flags₀ owed
      → Owing filter flags c (items_from file k (end - k)) (lost Demand (take had filter) owed (items_from file from (end - from)))
  pub clear : Clear c flags
  pub skipped : NoneNoted (take held last) k skip

-- Nothing is kept yet.
pub keeping_none : {file : List ℕ} {from end had done : ℕ} {filter last : List ℕ} (held : ℕ) {flags out : List ℕ}
    → CanKeep file from end had done filter last flags out → length filter ≤ length flags → Keeping file from end had done filter last held flags out from had done from flags out
keeping_none {done = done} held {out = out} p l = record {
  within = p.within;
  left = record { before = p.before; filter_is = p.filter_is; last_noted = p.last_noted };
  so_far = [];
  wrote = wrote_none done out;
  all = refl;
  count = omega arith;
  few = omega arith;
  room = p.room;
  out_long = refl;
  flags_long = l;
  flags_same = refl;
  owing = λ owed o. record { now_owed = owed; owes = o; then_owed = refl };
  clear = p.clear;
  skipped = record { none = λ i a b. absurd (omega arith) };
}

module _ {file : List ℕ} {from end had done : ℕ} {filter last : List ℕ} {held : ℕ} {flags₀ out₀ : List ℕ} {k c m skip : ℕ} {flags out : List ℕ}
    (r : Keeping file from end had done filter last held flags₀ out₀ k c m skip flags out) where
  -- No more pages are owed a write than are held.
  pub keeping_owing : Notes file last held filter → flags_set places flags ≤ held
  keeping_owing f = omega (arith, notes_long f, r.left.before, flags_few places c flags r.clear)

  module _ (h : k < end) {x : Item} (e : x ≡ item_at file k) where
    -- What is left is the item that was read, and what is left after it.
    rest : items_from file k (end - k) ≡ x ∷ items_from file (k + 1) (end - (k + 1))
    rest = rw e (from_turn file h)

    here : Left filter last k c (x ∷ items_from file (k + 1) (end - (k + 1)))
    here = rw rest at r.left

    -- A turn is done that keeps the items a.
    passed : {c' m' skip' : ℕ} {a : List Item} {flags' out' : List ℕ} → Turn filter last flags k c x (items_from file (k + 1) (end - (k + 1))) c' a flags'
        → Wrote m a out out' → m' ≡ m + length a → length a ≤ 1 → length flags' ≡ length flags → Clear c' flags'
        → NoneNoted (take held last) (k + 1) skip'
        → Keeping file from end had done filter last held flags₀ out₀ (k + 1) c' m' skip' flags' out'
    passed {a = a} t w e s f v u = record {
      within = omega arith;
      left = t.next;
      so_far = r.so_far ++ a;
      wrote = wrote_then r.wrote r.count w;
      all = rw (append_assoc, ← t.kept_are, ← rest) r.all;
      count = omega (arith, length-append r.so_far a);
      few = omega arith;
      room = rw (wrote_long w) r.room;
      out_long = wrote_long w ∙ r.out_long;
      flags_long = rw f r.flags_long;
      flags_same = f ∙ r.flags_same;
      owing = λ owed o.
          let b = r.owing owed o in
          let z = t.owes b.now_owed b.owes in
          record { now_owed = z.now_owed; owes = z.owes; then_owed = z.then_owed ∙ (rw rest at b.then_owed) };
      clear = v;
      skipped = u;
    }

    -- The item's page is in the filter.
    pub keeping_has : has x.page filter ≡ true
    keeping_has = (near here).1

    module _ {b : Bool} (q : b ≡ eqb (place x.page filter) c) where
      -- A new page has a place, and so a flag.
      pub keeping_flag : b ≡ true → c < length flags
      keeping_flag t = omega (arith, same _ c (sym q ∙ t), place_within x.page filter keeping_has, r.flags_long)

      -- The item is the first of its page, and is written. Its page's flag is not set.
      pub keeping_new : b ≡ true → {out' : List ℕ} → out' ≡ sets out (23 + 19 * m) (encode_item x)
          → Keeping file from end had done filter last held flags₀ out₀ (k + 1) (c + 1) (m + 1) skip flags out'
      keeping_new t {out'} w =
          let l = keeping_flag t in
          let z : set flags c 0 ≡ flags = rw (r.clear c (omega arith)) at (set-get_or flags c 0) in
          let p : Keeping file from end had done filter last held flags₀ out₀ (k + 1) (c + 1) (m + 1) skip (set flags c 0) out' =
          passed (turn_new here refl (omega (arith, same _ c (sym q ∙ t))) l) (wrote_one w) (omega arith) (omega arith) (length-set flags c 0)
          (λ i o. rw z (r.clear i (omega arith))) (record { none = λ i a b. r.skipped.none i (omega arith) b }) in
          rw z at p

      module _ (t : b ≡ false) (f : Notes file last held filter) {skip' : ℕ} (g : FirstNoted (take held last) k skip') where
        before : place x.page filter < c
        before =
            let w = (near here).0 in
            let z = eqb-false (place x.page filter) c (sym q ∙ t) in
            omega arith

        -- What is noted at the page's place tells whether it is the last.
        told : eqb (get_or last (place x.page filter) 0) k ≡ has k (take held last)
        told =
            let w : place x.page filter < held = omega (arith, before, here.before, notes_long f) in
            rw e (notes_told f k (rw e at w))

        onward : NoneNoted (take held last) (k + 1) skip'
        onward = record { none = λ i a b. g.none i (omega arith) b }

        -- The item is the last of its page, and is written.
        pub keeping_last : skip' ≡ k → {out' : List ℕ} → out' ≡ sets out (23 + 19 * m) (encode_item x)
            → Keeping file from end had done filter last held flags₀ out₀ (k + 1) c (m + 1) skip' flags out'
        keeping_last d w = passed (turn_last here refl before (same _ k (told ∙ g.here d))) (wrote_one w) (omega arith) (omega arith) refl r.clear onward

        module _ (d : skip' ≡ k → ⊥) where
          other : get_or last (place x.page filter) 0 ≡ k → ⊥
          other = eqb-false _ k (told ∙ g.none k (omega arith) (first-after g d))

          -- It is neither the first nor the last: a read,
          pub keeping_skip : x.written ≡ false → Keeping file from end had done filter last held flags₀ out₀ (k + 1) c m skip' flags out
          keeping_skip z = passed (turn_skip here refl before other z) (wrote_none m out) (omega arith) (omega arith) refl r.clear onward

          -- or a write, which its page is owed.
          pub keeping_drop : x.written ≡ true → {flags' : List ℕ} → flags' ≡ set flags (place x.page filter) 1
              → Keeping file from end had done filter last held flags₀ out₀ (k + 1) c m skip' flags' out
          keeping_drop z v =
              let l : place x.page filter < length flags = omega (arith, before, here.before, r.flags_long) in
              let clear : Clear c (set flags (place x.page filter) 1) =
              λ i o. get_or-set_other flags (place x.page filter) i 1 0 (λ y. omega (arith, before)) ∙ r.clear i o in
              rw v (passed (turn_drop here refl before other z l) (wrote_none m out) (omega arith) (omega arith) (length-set flags (place x.page filter) 1) clear onward)

  module _ (h : end ≤ k) where
    -- What is kept so far is all.
    whole : r.so_far ≡ kept_there file from end had filter
    unfolding kept
    whole = sym (append-nil r.so_far) ∙ rw (from_none file h) at r.all

    -- As many items are written as are kept.
    pub keeping_count : m ≡ done + length (kept_there file from end had filter)
    keeping_count = r.count ∙ ap (λ (t : List Item). done + length t) whole

    -- They stand behind what was done.
    pub keeping_bytes : out ≡ sets out₀ (23 + 19 * done) (encode_items (kept_there file from end had filter))
    keeping_bytes = rw whole at r.wrote.bytes_are

    passed_all : filter ≡ take c filter
    unfolding touched
    passed_all = rw (from_none file h) at r.left.filter_is

    -- The filter is passed, and the flags say what is owed.
    pub keeping_flags : Flags file from end had filter flags₀ flags
    unfolding lost touched
    keeping_flags = record {
      clear = λ i o. r.clear i (omega (arith, r.left.before));
      owes = λ owed o.
          let b = r.owing owed o in
          let f = passed_all in
          let a : b.now_owed ≡ lost Demand (take had filter) owed (items_from file from (end - from)) = rw (from_none file h) at b.then_owed in
          let g : Owes filter flags b.now_owed = rw (← f) at b.owes in
          rw (← a) g;
    }
