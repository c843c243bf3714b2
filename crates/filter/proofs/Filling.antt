-- A filter with a page more, with an item noted anew, and with no page. Assumes nothing.
use Prim.Native.Nat.{ℕ, ◌+◌, ◌*◌, ◌≤◌, ◌<◌}
use mathlib.Core.Path.{◌≡◌, refl}
use mathlib.Core.Bool.{false}
use mathlib.Core.List.{List, [], ◌∷◌}
use native.Mathlib.Numerals.{add-one}
use native.Mathlib.Omega.{arith}
use lib.ListN.{length, get_or, set, length-set, get_or-append, replicate, length-replicate}
use lib.Seq.{get_or-append_seam}
use borrow.Author.Tests.{lt-ltb, le-ltb}
use Rattle.pages.specs.Pages.{has, add}
use Rattle.pages.proofs.Added.{add_new}
use Rattle.trace.specs.Layout.{item_at}
use Rattle.trace.specs.declared.Item.{Item}
use Rattle.chains.specs.Chains.{at, CanPush, heads_with, next_with}
use Rattle.chains.proofs.Chained.{Low, chained_none, chained_low, chained_more, low_zeros}
use Rattle.filter.specs.Filter.{pages_of, pages_in, places, buckets, bucket_of, bucket_at, Holds, IsFilter, CanNote, CanAdd, fits_above, empty_base, empty_heads}
use Rattle.filter.proofs.Noting.{notes_long, notes_again, notes_more}
use Rattle.filter.proofs.Finding.{bucket_below}

-- A filter holds the pages of what it notes.
pub holds_in : {file last : List ℕ} {held base : ℕ} {heads next l : List ℕ} → Holds file last held base heads next l → IsFilter file last held base heads next
holds_in f = rw f.notes.pages_are f

-- No page: the heads may say anything up to base.
pub holds_none : (file last : List ℕ) {base : ℕ} {heads next : List ℕ} → Low base heads → buckets ≤ length heads → length last ≤ length next
    → base + length last ≤ 65535 → Holds file last 0 base heads next []
unfolding pages_of
holds_none file last {next = next} w h n s = record {
  notes = record { within = omega arith; readable = λ j o. absurd (omega arith); pages_are = refl; once = tt };
  chained = chained_none (bucket_at []) next w;
  heads_long = h;
  next_long = n;
  small = s;
}

-- A filter that is made.
pub holds_first : (file last : List ℕ) → length last ≡ places → {heads next : List ℕ} → heads ≡ replicate buckets 0 → next ≡ replicate places 0
    → IsFilter file last 0 0 heads next
unfolding pages_of
holds_first file last q h n =
    let long : buckets ≤ length {A = ℕ} (replicate buckets 0) = rw length-replicate (omega arith) in
    let room : length last ≤ length {A = ℕ} (replicate places 0) = rw length-replicate (omega arith) in
    rw (h, n) (holds_none file last (low_zeros buckets) long room (omega arith))

module _ {file last : List ℕ} {held base : ℕ} {heads next l : List ℕ} (f : Holds file last held base heads next l) where
  -- What the heads say is no more than base and the number of pages.
  pub holds_low : Low (base + held) heads
  holds_low = chained_low f.chained

  -- The filter is emptied above what the heads say,
  pub emptied_above : base + held + length last ≤ 65535
      → (base + held ≡ empty_base base held (length last)) × ((heads ≡ empty_heads base held (length last) heads) × Holds file last 0 (base + held) heads next [])
  unfolding fits_above empty_base empty_heads
  emptied_above s =
      let t = lt-ltb (base + held + length last) 65536 (omega arith) in
      (rw t, (rw t, holds_none file last holds_low f.heads_long f.next_long s))

  -- or with heads that are cleared.
  pub emptied_clear : 65535 < base + held + length last → {heads' : List ℕ} → heads' ≡ replicate (length heads) 0
      → (0 ≡ empty_base base held (length last)) × ((heads' ≡ empty_heads base held (length last) heads) × Holds file last 0 0 heads' next [])
  unfolding fits_above empty_base empty_heads
  emptied_clear s e =
      let t = le-ltb (base + held + length last) 65536 (omega arith) in
      let w : buckets ≤ length {A = ℕ} (replicate (length heads) 0) = rw length-replicate f.heads_long in
      (rw t, (rw t e, rw e (holds_none file last (low_zeros (length heads)) w f.next_long (omega (arith, f.small)))))

  module _ (k : ℕ) (readable : 23 + 19 * (k + 1) ≤ length file) where
    -- An item of a page that is held is noted in place of the one before it.
    pub holds_again : (j : ℕ) → j < held → (item_at file k).page ≡ get_or l j 0 → Holds file (set last j k) held base heads next l
    holds_again j h e = record {
      notes = notes_again f.notes k readable j h e;
      chained = f.chained;
      heads_long = f.heads_long;
      next_long = rw length-set f.next_long;
      small = rw length-set f.small;
    }

    -- An item of a new page is noted, and its place pushed.
    module _ (room : held < length last) (new : has (item_at file k).page l ≡ false) where
      bucket_more : (j : ℕ) → j < held → bucket_at (add (item_at file k).page l) j ≡ bucket_at l j
      unfolding at bucket_at
      bucket_more j h = rw (add_new (item_at file k).page l new, get_or-append l ((item_at file k).page ∷ []) 0 j (rw (notes_long f.notes) h))

      bucket_new : bucket_at (add (item_at file k).page l) held ≡ bucket_of (item_at file k).page
      unfolding at bucket_at
      bucket_new = rw (add_new (item_at file k).page l new, ← notes_long f.notes, get_or-append_seam)

      pub holds_more : Holds file (set last held k) (held + 1) base (heads_with base held (bucket_of (item_at file k).page) heads)
          (next_with base held (bucket_of (item_at file k).page) heads next) (add (item_at file k).page l)
      holds_more = record {
        notes = notes_more f.notes k readable room new;
        chained = rw add-one (chained_more f.chained (bucket_at (add (item_at file k).page l)) (bucket_of (item_at file k).page) bucket_more bucket_new
            (omega (arith, bucket_below (item_at file k).page, f.heads_long)) (omega (arith, f.next_long)));
        heads_long = rw length-set f.heads_long;
        next_long = rw (length-set, length-set) f.next_long;
        small = rw length-set f.small;
      }

-- ---- as the code does it

-- An item is noted anew.
pub note_holds : {file last : List ℕ} {held base : ℕ} {heads next : List ℕ} → IsFilter file last held base heads next → {j k : ℕ} → CanNote file last held j k
    → IsFilter file (set last j k) held base heads next
note_holds f {j} {k} c = holds_in (holds_again f k c.readable j c.within c.page)

module _ {file last : List ℕ} {held base : ℕ} {heads next : List ℕ} (f : IsFilter file last held base heads next) {k : ℕ} (c : CanAdd file last held k)
    {x : Item} (e : x ≡ item_at file k) {v : ℕ} (q : v ≡ bucket_of x.page) where
  -- The place can be pushed.
  pub add_push : CanPush base held v heads next
  add_push =
      record { bucket = rw q (omega (arith, bucket_below x.page, f.heads_long)); room = omega (arith, c.room, f.next_long); small = omega (arith, c.room, f.small) }

  pub add_holds : {last' heads' next' : List ℕ} → last' ≡ set last held k → heads' ≡ heads_with base held v heads → next' ≡ next_with base held v heads next
      → (last' ≡ set last held k) × ((heads' ≡ heads_with base held (bucket_of (item_at file k).page) heads)
      × ((next' ≡ next_with base held (bucket_of (item_at file k).page) heads next)
      × Holds file last' (held + 1) base heads' next' (add (item_at file k).page (pages_in file last held))))
  add_holds a h n = (a, (rw (q, e) at h, (rw (q, e) at n, rw (a, h, n, q, e) (holds_more f k c.readable c.room c.new))))
