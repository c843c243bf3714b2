-- Places that note items of a file, and the pages that so are held. Assumes nothing.
use Prim.Native.Nat.{ℕ, zero, suc, ◌+◌, ◌*◌, ◌≤◌, ◌<◌}
use mathlib.Core.Path.{◌≡◌, refl, sym, ◌∙◌}
use mathlib.Core.Bool.{true, false, true≢false}
use mathlib.Core.List.{List, [], ◌∷◌, map-append}
use native.Mathlib.Numerals.{add-one}
use native.Mathlib.Omega.{arith}
use lib.ListN.{length, get_or, take, set, length-map, length-set}
use lib.Seq.{length-take-le, get_or-take, take-set-lt, take-suc-set, map-set_same, get_or-set_same, get_or-set_other}
use lib.Dec.{eqb}
use borrow.Author.Tests.{eq-eqb, ne_eqb, eqb-false}
use Rattle.pages.specs.Pages.{has, add, place}
use Rattle.pages.proofs.Choice.{split, same}
use Rattle.pages.proofs.Added.{add_new, distinct_add}
use Rattle.pages.proofs.Table.{place_within, get_or-place, has-get_or, place_alone}
use Rattle.trace.specs.Layout.{item_at}
use Rattle.trace.specs.declared.Item.{Item}
use Rattle.filter.specs.Filter.{pages_of, Stands, Notes}

module _ (file : List ℕ) where
  get_or-pages : (items : List ℕ) (j : ℕ) → j < length items → get_or (pages_of file items) j 0 ≡ (item_at file (get_or items j 0)).page
  unfolding pages_of
  get_or-pages [] j h = absurd (omega arith)
  get_or-pages (i ∷ items) zero h = refl
  get_or-pages (i ∷ items) (suc j) h = get_or-pages items j (omega arith)

  -- An item that is read at a place has the page of the item noted there.
  pub page_read : (last : List ℕ) (j : ℕ) {i : ℕ} {x : Item} → i ≡ get_or last j 0 → x ≡ item_at file i → x.page ≡ (item_at file (get_or last j 0)).page
  page_read last j q e = rw (e, q)

module _ {file last : List ℕ} {held : ℕ} {l : List ℕ} (n : Notes file last held l) where
  -- There are as many pages as places.
  pub notes_long : length l ≡ held
  unfolding pages_of
  notes_long = rw (← n.pages_are, length-map) (length-take-le held last n.within)

  -- Its place can be read.
  pub notes_stands : (j : ℕ) → j < held → Stands file last j
  notes_stands j h = record { within = omega (arith, n.within); readable = n.readable j h }

  -- The page at a place is that of the item noted there.
  pub notes_page : (j : ℕ) → j < held → get_or l j 0 ≡ (item_at file (get_or last j 0)).page
  notes_page j h =
      let b : j < length (take held last) = rw (length-take-le held last n.within) h in
      rw (← n.pages_are) (get_or-pages file (take held last) j b ∙ rw (get_or-take held last j 0 h))

  -- A page that is read at a place has that place.
  pub notes_place : (p j : ℕ) → j < held → {q : ℕ} → q ≡ (item_at file (get_or last j 0)).page → q ≡ p → j ≡ place p l
  notes_place p j h r e = place_alone p l j n.once (rw notes_long h) (notes_page j h ∙ sym r ∙ e)

  -- An item that is noted is noted at the place of its page, which is one of those held.
  pub notes_item : (k : ℕ) → has k (take held last) ≡ true → (place (item_at file k).page l < held) × (get_or last (place (item_at file k).page l) 0 ≡ k)
  notes_item k h =
      let i = place k (take held last) in
      let w : i < held = rw (length-take-le held last n.within) at (place_within k (take held last) h) in
      let g : get_or last i 0 ≡ k = sym (get_or-take held last i 0 w) ∙ get_or-place k (take held last) h in
      rw (← notes_place (item_at file k).page i w refl (rw g)) (w, g)

  -- What is noted at the place of an item's page tells whether the item is noted.
  pub notes_told : (k : ℕ) → place (item_at file k).page l < held → eqb (get_or last (place (item_at file k).page l) 0) k ≡ has k (take held last)
  notes_told k h =
      let j = place (item_at file k).page l in
      let w : j < length (take held last) = rw (length-take-le held last n.within) h in
      split (has k (take held last))
      (λ t. eq-eqb (get_or last j 0) k (notes_item k t).1 ∙ sym t)
      (λ t. ne_eqb (get_or last j 0) k (λ z. true≢false (sym (has-get_or k (take held last) j w (get_or-take held last j 0 h ∙ z)) ∙ t)) ∙ sym t)

  -- ---- whether a page stands at a place

  module _ (p : ℕ) (h : has p l ≡ true) (c : ℕ) where
    pub at_page : c < held → {q : ℕ} → q ≡ (item_at file (get_or last c 0)).page → eqb q p ≡ eqb (place p l) c
    at_page w {q} r =
        split (eqb q p)
        (λ t. t ∙ sym (eq-eqb _ c (sym (notes_place p c w r (same q p t)))))
        (λ t. t ∙ sym (ne_eqb _ c (λ z. eqb-false q p t (r ∙ sym (notes_page c w) ∙ rw z at (get_or-place p l h)))))

    pub at_none : held ≤ c → false ≡ eqb (place p l) c
    at_none w = sym (ne_eqb _ c (λ z. omega (arith, place_within p l h, notes_long)))

-- ---- after a store

module _ {file last : List ℕ} {held : ℕ} {l : List ℕ} (n : Notes file last held l) (k : ℕ) (readable : 23 + 19 * (k + 1) ≤ length file) where
  -- The number of an item with the same page takes the place of another.
  pub notes_again : (j : ℕ) → j < held → (item_at file k).page ≡ get_or l j 0 → Notes file (set last j k) held l
  unfolding pages_of
  notes_again j h e =
      let b : j < length (take held last) = rw (length-take-le held last n.within) h in
      let w : j < length last = omega (arith, n.within) in
      record {
        within = rw length-set n.within;
        readable = λ i o.
            split (eqb i j)
            (λ t. rw (same i j t, get_or-set_same last j k 0 w) readable)
            (λ t. rw (get_or-set_other last j i k 0 (eqb-false i j t)) (n.readable i o));
        pages_are = rw (take-set-lt held last j k h)
            (map-set_same (λ i. (item_at file i).page) (take held last) j k 0 (e ∙ notes_page n j h ∙ rw (get_or-take held last j 0 h)) ∙ n.pages_are);
        once = n.once;
      }

  -- An item more is noted, whose page is new.
  pub notes_more : held < length last → has (item_at file k).page l ≡ false → Notes file (set last held k) (held + 1) (add (item_at file k).page l)
  unfolding pages_of
  notes_more w new = record {
    within = rw length-set (omega arith);
    readable = λ i o.
        split (eqb i held)
        (λ t. rw (same i held t, get_or-set_same last held k 0 w) readable)
        (λ t. let d = eqb-false i held t in rw (get_or-set_other last held i k 0 d) (n.readable i (omega arith)));
    pages_are = rw (add-one, take-suc-set last held k w, map-append, add_new (item_at file k).page l new, n.pages_are);
    once = distinct_add (item_at file k).page l n.once;
  }
