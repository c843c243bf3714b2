-- The searches in a filter: along a chain, for a page and for an item, and by all places in turn. Assumes nothing.
use Prim.Native.Nat.{ℕ, suc, min, ◌+◌, ◌-◌, ◌≤◌, ◌<◌}
use mathlib.Core.Path.{◌≡◌, refl, sym, ap, ◌∙◌}
use mathlib.Core.Bool.{true, false, false≢true, ◌||◌, or-false, or-true}
use mathlib.Core.List.{List, [], ◌∷◌}
use Rattle.std.specs.Prelude.{Option, Some, None, fold, filter, nat_le, unwrap_or}
use Rattle.std.specs.List.{reduce}
use native.Mathlib.Omega.{arith}
use lib.ListN.{length, get_or, take}
use lib.Seq.{length-take-le, get_or-take}
use lib.Dec.{eqb, ltb}
use borrow.Author.Tests.{ltb-true, ltb-false, lt-ltb, le-ltb, leb-true, leb-false, eq-eqb, ne_eqb, eqb-false}
use Rattle.pages.specs.Pages.{has, place}
use Rattle.pages.proofs.Choice.{split, same, eqb_self}
use Rattle.pages.proofs.Table.{place_most, has_within, get_or-place, has-get_or}
use Rattle.trace.specs.Layout.{item_at}
use Rattle.chains.specs.Chains.{at, counted, bucket_in}
use Rattle.chains.proofs.Chained.{Seeking, seeking_none, seeking_within, seeking_less}
use Rattle.filter.specs.Filter.{Notes, buckets, bucket_of, bucket_at, Holds, FirstNoted, first_from, among, found}
use Rattle.filter.proofs.Noting.{notes_long, notes_page, notes_place, notes_item, notes_told}

-- A bucket is one of the heads'.
pub bucket_below : (p : ℕ) → bucket_of p < buckets
unfolding bucket_of
bucket_below p = omega arith

-- A page's bucket is that of so many.
pub bucket_is : (p : ℕ) {b : ℕ} → b ≡ bucket_in buckets p → b ≡ bucket_of p
unfolding bucket_of
bucket_is p q = q

-- A place is one of those there are, or none.
pub among_some : {j n : ℕ} → j < n → Some j ≡ among j n
unfolding among
among_some {j} {n} h = rw (lt-ltb j n h)

pub among_none : (n : ℕ) → None ≡ among n n
unfolding among
among_none n = rw (le-ltb n n (omega arith))

-- A page is found, or none.
pub found_here : {j : ℕ} (p : ℕ) (l : List ℕ) → j ≡ place p l → j < length l → Some j ≡ found p l
unfolding found among
found_here {j} p l e h = rw (← e, lt-ltb j (length l) h)

pub found_none : (p : ℕ) (l : List ℕ) → length l ≡ place p l → None ≡ found p l
unfolding found among
found_none p l e = rw (← e, le-ltb (length l) (length l) (omega arith))

pub among_place : {j i n : ℕ} → Some j ≡ among i n → (j ≡ i) × (j < n)
unfolding among
among_place {j} {i} {n} e =
    split (ltb i n)
    (λ t. let q : Some j ≡ Some i = rw t at e in
    let z : j ≡ i = cc in
    (z, omega (arith, ltb-true i n t)))
    (λ t. absurd (let q : Some j ≡ None = rw t at e in cc))

-- What is found stands in the list, and what is not found nowhere.
pub found_place : {j : ℕ} (p : ℕ) (l : List ℕ) → Some j ≡ found p l → (j ≡ place p l) × (j < length l)
unfolding found
found_place p l e = among_place e

pub found_nowhere : (p : ℕ) (l : List ℕ) → None ≡ found p l → length l ≤ place p l
unfolding found among
found_nowhere p l e =
    split (ltb (place p l) (length l))
    (λ t. absurd (let q : ◌≡◌ {A = Option ℕ} None (Some (place p l)) = rw t at e in cc))
    (λ t. ltb-false (place p l) (length l) t)

-- No place is counted 0.
pub counted_none : {r : Option ℕ} → r ≡ None → counted r ≡ 0
unfolding counted
counted_none p = rw p

-- ---- by all places in turn

-- Of four places that are there, each is.
pub ahead : {i held : ℕ} → i + 4 ≤ held → i < held
ahead h = omega arith

pub ahead_by : (i d : ℕ) {held : ℕ} → i + 4 ≤ held → ltb d 4 ≡ true → i + d < held
ahead_by i d h t = omega (arith, ltb-true d 4 t)

-- A search for page p in the filter's pages l has passed i places and not found it.
pub record Scanning (held : ℕ) (l : List ℕ) (p i : ℕ) : Type 0 where
  pub within : i ≤ held
  pub passed : i ≤ place p l

module _ {file last : List ℕ} {held : ℕ} {l : List ℕ} (n : Notes file last held l) {p : ℕ} where
  -- It is passed at a place that has another page.
  other : {i q : ℕ} → i ≤ place p l → i < held → q ≡ (item_at file (get_or last i 0)).page → (q ≡ p → ⊥) → i + 1 ≤ place p l
  other {i} {q} s h r t =
      split (eqb (place p l) i)
      (λ e.
      let z = same (place p l) i e in
      let w : place p l < length l = rw (notes_long n, z) h in
      absurd (t (r ∙ sym (notes_page n i h) ∙ rw z at (get_or-place p l (has_within p l w)))))
      (λ e. let d = eqb-false (place p l) i e in omega arith)

  pub scan_here : (i : ℕ) → i < held → {q : ℕ} → q ≡ (item_at file (get_or last i 0)).page → q ≡ p → Some i ≡ found p l
  scan_here i h r e = found_here p l (notes_place n p i h r e) (rw (notes_long n) h)

  module _ {i : ℕ} (s : Scanning held l p i) where
    pub scan_all : held ≤ i → None ≡ found p l
    scan_all h = found_none p l (omega (arith, s.passed, place_most p l, notes_long n))

    -- One of the next four places has the page.
    pub scan_found : (d : ℕ) → ltb d 4 ≡ true → i + 4 ≤ held → {q : ℕ} → q ≡ (item_at file (get_or last (i + d) 0)).page → q ≡ p → Some (i + d) ≡ found p l
    scan_found d t h r e = scan_here (i + d) (ahead_by i d h t) r e

    pub scan_more : i < held → {q : ℕ} → q ≡ (item_at file (get_or last i 0)).page → (q ≡ p → ⊥) → Scanning held l p (i + 1)
    scan_more h r t = record { within = omega arith; passed = other s.passed h r t }

    pub scan_four : i + 4 ≤ held → {q₀ q₁ q₂ q₃ : ℕ}
        → q₀ ≡ (item_at file (get_or last i 0)).page → (q₀ ≡ p → ⊥) → q₁ ≡ (item_at file (get_or last (i + 1) 0)).page → (q₁ ≡ p → ⊥)
        → q₂ ≡ (item_at file (get_or last (i + 2) 0)).page → (q₂ ≡ p → ⊥) → q₃ ≡ (item_at file (get_or last (i + 3) 0)).page → (q₃ ≡ p → ⊥)
        → Scanning held l p (i + 4)
    scan_four h r₀ t₀ r₁ t₁ r₂ t₂ r₃ t₃ =
        let a₁ = other s.passed (omega arith) r₀ t₀ in
        let a₂ = other a₁ (omega arith) r₁ t₁ in
        let a₃ = other {i = i + 2} (omega arith) (omega arith) r₂ t₂ in
        let a₄ = other {i = i + 3} (omega arith) (omega arith) r₃ t₃ in
        record { within = h; passed = omega arith }

-- ---- along a chain

-- What stands before a number more.
before : (j : ℕ) → suc j - 1 ≡ j
before j = omega arith

module _ {file last : List ℕ} {held base : ℕ} {heads next l : List ℕ} (f : Holds file last held base heads next l) where
  module _ {key : ℕ → ℕ} {k v : ℕ} where
    pub find_none : {e : ℕ} → e ≡ get_or heads v 0 - base → Seeking key (bucket_at l) held k v e
    find_none e = seeking_none f.chained e

    module _ {e : ℕ} (s : Seeking key (bucket_at l) held k v e) {j : ℕ} (a : e ≡ suc j) where
      pub find_held : j < held
      find_held = rw (a, before) at (seeking_within s (omega arith))

      pub find_less : {d : ℕ} → d ≡ get_or next j 0 → d < e
      find_less z = seeking_less s (omega arith) f.chained (rw (a, before) z)

  -- ---- for a page

  -- A place that has the page,
  pub found_at : (p : ℕ) {j : ℕ} → j < held → eqb (item_at file (get_or last j 0)).page p ≡ true → Some j ≡ found p l
  found_at p {j} h t = found_here p l (notes_place f.notes p j h refl (same _ p t)) (rw (notes_long f.notes) h)

  -- The place of a page that is held is in the page's bucket.
  pub in_bucket : (p : ℕ) → place p l < held → (bucket_at l (place p l) ≡ bucket_of p) × ((item_at file (get_or last (place p l) 0)).page ≡ p)
  unfolding bucket_at at
  in_bucket p w =
      let q : get_or l (place p l) 0 ≡ p = get_or-place p l (has_within p l (rw (notes_long f.notes) w)) in
      (ap bucket_of q, sym (notes_page f.notes (place p l) w) ∙ q)

  -- or none in the bucket that has it.
  passed_all : (p : ℕ) → ((j : ℕ) → j < held → bucket_at l j ≡ bucket_of p → eqb (item_at file (get_or last j 0)).page p ≡ false) → held ≤ place p l
  passed_all p a =
      split (ltb (place p l) held)
      (λ t. let w = ltb-true (place p l) held t in let (b, q) = in_bucket p w in absurd (eqb-false _ p (a (place p l) w b) q))
      (λ t. ltb-false (place p l) held t)

  pub found_end : (p : ℕ) → ((j : ℕ) → j < held → bucket_at l j ≡ bucket_of p → eqb (item_at file (get_or last j 0)).page p ≡ false) → None ≡ found p l
  found_end p a = found_none p l (omega (arith, passed_all p a, place_most p l, notes_long f.notes))

  -- ---- for an item

  module _ (k : ℕ) where
    -- A place that notes it,
    pub noted_at : {j : ℕ} → j < held → get_or last j 0 ≡ k → FirstNoted (take held last) k k
    noted_at {j} h t =
        let w : j < length (take held last) = rw (length-take-le held last f.notes.within) h in
        record { from = omega arith; none = λ i a b. absurd (omega arith); here = λ q. has-get_or k (take held last) j w (get_or-take held last j 0 h ∙ t) }

    -- or none in the bucket of its page that does.
    pub noted_end : ((j : ℕ) → j < held → bucket_at l j ≡ bucket_of (item_at file k).page → eqb (get_or last j 0) k ≡ false) → FirstNoted (take held last) k (k + 1)
    noted_end a =
        let n : has k (take held last) ≡ false =
        split (has k (take held last))
        (λ t. let (w, g) = notes_item f.notes k t in absurd (eqb-false _ k (a _ w (in_bucket _ w).0) g))
        (λ t. t) in
        record { from = omega arith; none = λ i a b. (let q : k ≡ i = omega arith in rw q at n); here = λ q. absurd (omega arith) }

-- ---- by all places: the first item from k on

-- The least of a row is one of it, and none of it is less.
least_in : (x : ℕ) (l : List ℕ) → has (fold min x l) (x ∷ l) ≡ true
unfolding has
least_in x [] = rw eqb_self
least_in x (y ∷ l) =
    let m : ℕ = fold min (min x y) l in
    let h : eqb m (min x y) || has m l ≡ true = least_in (min x y) l in
    split (has m l)
    (λ t. rw (t, or-true, or-true))
    (λ n. let e : m ≡ min x y = same m (min x y) (rw (n, or-false) at h) in
    split (ltb x y)
    (λ o. let q : m ≡ x = omega (arith, ltb-true x y o) in rw (eq-eqb m x q))
    (λ o. let q : m ≡ y = omega (arith, ltb-false x y o) in rw (eq-eqb m y q, or-true (eqb m x))))

least_most : (x : ℕ) (l : List ℕ) (i : ℕ) → has i (x ∷ l) ≡ true → fold min x l ≤ i
unfolding has
least_most x [] i h = let e = same i x (rw or-false at h) in omega arith
least_most x (y ∷ l) i h =
    let a : fold min (min x y) l ≤ min x y = least_most (min x y) l (min x y) (rw eqb_self) in
    split (has i l)
    (λ t. least_most (min x y) l i (rw (t, or-true)))
    (λ n. split (eqb i x)
    (λ e. let q = same i x e in omega arith)
    (λ f. let q = same i y (rw (f, n, or-false) at h) in omega arith))

module _ (k : ℕ) where
  -- Of the items that are not before item k each is one, and the others are before it.
  from_k : (items : List ℕ) (i : ℕ) → k ≤ i → has i (filter (λ j. nat_le k j) items) ≡ has i items
  unfolding has
  from_k [] i h = refl
  from_k (j ∷ items) i h =
      split (nat_le k j)
      (λ t. rw (t, from_k items i h))
      (λ f. let d = leb-false k j f in rw (f, from_k items i h, ne_eqb i j (λ q. omega arith)))

  not_before : (items : List ℕ) (i : ℕ) → has i (filter (λ j. nat_le k j) items) ≡ true → k ≤ i
  unfolding has
  not_before [] i h = absurd (false≢true h)
  not_before (j ∷ items) i h =
      split (nat_le k j)
      (λ t. split (eqb i j)
      (λ e. let q = same i j e in omega (arith, leb-true k j t))
      (λ f. not_before items i (rw (t, f) at h)))
      (λ f. not_before items i (rw f at h))

  -- The least of them is the first that may be noted, or where there is none a number that no item has.
  least_first : (items row : List ℕ) → row ≡ filter (λ j. nat_le k j) items → (top : ℕ) → k < top → FirstNoted items k (unwrap_or (reduce min row) top)
  unfolding has
  least_first items [] e top o = record {
    from = omega arith;
    none = λ i a b. sym (from_k items i a) ∙ sym (ap (has i) e);
    here = λ q. absurd (omega arith);
  }
  least_first items (x ∷ row) e top o =
      let m : ℕ = fold min x row in
      let among : has m (filter (λ j. nat_le k j) items) ≡ true = sym (ap (has m) e) ∙ least_in x row in
      record {
        from = not_before items m among;
        none = λ i a b. split (has i items)
            (λ t. absurd (let z = least_most x row i (ap (has i) e ∙ from_k items i a ∙ t) in omega arith))
            (λ f. f);
        here = λ q. rw q at (sym (from_k items m (not_before items m among)) ∙ among);
      }

  pub noted_first : (items : List ℕ) (top : ℕ) → k < top → {o : Option ℕ} → o ≡ first_from k items → FirstNoted items k (unwrap_or o top)
  noted_first items top h e = rw e (least_first items _ refl top h)

-- ---- by the place of the item's page

module _ {file last : List ℕ} {held : ℕ} {l : List ℕ} (n : Notes file last held l) (k : ℕ) {p : ℕ} (e : p ≡ (item_at file k).page) where
  absent : has k (take held last) ≡ false → FirstNoted (take held last) k (k + 1)
  absent n = record { from = omega arith; none = λ i a b. (let t : k ≡ i = omega arith in rw t at n); here = λ t. absurd (omega arith) }

  -- The page is not held,
  pub page_nowhere : None ≡ found p l → FirstNoted (take held last) k (k + 1)
  page_nowhere q =
      let h = found_nowhere p l q in
      absent (split (has k (take held last)) (λ t. absurd (omega (arith, rw (← e) at (notes_item n k t).0, notes_long n))) (λ t. t))

  module _ {j : ℕ} (q : Some j ≡ found p l) where
    told : eqb (get_or last j 0) k ≡ has k (take held last)
    told =
        let (r, h) = found_place p l q in
        rw (r, e) (notes_told n k (rw (r, e, notes_long n) at h))

    -- or notes the item,
    pub page_here : get_or last j 0 ≡ k → FirstNoted (take held last) k k
    page_here t = record { from = omega arith; none = λ x a b. absurd (omega arith); here = λ u. sym told ∙ eq-eqb (get_or last j 0) k t }

    -- or another.
    pub page_other : (get_or last j 0 ≡ k → ⊥) → FirstNoted (take held last) k (k + 1)
    page_other t = absent (sym told ∙ ne_eqb (get_or last j 0) k t)

-- An item that is not noted is before the first that may be.
pub first-after : {items : List ℕ} {k r : ℕ} → FirstNoted items k r → (r ≡ k → ⊥) → k < r
first-after {k = k} {r = r} f d = split (eqb r k) (λ t. absurd (d (same r k t))) (λ t. let z = eqb-false r k t in omega (arith, f.from))
