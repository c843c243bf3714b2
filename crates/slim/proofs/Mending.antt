-- Back over the items of an epoch in the output: what holds at each turn of the loop. Assumes nothing.
use Prim.Native.Nat.{ℕ, suc, ◌+◌, ◌-◌, ◌*◌, ◌≤◌, ◌<◌}
use mathlib.Core.Path.{◌≡◌, refl, sym, ap, ◌∙◌}
use mathlib.Core.Logic.{◌≢◌}
use mathlib.Core.Bool.{true, false, not, ◌||◌, ◌&&◌, or-false, or-true}
use mathlib.Core.List.{List, [], ◌∷◌, ◌++◌, append-nil, append_assoc}
use native.Mathlib.Omega.{arith}
use lib.ListN.{length, get_or, set, length-append, length-set, get_or-eq_default}
use lib.Seq.{sets, length-sets, get_or-set_same, get_or-set_other}
use lib.Dec.{eqb, ltb}
use borrow.Author.Tests.{eq-eqb, ne_eqb, eqb-false, ltb-true, ltb-false, lt-ltb}
use Rattle.std.specs.Prelude.{Some, None}
use Rattle.pages.specs.Pages.{has, place}
use Rattle.pages.proofs.Choice.{split, same, eqb_self}
use Rattle.pages.proofs.Added.{has_join}
use Rattle.pages.proofs.Table.{place_within, place_same}
use Rattle.trace.specs.Layout.{item_at, encode_item, encode_items}
use Rattle.trace.specs.declared.Item.{Item}
use Rattle.trace.proofs.Output.{wrote-item, wrote_again}
use Rattle.filter.specs.Filter.{flags_set, flag_is, place_if, among, found_if, Clear}
use Rattle.filter.proofs.Finding.{among_place}
use Rattle.epochs.specs.Epochs.{pages}
use Rattle.epochs.specs.Keep.{is_last, settle, settled}
use Rattle.epochs.proofs.Marks.{pages_join, settled_front}
use Rattle.slim.specs.Passes.{CanMend, Fit, Stand, Mended}
use Rattle.slim.proofs.Flags.{flags_none}

-- ---- a row of items, from its end

-- A row with items has a last one.
record Last (l : List Item) : Type 0 where
  begins : List Item
  ends : Item
  are : l ≡ begins ++ (ends ∷ [])

last_of : (l : List Item) → 1 ≤ length l → Last l
last_of [] h = absurd (omega arith)
last_of (i ∷ []) h = record { begins = []; ends = i; are = refl }
last_of (i ∷ j ∷ l) h = let r = last_of (j ∷ l) (omega arith) in record { begins = i ∷ r.begins; ends = r.ends; are = ap (◌∷◌ i) r.are }

-- As many items are settled as there were.
pub length-settled : (owed : List ℕ) (u : List Item) → length (settled owed u) ≡ length u
unfolding settled
length-settled owed [] = refl
length-settled owed (i ∷ u) = ap suc (length-settled owed u)

fit_behind : (a b : List Item) → Fit (a ++ b) → Fit b
fit_behind [] b f = f
fit_behind (i ∷ a) b f = fit_behind a b f.2

-- ---- the loop: from item k on the items are settled

-- The items `back` of u are settled, and the flags say what is owed to those before them.
pub record Settling (filter flags out : List ℕ) (from k : ℕ) (old : List ℕ) (u : List Item) (owed : List ℕ) : Type 0 where
  pub before : List Item
  pub back : List Item
  pub are : u ≡ before ++ back
  pub at : k ≡ from + length before
  pub wrote : out ≡ sets old (23 + 19 * from) (encode_items (before ++ settled owed back))
  pub flagged : (p : ℕ) → has p filter ≡ true → eqb (get_or flags (place p filter) 0) 1 ≡ not (has p (pages back)) && has p owed

pub record Mending (filter flags₀ : List ℕ) (from to : ℕ) (out₀ flags out : List ℕ) (k : ℕ) : Type 0 where
  pub begins : from ≤ k
  pub ends : k ≤ to
  pub room : 23 + 19 * to ≤ length out
  pub out_long : length out ≡ length out₀
  pub flags_long : length filter ≤ length flags
  pub flags_same : length flags ≡ length flags₀
  pub settling : (old : List ℕ) (u : List Item) (owed : List ℕ) → Stand filter flags₀ from to out₀ old u owed → Settling filter flags out from k old u owed

-- Where none of as many flags as there are is set, none is.
none_set : {c : ℕ} (flags : List ℕ) → length flags ≡ c → flags_set c flags ≡ 0 → ((j : ℕ) → get_or flags j 0 ≤ 1) → Clear 0 flags
none_set {c} flags l z bits j o =
    split (ltb j c)
    (λ t. let n = flags_none c flags z j (ltb-true j c t) in let b = bits j in omega arith)
    (λ t. get_or-eq_default flags 0 {n = j} (omega (arith, ltb-false j c t)))

-- Nothing is settled yet.
pub mending_none : {filter flags : List ℕ} {from to held : ℕ} {out : List ℕ} → CanMend from to held out flags → length filter ≤ length flags
    → Mending filter flags from to out flags out to
unfolding has pages settled
mending_none can l = record {
  begins = can.within;
  ends = omega arith;
  room = can.room;
  out_long = refl;
  flags_long = l;
  flags_same = refl;
  settling = λ old u owed s. record {
    before = u;
    back = [];
    are = sym (append-nil u);
    at = s.count;
    wrote = rw append-nil s.wrote;
    flagged = s.owes.flagged;
  };
}

module _ {filter flags₀ : List ℕ} {from to : ℕ} {out₀ flags out : List ℕ} {k : ℕ} (r : Mending filter flags₀ from to out₀ flags out k) where
  -- No flag is set: the items before are settled too.
  pub mending_stop : {c : ℕ} → length flags ≡ c → flags_set c flags ≡ 0 → Mended filter flags₀ from to out₀ out
  mending_stop {c} l z = record {
    settles = λ old u owed s.
        let b = r.settling old u owed s in
        let front = settled_front owed b.before b.back (λ p h.
        let joined : has p (pages (b.before ++ b.back)) ≡ true =
        rw (pages_join b.before b.back, has_join p (pages b.before) (pages b.back), h) in
        let known = s.known p (rw (← b.are) at joined) in
        sym (b.flagged p known) ∙ ne_eqb _ 1 (flags_none c flags z (place p filter) (omega (arith, place_within p filter known, r.flags_long)))) in
        b.wrote ∙ ap (λ (t : List Item). sets old (23 + 19 * from) (encode_items t)) (sym front ∙ ap (settled owed) (sym b.are));
  }

  -- Then none at all is.
  pub mending_clear : {c : ℕ} → length flags ≡ c → flags_set c flags ≡ 0 → ((j : ℕ) → get_or flags j 0 ≤ 1) → Clear 0 flags
  mending_clear l z bits = none_set flags l z bits

  -- All is settled.
  pub mending_all : k ≤ from → Mended filter flags₀ from to out₀ out
  mending_all h = record {
    settles = λ old u owed s.
        let b = r.settling old u owed s in
        let n : length b.before ≡ 0 = omega (arith, b.at) in
        all old owed b.before b.back n b.are b.wrote;
  }
    where
      all : (old owed : List ℕ) {u : List Item} (a c : List Item) → length a ≡ 0 → u ≡ a ++ c → out ≡ sets old (23 + 19 * from) (encode_items (a ++ settled owed c))
          → out ≡ sets old (23 + 19 * from) (encode_items (settled owed u))
      all old owed [] c n e w = rw e w
      all old owed (i ∷ a) c n e w = absurd (omega arith)

  module _ (h : from < k) {x : Item} (e : x ≡ item_at out (k - 1)) where
    -- The page of the item is owed a write, and has place j,
    pub mending_found : {j : ℕ} → Some j ≡ found_if true flags x.page filter → (j ≡ place x.page filter) × ((j < length filter) × (get_or flags j 0 ≡ 1))
    unfolding flag_is place_if found_if
    mending_found {j} f =
        split (eqb (get_or flags (place x.page filter) 0) 1)
        (λ t. let (q, w) = among_place (rw t at f) in (q, (w, rw q (same _ 1 t))))
        (λ t. let (q, w) = among_place (rw t at f) in absurd (omega arith))

    -- or it is not.
    missed : None ≡ found_if true flags x.page filter → place x.page filter < length filter → get_or flags (place x.page filter) 0 ≡ 1 → ⊥
    unfolding flag_is place_if found_if among
    missed f w g =
        let t = eq-eqb _ 1 g in
        let q : None ≡ Some (place x.page filter) = rw (t, lt-ltb _ _ w) at f in
        cc

    -- A turn, of what stands there whatever it is.
    record Turn (old : List ℕ) (u : List Item) (owed : List ℕ) : Type 0 where
      front : List Item
      back : List Item
      are : u ≡ front ++ (x ∷ back)
      at : k ≡ from + suc (length front)
      wrote : out ≡ sets old (23 + 19 * from) (encode_items (front ++ (x ∷ settled owed back)))
      flagged : (p : ℕ) → has p filter ≡ true → eqb (get_or flags (place p filter) 0) 1 ≡ not (has p (pages back)) && has p owed
      known : has x.page filter ≡ true
      long : 23 + 19 * (from + (length front + suc (length (settled owed back)))) ≤ length old

    turn : (old : List ℕ) (u : List Item) (owed : List ℕ) → Stand filter flags₀ from to out₀ old u owed → Turn old u owed
    unfolding has pages
    turn old u owed s =
        let b = r.settling old u owed s in
        let g = last_of b.before (omega (arith, b.at)) in
        let v = g.begins in
        let y = g.ends in
        let w = b.back in
        let ws = settled owed w in
        let are : u ≡ v ++ (y ∷ w) = b.are ∙ ap (λ (l : List Item). l ++ w) g.are ∙ append_assoc v (y ∷ []) w in
        let spread : b.before ++ ws ≡ v ++ (y ∷ ws) = ap (λ (l : List Item). l ++ ws) g.are ∙ append_assoc v (y ∷ []) ws in
        let bytes : out ≡ sets old (23 + 19 * from) (encode_items (v ++ (y ∷ ws))) = b.wrote ∙ ap (λ (l : List Item). sets old (23 + 19 * from) (encode_items l)) spread in
        let lb : length b.before ≡ length v + 1 = ap length g.are ∙ length-append v (y ∷ []) in
        let lu : length u ≡ length v + suc (length w) = ap length are ∙ length-append v (y ∷ w) in
        let ls = length-settled owed w in
        let lo : length out ≡ length old = ap length bytes ∙ length-sets old (23 + 19 * from) (encode_items (v ++ (y ∷ ws))) in
        let long : 23 + 19 * (from + (length v + suc (length ws))) ≤ length old = omega (arith, s.count, r.room) in
        let fit = fit_behind v (y ∷ w) (rw are at s.fit) in
        let at : k - 1 ≡ from + length v = omega (arith, b.at) in
        let back : item_at out (k - 1) ≡ y = rw at (wrote-item from v ws old long y fit.0 fit.1 bytes) in
        let q : x ≡ y = e ∙ back in
        let l : has y.page (pages (v ++ (y ∷ w))) ≡ true =
        rw (pages_join v (y ∷ w), has_join y.page (pages v) (y.page ∷ pages w), eqb_self y.page) (or-true (has y.page (pages v))) in
        let p : has y.page (pages u) ≡ true = ap (λ (t : List Item). has y.page (pages t)) are ∙ l in
        record {
          front = v;
          back = w;
          are = rw q are;
          at = omega (arith, b.at);
          wrote = rw q bytes;
          flagged = b.flagged;
          known = rw q (s.known y.page p);
          long = long;
        }

    -- The flag of a page of the filter is its own.
    own : (old : List ℕ) (u : List Item) (owed : List ℕ) (t : Turn old u owed)
        → eqb (get_or flags (place x.page filter) 0) 1 ≡ not (has x.page (pages t.back)) && has x.page owed
    own old u owed t = t.flagged x.page t.known

    -- A turn is done.
    go : (flags' out' : List ℕ) → length flags' ≡ length flags → length out' ≡ length out
        → ((old : List ℕ) (u : List Item) (owed : List ℕ) → Turn old u owed → Settling filter flags' out' from (k - 1) old u owed)
        → Mending filter flags₀ from to out₀ flags' out' (k - 1)
    go flags' out' a b c = record {
      begins = omega arith;
      ends = omega (arith, r.ends);
      room = rw b r.room;
      out_long = b ∙ r.out_long;
      flags_long = rw a r.flags_long;
      flags_same = a ∙ r.flags_same;
      settling = λ old u owed s. c old u owed (turn old u owed s);
    }

    -- The page of the item is owed a write: it becomes one, and its flag is cleared.
    pub mending_set : {j : ℕ} → Some j ≡ found_if true flags x.page filter
        → {out' : List ℕ} → out' ≡ sets out (23 + 19 * (k - 1)) (encode_item (record { page = x.page; time = x.time; written = true }))
        → Mending filter flags₀ from to out₀ (set flags j 0) out' (k - 1)
    unfolding has pages is_last settle settled
    mending_set {j} f {out'} w =
        let (q, (i, z)) = mending_found f in
        let l : j < length flags = omega (arith, r.flags_long) in
        let y : Item = record { page = x.page; time = x.time; written = true } in
        go (set flags j 0) out' (length-set flags j 0) (ap length w ∙ length-sets out (23 + 19 * (k - 1)) (encode_item y))
        (λ old u owed t.
        let v : not (has x.page (pages t.back)) && has x.page owed ≡ true = sym (own old u owed t) ∙ rw q at (eq-eqb (get_or flags j 0) 1 z) in
        let at : k - 1 ≡ from + length t.front = omega (arith, t.at) in
        let settles : settle owed x t.back ≡ y = rw (v, or-true x.written) in
        let bytes = wrote_again from t.front (settled owed t.back) old t.long x y t.wrote (rw at at w) in
        record {
          before = t.front;
          back = x ∷ t.back;
          are = t.are;
          at = at;
          wrote = rw settles bytes;
          flagged = λ p g. split (eqb p x.page)
              (λ c. rw (same p x.page c, ← q, get_or-set_same flags j 0 0 l, eqb_self x.page))
              (λ c. let d : place p filter ≢ j = λ i. eqb-false p x.page c (place_same x.page p filter g (i ∙ q)) in
              rw (c, get_or-set_other flags j (place p filter) 0 0 d) (t.flagged p g));
        })

    -- It is not: the item stays.
    pub mending_leave : None ≡ found_if true flags x.page filter → Mending filter flags₀ from to out₀ flags out (k - 1)
    unfolding has pages is_last settle settled
    mending_leave f =
        go flags out refl refl (λ old u owed t.
        let n : eqb (get_or flags (place x.page filter) 0) 1 ≡ false = ne_eqb _ 1 (missed f (place_within x.page filter t.known)) in
        let v : not (has x.page (pages t.back)) && has x.page owed ≡ false = sym (own old u owed t) ∙ n in
        let at : k - 1 ≡ from + length t.front = omega (arith, t.at) in
        let stays : x.written || (not (has x.page (pages t.back)) && has x.page owed) ≡ x.written = rw (v, or-false) in
        let settles : settle owed x t.back ≡ x = λ i. record { page = x.page; time = x.time; written = stays i } in
        record {
          before = t.front;
          back = x ∷ t.back;
          are = t.are;
          at = at;
          wrote = rw settles t.wrote;
          flagged = λ p g. split (eqb p x.page)
              (λ c. rw (same p x.page c, eqb_self x.page) n)
              (λ c. rw c (t.flagged p g));
        })

-- Where nothing is owed all is as it should be.
module _ {filter flags : List ℕ} {from to held : ℕ} {out : List ℕ} (can : CanMend from to held out flags) (l : length filter ≤ length flags) where
  pub mending_quiet : {c : ℕ} → length flags ≡ c → flags_set c flags ≡ 0 → ((j : ℕ) → get_or flags j 0 ≤ 1) → Mended filter flags from to out out × Clear 0 flags
  mending_quiet e z bits = (mending_stop (mending_none can l) e z, none_set flags e z bits)
