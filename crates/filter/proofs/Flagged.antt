-- The search for a page by its flag: along a chain, where a place counts that has the page and a flag as is asked. Assumes nothing.
use Prim.Native.Nat.{ℕ, ◌<◌}
use mathlib.Core.Path.{◌≡◌, sym, ◌∙◌}
use mathlib.Core.Bool.{Bool, true, false, beq, ◌&&◌, true≢false}
use mathlib.Core.List.{List}
use Rattle.std.specs.Prelude.{Some, None}
use Rattle.std.specs.Bool.{then_some}
use native.Mathlib.Omega.{arith}
use lib.ListN.{length, get_or}
use lib.Dec.{ltb, eqb}
use borrow.Author.Tests.{ltb-true, ltb-false, eq-eqb}
use Rattle.pages.specs.Pages.{place}
use Rattle.pages.proofs.Choice.{split, and_true}
use Rattle.pages.proofs.Table.{place_most}
use Rattle.trace.specs.Layout.{item_at}
use Rattle.filter.specs.Filter.{bucket_of, bucket_at, Holds, flag_is, place_if, found, found_if}
use Rattle.filter.proofs.Noting.{notes_long}
use Rattle.filter.proofs.Finding.{among_some, among_none, found_place, found_nowhere, found_at, in_bucket}

-- A flag is as is asked, or not: so it is compared.
pub flag_asked : (on : Bool) (flag : ℕ) {b : Bool} → b ≡ eqb flag 1 → beq b on ≡ flag_is on flag
unfolding flag_is
flag_asked on flag e = rw e (split on
    (λ x. split (eqb flag 1) (λ t. rw (x, t)) (λ t. rw (x, t)))
    (λ x. split (eqb flag 1) (λ t. rw (x, t)) (λ t. rw (x, t))))

-- A place has the page and a flag as is asked.
pub both_so : {b x y z : Bool} → b ≡ x → b ≡ true → z ≡ y → z ≡ x && y
both_so q t e = rw (← q, t, e)

pub both_not : {b x : Bool} (y : Bool) → b ≡ x → b ≡ false → b ≡ x && y
both_not y q t = rw (← q, t)

-- The place that all places in turn give, and its flag.
module _ (on : Bool) (flags l : List ℕ) (p : ℕ) where
  pub flagged_nowhere : None ≡ found p l → None ≡ found_if on flags p l
  unfolding found_if place_if
  flagged_nowhere q =
      let h = found_nowhere p l q in
      let e : length l ≡ place p l = omega (arith, place_most p l) in
      split (flag_is on (get_or flags (place p l) 0))
      (λ t. rw (t, ← e) (among_none (length l)))
      (λ t. rw t (among_none (length l)))

  module _ {j : ℕ} (q : Some j ≡ found p l) where
    pub flagged_told : {b : Bool} → b ≡ flag_is on (get_or flags j 0) → then_some b j ≡ found_if on flags p l
    unfolding found_if place_if
    flagged_told e =
        let (z, h) = found_place p l q in
        rw (e, ← z) (split (flag_is on (get_or flags j 0)) (λ t. rw t (among_some h)) (λ t. rw t (among_none (length l))))

    pub flagged_so : flag_is on (get_or flags j 0) ≡ true → Some j ≡ found_if on flags p l
    unfolding found_if place_if
    flagged_so t =
        let (e, h) = found_place p l q in
        rw (← e, t) (among_some h)

module _ {file last : List ℕ} {held base : ℕ} {heads next l : List ℕ} (f : Holds file last held base heads next l) (on : Bool) (flags : List ℕ) (p : ℕ) where
  -- A place that has the page, and such a flag,
  pub flagged_here : {j : ℕ} → j < held → flag_is on (get_or flags j 0) && eqb (item_at file (get_or last j 0)).page p ≡ true → Some j ≡ found_if on flags p l
  flagged_here {j} h t =
      let (x, y) = and_true (flag_is on (get_or flags j 0)) (eqb (item_at file (get_or last j 0)).page p) t in
      flagged_so on flags l p (found_at f p h y) x

  -- or none in the page's bucket.
  pub flagged_end : ((j : ℕ) → j < held → bucket_at l j ≡ bucket_of p → flag_is on (get_or flags j 0) && eqb (item_at file (get_or last j 0)).page p ≡ false) → None ≡ found_if on flags p l
  unfolding found_if place_if
  flagged_end a =
      split (flag_is on (get_or flags (place p l) 0))
      (λ t. split (ltb (place p l) held)
      (λ o. let w = ltb-true (place p l) held o in
      let (b, q) = in_bucket f p w in
      absurd (true≢false (sym (rw (t, eq-eqb _ p q)) ∙ a (place p l) w b)))
      (λ o. let w = ltb-false (place p l) held o in
      let x : place p l ≡ length l = omega (arith, place_most p l, notes_long f.notes) in
      rw (t, x) (among_none (length l))))
      (λ t. rw t (among_none (length l)))
