-- Where a page stands in a log, and what its last place says of it. Assumes nothing.
use Prim.Native.Nat.{ℕ, ◌+◌, ◌-◌, ◌≤◌, ◌<◌}
use mathlib.Core.Path.{◌≡◌, refl, sym, ◌∙◌}
use mathlib.Core.Bool.{true, false}
use mathlib.Core.List.{List}
use native.Mathlib.Omega.{arith}
use native.Mathlib.Numerals.{add-one}
use lib.ListN.{length, get_or, take, drop, set, length-drop}
use lib.Seq.{length-take-le, get_or-take, get_or-drop, get_or-set_same, get_or-set_other}
use lib.Dec.{eqb, ltb}
use borrow.Author.Tests.{lt-ltb, ltb-true, ltb-false}
use Rattle.pages.specs.Pages.{has, place}
use Rattle.pages.proofs.Choice.{split}
use Rattle.pages.proofs.Table.{has-get_or, get_or-place, place_within}
use Rattle.chains.specs.Chains.{at, newest}
use Rattle.chains.proofs.Newest.{newest-at, newest_beyond, newest_same}
use Rattle.recency.specs.Linked.{last_from}
use Rattle.recency.specs.declared.Mark.{Mark}
use Rattle.recency.specs.declared.Mark.TheVariants.{Clean}
use Rattle.recency.specs.Held.{part, is_written, wrote}

module _ (log : List ℕ) (low end p : ℕ) (behind : low ≤ end) (within : end ≤ length log) where
  reads : (j : ℕ) → low + j < end → get_or (part log low end) j 0 ≡ get_or log (low + j) 0
  reads j h = get_or-drop low (take end log) j 0 ∙ get_or-take end log (low + j) 0 h

  long : length (part log low end) ≡ end - low
  long = length-drop low (take end log) ∙ rw (length-take-le end log within)

  -- A page that stands in a part of a log is in it.
  pub has_part : (r : ℕ) → low ≤ r → r < end → get_or log r 0 ≡ p → has p (part log low end) ≡ true
  has_part r f h q =
      let u : low + (r - low) ≡ r = omega arith in
      has-get_or p (part log low end) (r - low) (omega (arith, long)) (reads (r - low) (omega arith) ∙ rw u q)

  -- It is in it exactly if its last place is.
  pub has_last : has p (part log low end) ≡ ltb low (newest (at log) p end)
  unfolding at
  has_last =
      split (ltb low (newest (at log) p end))
      (λ t.
      let j = newest (at log) p end - 1 in
      let o = ltb-true low (newest (at log) p end) t in
      let z = newest-at (at log) p end j (omega arith) in
      rw t (has_part j (omega arith) z.1 z.0))
      (λ t. split (has p (part log low end))
      (λ h.
      let j = place p (part log low end) in
      let w = place_within p (part log low end) h in
      let g = get_or-place p (part log low end) h in
      let o : low + j < end = omega (arith, long) in
      absurd (newest_beyond (at log) p end (low + j) (omega (arith, ltb-false low (newest (at log) p end) t)) o (sym (reads j o) ∙ g)))
      (λ h. h ∙ sym t))

-- ---- its last place

module _ (log : List ℕ) (low end : ℕ) (within : end ≤ length log) where
  -- A place behind which its page does not stand is the page's last.
  pub last_live : (r : ℕ) → low ≤ r → r < end → has (get_or log r 0) (drop (r + 1) (take end log)) ≡ false → last_from low log end (get_or log r 0) ≡ r + 1
  unfolding last_from at
  last_live r f h n =
      let p = get_or log r 0 in
      let e = newest (at log) p end in
      let u = ltb-false (r + 1) e (sym (has_last log (r + 1) end p (omega arith) within) ∙ n) in
      let v : r < e = split (ltb r e) (λ t. ltb-true r e t) (λ t. absurd (newest_beyond (at log) p end r (ltb-false r e t) h refl)) in
      let z : e ≡ r + 1 = omega arith in
      rw (z, lt-ltb low (r + 1) (omega arith))

  -- It says whether the page was written.
  pub wrote_live : (stale : List Mark) (r : ℕ) → low ≤ r → r < end → has (get_or log r 0) (drop (r + 1) (take end log)) ≡ false
      → wrote log stale low end (get_or log r 0) ≡ is_written (get_or stale r Clean)
  unfolding wrote
  wrote_live stale r f h n = let z : r + 1 - 1 ≡ r = omega arith in rw (last_live r f h n, z)

  -- A page that stands from a later place on has its last place there.
  pub last_same : (low' p : ℕ) → low ≤ low' → low' ≤ end → has p (part log low' end) ≡ true → last_from low' log end p ≡ last_from low log end p
  unfolding last_from
  last_same low' p o b h =
      let e = newest (at log) p end in
      let u = ltb-true low' e (sym (has_last log low' end p b within) ∙ h) in
      rw (lt-ltb low' e u, lt-ltb low e (omega arith))

  pub wrote_same : (stale : List Mark) (low' p : ℕ) → low ≤ low' → low' ≤ end → has p (part log low' end) ≡ true → wrote log stale low' end p ≡ wrote log stale low end p
  unfolding wrote
  wrote_same stale low' p o b h = rw (last_same low' p o b h)

module _ (log : List ℕ) (low end p : ℕ) (behind : low ≤ end) (within : end ≤ length log) where
  -- The last place of a page that is there.
  pub last_place_lem : has p (part log low end) ≡ true → (e : ℕ) → e ≡ last_from low log end p → (low < e) × (e ≤ end) × (get_or log (e - 1) 0 ≡ p)
  unfolding last_from at
  last_place_lem h e k =
      let n = newest (at log) p end in
      let u = ltb-true low n (sym (has_last log low end p behind within) ∙ h) in
      let z : e ≡ n = rw (lt-ltb low n u) at k in
      let a = newest-at (at log) p end (e - 1) (sym z ∙ omega arith) in
      (omega arith, omega (arith, a.1), a.0)

-- A store at a log's end changes the last place of no other page.
pub last_other : (log : List ℕ) (low n page p : ℕ) → n < length log → eqb page p ≡ false → last_from low (set log n page) (n + 1) p ≡ last_from low log n p
unfolding last_from newest at
last_other log low n page p h o =
    let m : newest (at (set log n page)) p n ≡ newest (at log) p n =
    newest_same (at (set log n page)) (at log) p n (λ j g. get_or-set_other log n j page 0 (λ e. omega arith))
    in
    rw (add-one, get_or-set_same log n page 0 h, o, m)
