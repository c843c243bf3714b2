-- What `join` writes is a trace file, and says the items of the two files. Assumes nothing.
use Prim.Native.Nat.{ℕ, ◌≤◌, max}
use mathlib.Core.Path.{◌≡◌, refl, sym, ap}
use mathlib.Core.Bool.{◌&&◌, ◌||◌}
use mathlib.Core.List.{List, ◌++◌}
use native.Mathlib.Omega.{arith}
use lib.ListN.{length-append}
use lib.Dec.{eqb}
use borrow.Author.Tests.{eqb-true, eqb-false}
use Rattle.limits.proofs.Numbers.{filter_least}
use Rattle.pages.proofs.Rows.{all_append}
use Rattle.pages.proofs.Choice.{split, and_true}
use Rattle.trace.specs.Layout.{Trace, header, items, decode}
use Rattle.trace.specs.Rules.{ItemFits, Allowed}
use Rattle.trace.specs.Check.{verdict}
use Rattle.trace.specs.Promises.{AreBytes, Says}
use Rattle.trace.specs.declared.Header.{Header}
use Rattle.trace.specs.Verdict.{Sound}
use Rattle.trace.proofs.Allowed.{Facts, allowed_facts, facts_allowed, filter_most_lem}
use Rattle.trace.proofs.Checking.{check_sound}
use Rattle.trace.proofs.Accepted.{is_determined}
use Rattle.trace.proofs.RoundTrip.{reads_back, is_taken}
use Rattle.join.specs.Join.{joined_kind, joined_header, joined_file, judged}
use Rattle.join.specs.Promises.{WritesJoined}
use Rattle.join.specs.Join.{Passed}
use Rattle.join.proofs.Heading.{kind_whole}
use Rattle.join.proofs.Joining.{Joinable, passed_joinable}
use Rattle.join.proofs.Meeting.{rising_joined}

-- ---- the kind

-- Kinds of joined files are at most 2.
kind_range : (a b : ℕ) → joined_kind a b ≤ 2
unfolding joined_kind
kind_range a b =
    split (eqb a 0 && eqb b 0)
    (λ t. rw t (omega arith))
    (λ u. split (eqb a 2 || eqb b 2) (λ t. rw (u, t) (omega arith)) (λ w. rw (u, w) (omega arith)))

-- A joined file is whole only where both files are.
kind_both : (a b : ℕ) → joined_kind a b ≡ 0 → (a ≡ 0) × (b ≡ 0)
unfolding joined_kind
kind_both a b e =
    split (eqb a 0 && eqb b 0)
    (λ t. let (p, q) = and_true (eqb a 0) (eqb b 0) t in (eqb-true a 0 p, eqb-true b 0 q))
    (λ u. split (eqb a 2 || eqb b 2) (λ t. absurd (let z = rw (u, t) at e in omega arith)) (λ w. absurd (let z = rw (u, w) at e in omega arith)))

-- ---- the header

-- No items only where there are no references, of whatever kind the header is.
none_there : (h : Header) → Facts h → h.items ≡ 0 → h.references ≡ 0
none_there h w z =
    split (eqb h.kind 0)
    (λ t. omega (arith, w.whole (eqb-true h.kind 0 t)))
    (λ u. (w.reduced (eqb-false h.kind 0 u)).2 z)

module _ (f g : List ℕ) (v : Facts (header f)) (w : Facts (header g)) where
  -- The larger filter size is one of a filter, unless both files are whole.
  filter_there : (joined_kind (header f).kind (header g).kind ≡ 0 → ⊥) → filter_least ≤ max (header f).filter (header g).filter
  filter_there n =
      split (eqb (header f).kind 0)
      (λ t. split (eqb (header g).kind 0)
      (λ u. absurd (n (sym (kind_whole (header f).kind (header g).kind (eqb-true (header f).kind 0 t) (eqb-true (header g).kind 0 u)))))
      (λ u. omega (arith, (w.reduced (eqb-false (header g).kind 0 u)).0)))
      (λ t. omega (arith, (v.reduced (eqb-false (header f).kind 0 t)).0))

  -- The joined header keeps the rules, where the items are not too many.
  facts_joined : {room : ℕ} → Joinable f g room → Facts (joined_header f g)
  unfolding joined_header
  facts_joined a = record {
    few = a.few;
    within = omega (arith, v.within, w.within);
    kinds = kind_range (header f).kind (header g).kind;
    whole = λ z.
        let (p, q) = kind_both (header f).kind (header g).kind z in
        let (r, s) = v.whole p in
        let (t, u) = w.whole q in
        (omega arith, omega arith);
    reduced = λ n. (
      filter_there n,
      omega (arith, filter_most_lem (header f) v, filter_most_lem (header g) w),
      λ z.
          let p = none_there (header f) v (omega arith) in
          let q = none_there (header g) w (omega arith) in
          omega arith,
    );
  }

-- ---- the file

-- What a sound file of bytes says.
says : (f : List ℕ) → AreBytes f → verdict f ≡ Sound → Says f (header f)
says f bytes s = is_determined f (header f) bytes (sym (check_sound f refl s refl))

-- The header and the items written keep the rules.
joined-allowed : (f g : List ℕ) (room : ℕ) → AreBytes f → AreBytes g → judged f g room ≡ Passed → Allowed (joined_header f g) (items f ++ items g)
joined-allowed f g room x y e =
    let a = passed_joinable f g room e in
    let p = (says f x a.first_sound).keeps_rules in
    let q = (says g y a.second_sound).keeps_rules in
    let v = allowed_facts (header f) p.header-allowed in
    let w = allowed_facts (header g) q.header-allowed in
    record {
      header-allowed = facts_allowed (joined_header f g) (facts_joined f g v w a);
      references_fit = unfold joined_header in omega (arith, a.references_few);
      counted = unfold joined_header in rw length-append (omega (arith, p.counted, q.counted));
      items_fit = all_append ItemFits (items f) (items g) p.items_fit q.items_fit;
      rising = rising_joined f g p.rising q.rising a.meets;
    }

-- The written file is accepted, and says the items of the first file and then of the second.
pub writes_joined : WritesJoined
unfolding joined_file decode
writes_joined f g room x y e =
    let a = joined-allowed f g room x y e in
    record {
      accepted = is_taken (joined_header f g) (items f ++ items g) a;
      items_are = ap (λ (t : Trace). t.items) (reads_back (joined_header f g) (items f ++ items g) a);
    }
