-- Trees of joins: none is refused within the limits, and what one comes to is the same in any bracketing. Assumes nothing.
use Prim.Native.Nat.{ℕ, ◌+◌, ◌*◌, ◌≤◌}
use mathlib.Core.Path.{◌≡◌, refl, sym, ◌∙◌}
use mathlib.Core.List.{List, ◌++◌, map, map-append}
use native.Mathlib.Omega.{arith}
use lib.ListN.{length}
use Rattle.limits.proofs.Numbers.{items_most}
use Rattle.pages.proofs.Rows.{all_parts, flat_append, flat_one}
use Rattle.trace.specs.Layout.{header, items}
use Rattle.trace.specs.Rules.{Rising}
use Rattle.trace.specs.Promises.{IsFile}
use Rattle.trace.proofs.Accepted.{accepted_header, accepted_long, accepted_facts, is_determined, same_file}
use Rattle.trace.proofs.Append.{rising_parts}
use Rattle.trace.proofs.Checking.{accepted_verdict}
use Rattle.trace.proofs.Octets.{octets_file}
use Rattle.join.specs.Join.{joined_header, joined_file, judged}
use Rattle.join.specs.Trees.{Tree, files, joined, items_of_all, SumsFit, Joins, header_of_all, IsJoinedTree, JoinsTrees, SumsAreEnough, JoinsAssociate}
use Rattle.join.specs.Trees.Tree.{one, both}
use Rattle.join.specs.Join.{Passed}
use Rattle.join.proofs.Joining.{joinable_passed, join_written, join_file}
use Rattle.join.proofs.Meeting.{joined_rising}
use Rattle.join.proofs.Accepted.{writes_joined}
use Rattle.join.proofs.Together.{header_one, header_both, items_together, references_together}

-- ---- two files

module _ (f g : List ℕ) (a : IsFile f) (b : IsFile g) (r : Rising 0 (items f ++ items g)) (s : SumsFit f g) where
  -- With room for the joined file the join is not refused.
  passes : (room : ℕ) → 23 + 19 * ((header f).items + (header g).items) ≤ room → judged f g room ≡ Passed
  passes room fits = joinable_passed f g room (record {
    first_sound = accepted_verdict f (header f) a.accepted;
    second_sound = accepted_verdict g (header g) b.accepted;
    meets = joined_rising f g r;
    few = s.items_few;
    references_few = s.references_few;
    fits = fits;
  })

  -- What is written is a file, with the joined header and both files' items.
  written : IsFile (joined_file f g) × (header (joined_file f g) ≡ joined_header f g) × (items (joined_file f g) ≡ items f ++ items g)
  unfolding joined_file
  written =
      let room = 23 + 19 * ((header f).items + (header g).items) in
      let w = writes_joined f g room a.bytes b.bytes (passes room (omega arith)) in
      let h = accepted_header (joined_file f g) (joined_header f g) w.accepted in
      (record { bytes = octets_file (joined_header f g) _; accepted = rw h w.accepted }, h, w.items_are)

  -- It is as long as its items say.
  long : length (joined_file f g) ≡ 23 + 19 * ((header f).items + (header g).items)
  unfolding joined_header
  long =
      let (w, h, _) = written in
      rw h at (accepted_long (joined_file f g) (header (joined_file f g)) w.accepted)

  -- So no join of the two is refused that has room for it.
  joins : Joins f g
  joins = record {
    answers = λ out fits. sym (join_written f g out refl (passes (length out) (omega (arith, long))) refl);
    writes = λ out fits. sym (join_file f g out refl (passes (length out) (omega (arith, long))) refl);
  }

-- ---- rows of files

items_both : (fs gs : List (List ℕ)) → items_of_all (fs ++ gs) ≡ items_of_all fs ++ items_of_all gs
items_both fs gs = rw (map-append items fs gs, flat_append (map items fs) (map items gs))

-- ---- trees

-- A file by itself.
tree_one : (f : List ℕ) → IsFile f → IsJoinedTree (one f)
unfolding files joined
tree_one f a = record {
  all_join = tt;
  is_file = a;
  header_is = header_one f (accepted_facts f (header f) a.accepted);
  items_are = sym (flat_one (items f));
}

-- Two trees, whose files' times do not fall, with sums that fit.
tree_both : (l r : Tree) → IsJoinedTree l → IsJoinedTree r → Rising 0 (items_of_all (files l ++ files r)) → SumsFit (joined l) (joined r) → IsJoinedTree (both l r)
unfolding files joined
tree_both l r a b up s =
    let both_items : items (joined l) ++ items (joined r) ≡ items_of_all (files l ++ files r) = rw (a.items_are, b.items_are, items_both (files l) (files r)) in
    let rises : Rising 0 (items (joined l) ++ items (joined r)) = rw both_items up in
    let (w, h, i) = written (joined l) (joined r) a.is_file b.is_file rises s in
    record {
      all_join = (joins (joined l) (joined r) a.is_file b.is_file rises s, a.all_join, b.all_join);
      is_file = w;
      header_is = h ∙ header_both (files l) (files r) (joined l) (joined r) a.header_is b.header_is;
      items_are = i ∙ both_items;
    }

-- ---- the promises

-- Files joined in any bracketing within the limits.
pub joins_trees : JoinsTrees
unfolding files
joins_trees (one f) a up w = tree_one f a.0
joins_trees (both l r) a up w =
    let (p, q) = all_parts IsFile (files l) (files r) a in
    let (u, v) = rising_parts 0 (items_of_all (files l)) (items_of_all (files r)) (rw (items_both (files l) (files r)) at up) in
    tree_both l r (joins_trees l p u w.1) (joins_trees r q v w.2) up w.0

-- Sums of some of the files are no larger than those of all.
pub sums_enough : SumsAreEnough
unfolding files
sums_enough (one f) a up n m = tt
sums_enough (both l r) a up n m =
    let (p, q) = all_parts IsFile (files l) (files r) a in
    let (u, v) = rising_parts 0 (items_of_all (files l)) (items_of_all (files r)) (rw (items_both (files l) (files r)) at up) in
    let i = items_together (files l) (files r) in
    let j = references_together (files l) (files r) in
    let x = sums_enough l p u (omega arith) (omega arith) in
    let y = sums_enough r q v (omega arith) (omega arith) in
    let a = joins_trees l p u x in
    let b = joins_trees r q v y in
    (record { items_few = rw (a.header_is, b.header_is) (omega arith); references_few = rw (a.header_is, b.header_is) (omega arith) }, x, y)

-- The same files in the same order, in any two bracketings.
pub joins_associate : JoinsAssociate
joins_associate s t e a up w =
    let j = joins_trees s a up w in
    let f = joined s in
    let few : (header f).items ≤ items_most = (accepted_facts f (header f) j.is_file.accepted).few in
    let fit = (is_determined f (header f) j.is_file.bytes j.is_file.accepted).keeps_rules.references_fit in
    let h : header f ≡ header_of_all (files t) = rw e at j.header_is in
    let x = sums_enough t (rw e at a) (rw e at up) (rw (← h) few) (rw (← h) (omega arith)) in
    let k = joins_trees t (rw e at a) (rw e at up) x in
    let same : header (joined t) ≡ header f = k.header_is ∙ sym h in
    let items_same : items f ≡ items (joined t) = j.items_are ∙ rw e (sym k.items_are) in
    (x, same_file f (joined t) (header f) j.is_file.bytes k.is_file.bytes j.is_file.accepted (rw same at k.is_file.accepted) items_same)
