-- Which joins are refused, from the tests that the code makes. Assumes nothing.
use Prim.Native.Nat.{ℕ, ◌+◌, ◌-◌, ◌*◌, ◌≤◌, ◌<◌}
use mathlib.Core.Path.{◌≡◌, sym, ◌∙◌}
use mathlib.Core.Bool.{Bool, true, false}
use mathlib.Core.List.{List}
use native.Mathlib.Omega.{arith}
use lib.ListN.{length}
use lib.Dec.{ltb}
use borrow.Author.Tests.{lt-ltb, le-ltb}
use Rattle.limits.specs.Sizes.{between}
use Rattle.limits.proofs.Numbers.{items_least, items_most}
use Rattle.trace.specs.Layout.{header, item_at}
use Rattle.trace.specs.Refusals.{row, of_second}
use Rattle.trace.specs.Verdict.{first}
use Rattle.trace.specs.Check.{verdict}
use Rattle.trace.specs.declared.Item.{Item}
use Rattle.trace.specs.declared.Header.{Header}
use Rattle.trace.specs.declared.Reason.{Reason}
use Rattle.trace.specs.declared.Refusal.{Refusal}
use Rattle.trace.specs.Verdict.{Verdict}
use Rattle.trace.specs.Verdict.{Sound, Faulty}
use Rattle.trace.proofs.Checking.{sound_file}
use Rattle.join.specs.Join.{joined_header, meets_falling, too_large, join_tests, judged}
use Rattle.join.specs.Join.{Passed, Failed}

-- ---- reading a sound file

module _ (f : List ℕ) (s : verdict f ≡ Sound) where
  -- Its header can be read.
  pub header_there : 23 ≤ length f
  header_there = omega (arith, (sound_file f s).long)

  module _ {h : Header} (q : h ≡ header f) (n : h.items ≡ 0 → ⊥) where
    long : length f ≡ 23 + 19 * h.items
    long = rw q (sound_file f s).long

    -- So can its first item, where it has one.
    pub first_there : 23 + 19 * (0 + 1) ≤ length f
    first_there = omega (arith, long)

    -- And its last.
    pub last_there : 23 + 19 * (h.items - 1 + 1) ≤ length f
    last_there = omega (arith, long)

-- ---- where the two files meet

module _ (f g : List ℕ) {a : Header} (p : a ≡ header f) where
  -- The first file has no items.
  pub meets_none : a.items ≡ 0 → false ≡ meets_falling f g
  unfolding meets_falling
  meets_none z = rw (← p, z)

  module _ {b : Header} (q : b ≡ header g) (n : a.items ≡ 0 → ⊥) where
    some_first : ltb 0 (header f).items ≡ true
    some_first = rw (← p) (lt-ltb 0 a.items (omega arith))

    -- The second has none.
    pub meets_nothing : b.items ≡ 0 → false ≡ meets_falling f g
    unfolding meets_falling
    meets_nothing z = rw (some_first, ← q, z)

    -- Both have items, and their times decide.
    pub meets_times : (b.items ≡ 0 → ⊥) → {x y : Item} → x ≡ item_at g 0 → y ≡ item_at f (a.items - 1) → ltb x.time y.time ≡ meets_falling f g
    unfolding meets_falling
    meets_times m u v =
        let r : ltb 0 (header g).items ≡ true = rw (← q) (lt-ltb 0 b.items (omega arith)) in
        rw (some_first, r, u, v, p)

module _ (f g : List ℕ) {r : Bool} (q : r ≡ meets_falling f g) where
  -- The code finds times falling.
  pub falling : r ≡ true → meets_falling f g ≡ true
  falling t = sym q ∙ t

  -- It does not.
  pub not_falling : r ≡ false → meets_falling f g ≡ false
  not_falling t = sym q ∙ t

-- ---- the size of what is written

module _ (f g : List ℕ) {h : Header} (q : h ≡ joined_header f g) where
  -- There are too many items.
  pub large_items : between items_least items_most h.items ≡ false → too_large f g ≡ true
  unfolding too_large
  large_items f = rw (← q, f)

  module _ (i : between items_least items_most h.items ≡ true) where
    few : between items_least items_most (joined_header f g).items ≡ true
    few = rw (← q) i

    -- There are too many references.
    pub large_references : 4294967295 < h.references → too_large f g ≡ true
    unfolding too_large
    large_references l = rw (few, ← q) (lt-ltb 4294967295 h.references l)

    -- There are not.
    pub not_large : h.references ≤ 4294967295 → too_large f g ≡ false
    unfolding too_large
    not_large l = rw (few, ← q) (le-ltb 4294967295 h.references l)

  -- The output has room.
  pub room-there : {room : ℕ} → 23 + 19 * h.items ≤ room → ltb room (23 + 19 * (joined_header f g).items) ≡ false
  room-there {room} l = le-ltb room _ (rw (← q) l)

  -- It has not.
  pub no_room : {room : ℕ} → room < 23 + 19 * h.items → ltb room (23 + 19 * (joined_header f g).items) ≡ true
  no_room {room} l = lt-ltb room _ (rw (← q) l)

-- ---- one file after the other, and then both

module _ (f g : List ℕ) (room : ℕ) {v : Verdict} (e : v ≡ verdict f) where
  -- The first file is refused by itself.
  pub first-refused : {r : Reason} {a : Refusal} → v ≡ Faulty r → a ≡ row r → Failed a ≡ judged f g room
  unfolding judged
  first-refused q t = rw (← e, q, t, judged)

  module _ (s : v ≡ Sound) {w : Verdict} (u : w ≡ verdict g) where
    -- The second is.
    pub second_refused : {r : Reason} {a b : Refusal} → w ≡ Faulty r → a ≡ row r → b ≡ of_second a → Failed b ≡ judged f g room
    unfolding judged
    second_refused q t o = rw (← e, s, ← u, q, o, t, judged)

    module _ (p : w ≡ Sound) {x : Verdict} (d : x ≡ first (join_tests f g room)) where
      -- Both are sound, and the join is refused.
      pub both_refused : {r : Reason} {a : Refusal} → x ≡ Faulty r → a ≡ row r → Failed a ≡ judged f g room
      unfolding judged
      both_refused q t = rw (← e, s, ← u, p, ← d, q, t, judged)

      -- Nothing is refused.
      pub none_refused : x ≡ Sound → Passed ≡ judged f g room
      unfolding judged
      none_refused q = rw (← e, s, ← u, p, ← d, q, judged)

-- The verdict that the code holds is the file's.
pub is_sound : (f : List ℕ) {v : Verdict} → v ≡ verdict f → v ≡ Sound → verdict f ≡ Sound
is_sound f e s = sym e ∙ s
