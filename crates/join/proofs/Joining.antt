-- `join`, from its verdict and from what is copied. Assumes nothing.
use Prim.Native.Nat.{ℕ, ◌+◌, ◌-◌, ◌*◌, ◌^◌, ◌≤◌}
use mathlib.Core.Path.{◌≡◌, refl, sym, ◌∙◌}
use mathlib.Core.Bool.{true, false, not}
use mathlib.Core.List.{List, ◌++◌}
use native.Mathlib.Omega.{arith}
use lib.ListN.{length, length-append}
use lib.Seq.{sets}
use lib.Dec.{leb, ltb}
use borrow.Author.Tests.{leb-true, ltb-false, le-ltb, not-false}
use Rattle.limits.specs.Sizes.{between}
use Rattle.limits.proofs.Numbers.{items_least, items_most}
use Rattle.pages.specs.Rows.{over}
use Rattle.pages.proofs.Choice.{and_true, or_false}
use Rattle.trace.specs.Layout.{header, items_from, encode_header, encode_items}
use Rattle.trace.specs.Refusals.{row, of_second}
use Rattle.trace.specs.Verdict.{first}
use Rattle.trace.specs.Check.{verdict}
use Rattle.trace.specs.declared.Header.{Header}
use Rattle.trace.specs.declared.Refusal.{Refusal}
use Rattle.trace.specs.Verdict.{Verdict}
use Rattle.trace.specs.Verdict.{Sound}
use Rattle.trace.proofs.Allowed.{le_between}
use Rattle.trace.proofs.Sound.{first_passed, passed_first}
use Rattle.trace.proofs.Checking.{sound_file}
use Rattle.trace.proofs.Items.{items_from_lem, length_from}
use Rattle.trace.proofs.Output.{Wrote, wrote_then, wrote_file}
use Rattle.join.specs.Join.{joined_header, joined_file, meets_falling, too_large, join_tests, judged, join_answer, join_out}
use Rattle.join.specs.Join.{Judged}
use Rattle.join.specs.Join.{Passed, Failed}
use Rattle.std.specs.Prelude.{Ok, Err}

-- ---- what it says that a join is not refused

-- A join that is not refused: of two sound files, the second not before the end of the first, to an output with room.
pub record Joinable (f g : List ℕ) (room : ℕ) : Type 0 where
  pub first_sound : verdict f ≡ Sound
  pub second_sound : verdict g ≡ Sound
  pub meets : meets_falling f g ≡ false
  pub few : (header f).items + (header g).items ≤ items_most
  pub references_few : (header f).references + (header g).references ≤ 2 ^ 32 - 1
  pub fits : 23 + 19 * ((header f).items + (header g).items) ≤ room

-- Nothing is failed and passed.
not_both : (r : Refusal) → Failed r ≡ Passed → ⊥
not_both r e =
    let z : ◌≡◌ {A = ℕ} 0 1 = cc in
    omega arith

-- What three verdicts come to, one after the other: the first file's, the second's and the join's own.
abbrev in_turn : Verdict → Verdict → Verdict → Judged
in_turn u v w =
    elim u [
      | Err r ↦ Failed (row r)
      | Ok _ ↦ elim v [
        | Err r ↦ Failed (of_second (row r))
        | Ok _ ↦ elim w [
          | Err r ↦ Failed (row r)
          | Ok _ ↦ Passed
        ]
      ]
    ]

-- A join passes only where each of the three is sound.
all_sound : (u v w : Verdict) → in_turn u v w ≡ Passed → (u ≡ Sound) × (v ≡ Sound) × (w ≡ Sound)
all_sound (Ok _) (Ok _) (Ok _) e = (refl, refl, refl)
all_sound (Ok _) (Ok _) (Err r) e = absurd (not_both (row r) e)
all_sound (Ok _) (Err r) w e = absurd (not_both (of_second (row r)) e)
all_sound (Err r) v w e = absurd (not_both (row r) e)

-- And where each is, it passes.
sound_all : (u v w : Verdict) → u ≡ Sound → v ≡ Sound → w ≡ Sound → in_turn u v w ≡ Passed
sound_all u v w p q r = rw (p, q, r)

-- The sizes that are not too large.
sizes : (f g : List ℕ) → too_large f g ≡ false → ((header f).items + (header g).items ≤ items_most) × ((header f).references + (header g).references ≤ 2 ^ 32 - 1)
unfolding too_large joined_header
sizes f g e =
    let n = (header f).items + (header g).items in
    let r = (header f).references + (header g).references in
    let (a, b) = or_false (not (between items_least items_most n)) (ltb (2 ^ 32 - 1) r) e in
    let (_, most) = and_true (leb items_least n) (leb n items_most) (not-false (between items_least items_most n) a) in
    (leb-true n items_most most, ltb-false (2 ^ 32 - 1) r b)

-- What is known of a join that is not refused.
pub passed_joinable : (f g : List ℕ) (room : ℕ) → judged f g room ≡ Passed → Joinable f g room
unfolding judged joined_header
passed_joinable f g room e =
    let (a, b, d) = all_sound (verdict f) (verdict g) (first (join_tests f g room)) e in
    let passed = first_passed (join_tests f g room) d in
    let (few, references) = sizes f g (search passed) in
    record {
      first_sound = a;
      second_sound = b;
      meets = search passed;
      few = few;
      references_few = references;
      fits = ltb-false room (23 + 19 * ((header f).items + (header g).items)) (search passed);
    }

-- And such a join is not refused.
pub joinable_passed : (f g : List ℕ) (room : ℕ) → Joinable f g room → judged f g room ≡ Passed
unfolding judged joined_header too_large
joinable_passed f g room a =
    let n = (header f).items + (header g).items in
    let few : between items_least items_most n ≡ true = le_between items_least items_most n (omega arith) a.few in
    let large : too_large f g ≡ false = rw few (le-ltb (2 ^ 32 - 1) ((header f).references + (header g).references) a.references_few) in
    let own : first (join_tests f g room) ≡ Sound = passed_first (join_tests f g room) (search le-ltb) in
    sound_all (verdict f) (verdict g) (first (join_tests f g room)) a.first_sound a.second_sound own

-- ---- writing the file

module _ (f g out : List ℕ) (v : judged f g (length out) ≡ Passed) where
  able : Joinable f g (length out)
  able = passed_joinable f g (length out) v

  first_is : length f ≡ 23 + 19 * (header f).items
  first_is = (sound_file f able.first_sound).long

  second_is : length g ≡ 23 + 19 * (header g).items
  second_is = (sound_file g able.second_sound).long

  -- The first header can be read.
  pub joining-first : 23 ≤ length f
  joining-first = omega (arith, first_is)

  -- And the second.
  pub joining_second : 23 ≤ length g
  joining_second = omega (arith, second_is)

  -- And the header written.
  pub joining_room : (mid next : List ℕ) → length mid ≡ length out → length next ≡ length mid → 23 ≤ length next
  joining_room mid next d e = omega (arith, able.fits)

  -- So can the items of the first file,
  pub joining_reads : 23 + 19 * (header f).items ≤ length f
  joining_reads = omega (arith, first_is)

  -- and of the second.
  pub joining_reads_more : 23 + 19 * (header g).items ≤ length g
  joining_reads_more = omega (arith, second_is)

  module _ {n m : ℕ} (p : n ≡ (header f).items) (q : m ≡ (header g).items) where
    -- Those of the first can be written,
    pub joining_fits : 23 + 19 * (0 + n) ≤ length out
    joining_fits = rw p (omega (arith, able.fits))

    -- and those of the second behind them.
    pub joining_fits_more : (next : List ℕ) → length next ≡ length out → 23 + 19 * (n + m) ≤ length next
    joining_fits_more next e = rw (p, q) (omega (arith, able.fits))

    -- The output holds the file.
    pub joining_file : {h : Header} → h ≡ joined_header f g → {mid next last : List ℕ} → mid ≡ sets out (23 + 19 * 0) (encode_items (items_from f 0 n))
        → next ≡ sets mid (23 + 19 * n) (encode_items (items_from g 0 m)) → last ≡ sets next 0 (encode_header h) → last ≡ over (joined_file f g) out
    unfolding joined_file
    joining_file {h = h} d {mid = mid} {next = next} a b l =
        let s = items_from f 0 n in
        let t = items_from g 0 m in
        let u : Wrote 0 s out mid = record { bytes_are = a } in
        let w : Wrote n t mid next = record { bytes_are = b } in
        let both : Wrote 0 (s ++ t) out next = wrote_then u (omega (arith, length_from f 0 n)) w in
        let room : 23 + 19 * length (s ++ t) ≤ length out = rw (length-append, length_from f 0, length_from g 0, p, q) able.fits in
        wrote_file h both room l ∙ rw (d, p, q, ← items_from_lem f, ← items_from_lem g)

-- ---- the answer

module _ (f g out : List ℕ) {v : Judged} (e : v ≡ judged f g (length out)) where
  -- The verdict is the code's.
  pub joining_passed : v ≡ Passed → judged f g (length out) ≡ Passed
  joining_passed s = sym e ∙ s

  module _ {r : Refusal} (q : v ≡ Failed r) where
    -- A refusal is told.
    pub join_refused : Err r ≡ join_answer f g (length out)
    unfolding join_answer
    join_refused = rw (← e, q, join_answer)

    -- And changes nothing.
    pub join_kept : out ≡ join_out f g out
    unfolding join_out
    join_kept = rw (← e, q, join_out)

  module _ (s : v ≡ Passed) where
    -- The header of what is written.
    pub join_written : {h : Header} → h ≡ joined_header f g → Ok h ≡ join_answer f g (length out)
    unfolding join_answer
    join_written q = rw (← e, s, q, join_answer)

    -- And the file.
    pub join_file : {new : List ℕ} → new ≡ over (joined_file f g) out → new ≡ join_out f g out
    unfolding join_out
    join_file q = rw (← e, s, q, join_out)
