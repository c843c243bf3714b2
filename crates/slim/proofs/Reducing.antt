-- `reduce`, from its verdict and from what the passes leave. Assumes nothing.
use Prim.Native.Nat.{ℕ, ◌+◌, ◌*◌, ◌≤◌, ◌<◌}
use mathlib.Core.Path.{◌≡◌, refl, sym, ◌∙◌}
use mathlib.Core.Bool.{true, false}
use mathlib.Core.List.{List}
use native.Mathlib.Omega.{arith}
use lib.ListN.{length}
use lib.Seq.{sets}
use lib.Dec.{leb, eqb}
use borrow.Author.Tests.{leb-true, ltb-false, le-ltb, eqb-true, eq-eqb, not-false}
use Rattle.limits.specs.Sizes.{between}
use Rattle.limits.proofs.Numbers.{filter_least, filter_most}
use Rattle.pages.specs.Rows.{over}
use Rattle.pages.proofs.Choice.{and_true}
use Rattle.trace.specs.Layout.{header, items_from, encode_header, encode_items}
use Rattle.trace.specs.Refusals.{row}
use Rattle.trace.specs.Verdict.{first, ◌then◌}
use Rattle.trace.specs.Check.{verdict}
use Rattle.trace.specs.Promises.{AreBytes}
use Rattle.trace.specs.declared.Header.{Header}
use Rattle.trace.specs.declared.Reason.{Reason}
use Rattle.trace.specs.declared.Refusal.{Refusal}
use Rattle.trace.specs.Verdict.{Verdict}
use Rattle.trace.specs.Verdict.{Sound, Faulty}
use Rattle.trace.proofs.Allowed.{le_between}
use Rattle.trace.proofs.Sound.{first_passed, passed_first, then_both, both_then, elim_then}
use Rattle.trace.proofs.Checking.{sound_file}
use Rattle.trace.proofs.Tests.{holds}
use Rattle.trace.proofs.Items.{items_from_lem, length_from}
use Rattle.trace.proofs.Output.{Wrote, wrote_file}
use Rattle.filter.specs.Filter.{Clear}
use Rattle.epochs.specs.Keep.{reduce}
use Rattle.epochs.specs.declared.Mode.{Mode}
use Rattle.epochs.proofs.Order.{reduce-length}
use Rattle.slim.specs.Passes.{CanSlim}
use Rattle.slim.specs.Reduce.{is_mode, mode_of, kept_of, reduced_header, reduced_file, falls, reduce_tests, reduce_verdict, mode_judged, reduce_answer, reduce_out}
use Rattle.std.specs.Prelude.{Result, Ok, Err}
use Rattle.epochs.specs.Modes.{number_of}
use Rattle.slim.proofs.Judging.{number_back, flag_rising}

-- ---- what a sound verdict says

-- A reduction that is not refused: of a sound whole file, in a mode, with a filter size, to an output with room.
pub record Reducible (f : List ℕ) (mode size room : ℕ) : Type 0 where
  pub file_sound : verdict f ≡ Sound
  pub mode_is : is_mode mode ≡ true
  pub least : filter_least ≤ size
  pub most : size ≤ filter_most
  pub whole : (header f).kind ≡ 0
  pub fits : length f ≤ room

pub reduce_then : (f : List ℕ) (mode size room : ℕ) → reduce_verdict f mode size room ≡ (verdict f then first (reduce_tests f mode size room))
unfolding reduce_verdict
reduce_then f mode size room = elim_then (verdict f) (first (reduce_tests f mode size room))

pub sound_reducible : (f : List ℕ) (mode size room : ℕ) → reduce_verdict f mode size room ≡ Sound → Reducible f mode size room
sound_reducible f mode size room e =
    let (v, w) = then_both (verdict f) (first (reduce_tests f mode size room)) (sym (reduce_then f mode size room) ∙ e) in
    let passed = first_passed (reduce_tests f mode size room) w in
    let (a, b) = and_true (leb filter_least size) (leb size filter_most) (not-false (between filter_least filter_most size) (search passed)) in
    record {
      file_sound = v;
      mode_is = not-false (is_mode mode) (search passed);
      least = leb-true filter_least size a;
      most = leb-true size filter_most b;
      whole = eqb-true (header f).kind 0 (not-false (eqb (header f).kind 0) (search passed));
      fits = ltb-false room (length f) (search passed);
    }

-- And such a reduction is not refused: its kept items' times do not fall.
pub reducible_sound : (f : List ℕ) (mode size room : ℕ) → Reducible f mode size room → reduce_verdict f mode size room ≡ Sound
reducible_sound f mode size room a =
    let b : between filter_least filter_most size ≡ true = le_between filter_least filter_most size a.least a.most in
    let k : eqb (header f).kind 0 ≡ true = eq-eqb (header f).kind 0 a.whole in
    let t : falls 0 (kept_of f mode size) ≡ false = flag_rising f mode size refl a.file_sound in
    reduce_then f mode size room
    ∙ both_then (verdict f) (first (reduce_tests f mode size room)) a.file_sound
    (passed_first (reduce_tests f mode size room) (search (holds, le-ltb)))

-- ---- writing the file

module _ (f : List ℕ) (mode size : ℕ) {h : Header} (q : h ≡ header f) {m : Mode} (d : m ≡ mode_of mode) where
  kept_is : reduce m size (items_from f 0 h.items) ≡ kept_of f mode size
  unfolding kept_of
  kept_is = rw (d, q, items_from_lem f)

  -- The header is as it should be.
  pub reducing_header : {n : ℕ} → n ≡ length (reduce m size (items_from f 0 h.items))
      → ◌≡◌ {A = Header} (record { kind = mode; filter = size; references = h.references; items = n }) (reduced_header f mode size)
  unfolding reduced_header
  reducing_header c = rw (c, kept_is, q)

module _ (f : List ℕ) (mode size : ℕ) (out : List ℕ) (v : reduce_verdict f mode size (length out) ≡ Sound) where
  able : Reducible f mode size (length out)
  able = sound_reducible f mode size (length out) v

  long : length f ≡ 23 + 19 * (header f).items
  long = (sound_file f able.file_sound).long

  -- The header can be read.
  pub reducing_long : 23 ≤ length f
  reducing_long = omega (arith, long)

  -- And written.
  pub reducing_room : (next : List ℕ) → length next ≡ length out → 23 ≤ length next
  reducing_room next e = omega (arith, long, able.fits)

  module _ {h : Header} (q : h ≡ header f) where
    long_is : length f ≡ 23 + 19 * h.items
    long_is = rw q long

    -- The passes may begin, with a filter that holds no page.
    pub reducing_slim : h.items < 4294967296 → AreBytes f → {file : List ℕ} → file ≡ f → {held : ℕ} → held ≡ 0 → {owed : List ℕ} → Clear 0 owed
        → CanSlim file h.items size held owed out
    reducing_slim c b e {held} z {owed} o =
        let a = able in
        rw e (record {
          file_long = omega (arith, long_is);
          count = c;
          some = a.least;
          few = a.most;
          empty = z;
          clear = o;
          octets = b;
          fits = omega (arith, long_is);
        })

    -- The output holds the file.
    pub reducing_file : {m : Mode} → m ≡ mode_of mode → {n : ℕ} → n ≡ length (reduce m size (items_from f 0 h.items))
        → {mid last : List ℕ} → mid ≡ sets out 23 (encode_items (reduce m size (items_from f 0 h.items)))
        → last ≡ sets mid 0 (encode_header (record { kind = mode; filter = size; references = h.references; items = n })) → last ≡ over (reduced_file f mode size) out
    unfolding reduced_file
    reducing_file {m} d {n} c o p =
        let t = reduce m size (items_from f 0 h.items) in
        let a = able in
        let w : Wrote 0 t out _ = record { bytes_are = o } in
        let room : 23 + 19 * length t ≤ length out = omega (arith, long_is, reduce-length m size (items_from f 0 h.items), length_from f 0 h.items) in
        wrote_file (record { kind = mode; filter = size; references = h.references; items = n }) w room p
        ∙ rw (reducing_header f mode size q d c, kept_is f mode size q d)

-- ---- the answer

-- What is told of a reduction with a mode, and of one that is refused.
mode_sound : (x : Mode) {m : Mode} (w : Verdict) → ◌≡◌ {A = Result Mode Reason} (elim w [ Ok _ ↦ Ok x | Err r ↦ Err r ]) (Ok m) → (w ≡ Sound) × (m ≡ x)
mode_sound x (Ok _) e = (refl, cc)
mode_sound x (Err r) e = let z : ◌≡◌ {A = ℕ} 0 1 = cc in absurd (omega arith)

err_faulty : (x : Mode) {r : Reason} (w : Verdict) → ◌≡◌ {A = Result Mode Reason} (elim w [ Ok _ ↦ Ok x | Err s ↦ Err s ]) (Err r) → w ≡ Faulty r
err_faulty x (Ok _) e = let z : ◌≡◌ {A = ℕ} 0 1 = cc in absurd (omega arith)
err_faulty x (Err s) e = cc

module _ (f : List ℕ) (mode size : ℕ) (out : List ℕ) (s : reduce_verdict f mode size (length out) ≡ Sound) where
  -- A reduction that is not refused answers the header, and writes the file.
  pub answer_is : Ok (reduced_header f mode size) ≡ reduce_answer f mode size (length out)
  unfolding reduce_answer
  answer_is = rw (s, reduce_answer)

  pub out_is : over (reduced_file f mode size) out ≡ reduce_out f mode size out
  unfolding reduce_out
  out_is = rw (s, reduce_out)

module _ (f : List ℕ) (mode size : ℕ) (out : List ℕ) {v : Result Mode Reason} (e : v ≡ mode_judged f mode size (length out)) where
  module _ {r : Reason} (q : v ≡ Err r) where
    faulty : reduce_verdict f mode size (length out) ≡ Faulty r
    faulty = err_faulty (mode_of mode) (reduce_verdict f mode size (length out)) (sym e ∙ q)

    -- A refusal is told,
    pub reduce-refused : {a : Refusal} → a ≡ row r → Err a ≡ reduce_answer f mode size (length out)
    unfolding reduce_answer
    reduce-refused t = rw (faulty, t, reduce_answer)

    -- and changes nothing.
    pub reduce-kept : out ≡ reduce_out f mode size out
    unfolding reduce_out
    reduce-kept = rw (faulty, reduce_out)

  module _ {m : Mode} (q : v ≡ Ok m) where
    sound : reduce_verdict f mode size (length out) ≡ Sound
    sound = (mode_sound (mode_of mode) (reduce_verdict f mode size (length out)) (sym e ∙ q)).0

    -- The mode's number is the one that is given.
    number : number_of m ≡ mode
    number = rw (mode_sound (mode_of mode) (reduce_verdict f mode size (length out)) (sym e ∙ q)).1 (number_back mode (sound_reducible f mode size (length out) sound).mode_is)

    -- So the file may be written,
    pub reducing_sound : reduce_verdict f (number_of m) size (length out) ≡ Sound
    reducing_sound = rw number sound

    -- with its header,
    pub reduce-written : {h : Header} → h ≡ reduced_header f (number_of m) size → Ok h ≡ reduce_answer f mode size (length out)
    reduce-written p = rw (p, number) (answer_is f mode size out sound)

    -- over the output's front.
    pub reduce_file : {new : List ℕ} → new ≡ over (reduced_file f (number_of m) size) out → new ≡ reduce_out f mode size out
    reduce_file p = rw (p, number) (out_is f mode size out sound)
