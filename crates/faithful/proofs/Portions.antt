-- The files of a recording, and the files that they are reduced to. Assumes nothing.
use Prim.Native.Nat.{ℕ, ◌≤◌}
use mathlib.Core.Path.{◌≡◌, refl, sym}
use mathlib.Core.Bool.{Bool, true, false}
use mathlib.Core.List.{List, [], ◌∷◌, ◌++◌, map}
use native.Mathlib.Omega.{arith}
use lib.ListN.{length, length-append}
use Rattle.pages.specs.Rows.{All, cons_if, flat}
use Rattle.pages.specs.Pages.{add}
use Rattle.trace.specs.Layout.{header, items}
use Rattle.trace.specs.Rules.{Rising}
use Rattle.trace.specs.Promises.{IsFile}
use Rattle.trace.specs.declared.Item.{Item}
use Rattle.trace.specs.Verdict.{Sound}
use Rattle.trace.proofs.Accepted.{accepted_header, accepted_count, accepted_facts}
use Rattle.trace.proofs.Append.{rising_earlier}
use Rattle.trace.proofs.Checking.{accepted_verdict}
use Rattle.trace.proofs.Octets.{octets_file}
use Rattle.epochs.specs.Epochs.{epochs}
use Rattle.epochs.specs.Keep.{keeps, settle, owe, marked, reduce}
use Rattle.epochs.specs.declared.Mode.{Mode}
use Rattle.epochs.proofs.Greedy.{epochs_trace}
use Rattle.epochs.proofs.Order.{reduce-length}
use Rattle.slim.specs.Reduce.{mode_of, kept_of, reduced_header, reduced_file, reduce_verdict}
use Rattle.slim.proofs.Reducing.{reducible_sound, answer_is, out_is}
use Rattle.slim.proofs.Accepted.{writes_reduced}
use Rattle.join.specs.Trees.{items_of_all, largest, total, header_of_all}
use Rattle.faithful.specs.Parts.{Part, recorded, reduced, Sizes}
use Rattle.faithful.specs.Demand3.{Portion, IsPortion, short, AllAtMost, Reduces}

-- What a portion is on items.
pub part : Portion → Part
part p = record { mode = mode_of p.mode; size = p.size; items = items p.file }

-- ---- one portion

module _ (p : Portion) (a : IsPortion p) where
  -- With room for the file its reduction is not refused.
  reducible : (room : ℕ) → length p.file ≤ room → reduce_verdict p.file p.mode p.size room ≡ Sound
  reducible room fits = reducible_sound p.file p.mode p.size room (record {
    file_sound = accepted_verdict p.file (header p.file) a.is_file.accepted;
    mode_is = a.either_mode;
    least = a.least;
    most = a.most;
    whole = a.kind_0;
    fits = fits;
  })

  reduces : Reduces p
  unfolding short
  reduces = record {
    answers = λ out fits. sym (answer_is p.file p.mode p.size out (reducible (length out) fits));
    writes = λ out fits. sym (out_is p.file p.mode p.size out (reducible (length out) fits));
  }

  -- What is written is a file, with the reduced header and the items that are kept.
  short_is : IsFile (short p) × (header (short p) ≡ reduced_header p.file p.mode p.size) × (items (short p) ≡ reduce (mode_of p.mode) p.size (items p.file))
  unfolding short reduced_file
  short_is =
      let w = writes_reduced p.file p.mode p.size (length p.file) a.is_file.bytes (reducible (length p.file) (omega arith)) in
      let h = accepted_header (short p) (reduced_header p.file p.mode p.size) w.accepted in
      (record { bytes = octets_file (reduced_header p.file p.mode p.size) _; accepted = rw h w.accepted }, h, w.items_are)

-- ---- all of them

pub all_reduce : (ps : List Portion) → All IsPortion ps → All Reduces ps
all_reduce [] a = tt
all_reduce (p ∷ ps) a = (reduces p a.0, all_reduce ps a.1)

pub short-files : (ps : List Portion) → All IsPortion ps → All IsFile (map short ps)
short-files [] a = tt
short-files (p ∷ ps) a = ((short_is p a.0).0, short-files ps a.1)

-- Their items are the parts reduced, one after the other.
pub short-items : (ps : List Portion) → All IsPortion ps → items_of_all (map short ps) ≡ reduced (map part ps)
unfolding flat part reduced
short-items [] a = refl
short-items (p ∷ ps) a = rw ((short_is p a.0).2, short-items ps a.1)

-- The items of the files are the parts, one after the other.
pub portion_items : (ps : List Portion) → recorded (map part ps) ≡ flat (map (λ (p : Portion). items p.file) ps)
unfolding flat part recorded
portion_items [] = refl
portion_items (p ∷ ps) = rw (portion_items ps)

-- ---- times

-- The row u is t without some of its items, whatever the marks of the others.
data Left : List Item → List Item → Type 0 where
  none : Left [] []
  keep : {i j : Item} {u t : List Item} → j.time ≡ i.time → Left u t → Left (j ∷ u) (i ∷ t)
  skip : {i : Item} {u t : List Item} → Left u t → Left u (i ∷ t)

left_append : {u t v w : List Item} → Left u t → Left v w → Left (u ++ v) (t ++ w)
left_append none q = q
left_append (keep e p) q = keep e (left_append p q)
left_append (skip p) q = skip (left_append p q)

left_if : (b : Bool) (i j : Item) {u t : List Item} → j.time ≡ i.time → Left u t → Left (cons_if b j u) (i ∷ t)
left_if true i j e p = keep e p
left_if false i j e p = skip p

-- An epoch is left so,
marked_left : (m : Mode) (seen owed : List ℕ) (e : List Item) → Left (marked m seen owed e) e
unfolding marked settle
marked_left m seen owed [] = none
marked_left m seen owed (i ∷ e) = left_if (keeps m seen i e) i (settle owed i e) refl (marked_left m (add i.page seen) (owe (keeps m seen i e) i owed) e)

epochs_left : (m : Mode) (es : List (List Item)) → Left (flat (map (marked m [] []) es)) (flat es)
unfolding flat
epochs_left m [] = none
epochs_left m (e ∷ es) = left_append (marked_left m [] [] e) (epochs_left m es)

reduce_left : (m : Mode) (B : ℕ) (t : List Item) → Left (reduce m B t) t
unfolding reduce
reduce_left m B t = rw (epochs_trace B t) at (epochs_left m (epochs B t))

-- and so are parts, one after the other;
parts_left : (ps : List Part) → Left (reduced ps) (recorded ps)
unfolding flat reduced recorded
parts_left [] = none
parts_left (p ∷ ps) = left_append (reduce_left p.mode p.size p.items) (parts_left ps)

left_rising : {u t : List Item} → Left u t → (from : ℕ) → Rising from t → Rising from u
left_rising none from r = tt
left_rising (keep {i} e p) from r = rw e (r.0, left_rising p i.time r.1)
left_rising (skip {t = t} p) from r = left_rising p from (rising_earlier r.0 t r.1)

-- so the times of parts reduced do not fall.
pub reduced_rising : (ps : List Part) → Rising 0 (recorded ps) → Rising 0 (reduced ps)
reduced_rising ps r = left_rising (parts_left ps) 0 r

-- ---- filters

pub portion_sizes : (K : ℕ) (ps : List Portion) → All IsPortion ps → AllAtMost K ps → Sizes K (map part ps)
unfolding part
portion_sizes K [] a l = tt
portion_sizes K (p ∷ ps) a l = ((a.0.least, l.0), portion_sizes K ps a.1 l.1)

-- The largest filter of the reduced files is at most K.
pub filter_at_most : (K : ℕ) (ps : List Portion) → All IsPortion ps → AllAtMost K ps → (header_of_all (map short ps)).filter ≤ K
unfolding header_of_all largest reduced_header
filter_at_most K [] a l = omega arith
filter_at_most K (p ∷ ps) a l = rw (short_is p a.0).1 (omega (arith, l.0, filter_at_most K ps a.1 l.1))

-- ---- counts

-- The reduced files together have no more items than the files have,
pub items_at_most : (ps : List Portion) → All IsPortion ps → (header_of_all (map short ps)).items ≤ length (recorded (map part ps))
unfolding header_of_all total reduced_header kept_of flat part recorded
items_at_most [] a = omega arith
items_at_most (p ∷ ps) a =
    rw ((short_is p a.0).1, length-append) (omega (arith, reduce-length (mode_of p.mode) p.size (items p.file), items_at_most ps a.1))

-- and as many references.
pub references_are : (ps : List Portion) → All IsPortion ps → (header_of_all (map short ps)).references ≡ length (recorded (map part ps))
unfolding header_of_all total reduced_header flat part recorded
references_are [] a = refl
references_are (p ∷ ps) a =
    let f = p.file in
    let e = a.0.is_file.accepted in
    let (_, same) = (accepted_facts f (header f) e).whole a.0.kind_0 in
    rw ((short_is p a.0).1, length-append) (omega (arith, accepted_count f (header f) e, references_are ps a.1))
