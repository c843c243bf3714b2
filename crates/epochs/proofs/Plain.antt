-- Which items are kept is a matter of pages: a trace without its marks is cut and kept in the same places, and its reduction has none. Assumes nothing.
use Prim.Native.Nat.{ℕ}
use mathlib.Core.Path.{◌≡◌, refl, sym, ap, ◌∙◌}
use mathlib.Core.Bool.{Bool, true, false}
use mathlib.Core.List.{List, [], ◌∷◌, map, map-append}
use lib.ListN.{length}
use lib.Dec.{leb}
use Rattle.pages.specs.Rows.{cons_if, flat}
use Rattle.pages.specs.Pages.{has, add}
use Rattle.pages.proofs.Choice.{split}
use Rattle.trace.specs.declared.Item.{Item}
use Rattle.epochs.specs.Epochs.{pages, Cut, goes_on, begins, cut, epochs}
use Rattle.epochs.specs.Keep.{is_first, is_last, phase, keeps, kept, chosen, reduce}
use Rattle.epochs.specs.English.{Alike, NoWrites, plain, MarksForgotten}
use Rattle.epochs.specs.declared.Mode.{Mode}
use Rattle.epochs.specs.declared.Mode.TheVariants.{FastSlim, Demand}
use Rattle.epochs.proofs.Marks.{marks_only, no_writes_no_marks}

-- A row without its marks.
abbrev bare : List Item → List Item
bare t = map plain t

pages_bare : (t : List Item) → pages (bare t) ≡ pages t
unfolding pages
pages_bare [] = refl
pages_bare (i ∷ t) = ap (◌∷◌ i.page) (pages_bare t)

-- ---- the epochs

cut_bare : (B : ℕ) (seen : List ℕ) (t : List Item) → cut B seen (bare t) ≡ record { here = bare (cut B seen t).here; later = map bare (cut B seen t).later }
unfolding cut
cut_bare B seen [] = refl
cut_bare B seen (i ∷ t) =
    split (leb (length (add i.page seen)) B)
    (λ e. rw (e, cut) (ap (goes_on (plain i)) (cut_bare B (add i.page seen) t)))
    (λ e. rw (e, cut) (ap (begins (plain i)) (cut_bare B (i.page ∷ []) t)))

epochs_bare : (B : ℕ) (t : List Item) → epochs B (bare t) ≡ map bare (epochs B t)
unfolding epochs
epochs_bare B t = ap (λ (c : Cut). c.here ∷ c.later) (cut_bare B [] t)

-- ---- what is kept of them

phase_bare : (seen : List ℕ) (e : List Item) → phase seen (bare e) ≡ bare (phase seen e)
unfolding phase is_first
phase_bare seen [] = refl
phase_bare seen (i ∷ e) = split (has i.page seen) (λ h. rw h (ap (◌∷◌ (plain i)) (phase_bare seen e))) (λ h. rw h)

keeps_bare : (m : Mode) (seen : List ℕ) (i : Item) (e : List Item) → keeps m seen (plain i) (bare e) ≡ keeps m seen i e
unfolding keeps is_first is_last
keeps_bare Demand seen i e = rw (pages_bare e)
keeps_bare FastSlim seen i e = rw (phase_bare (add i.page seen) e, pages_bare (phase (add i.page seen) e))

if_bare : (b : Bool) (i : Item) (u : List Item) → cons_if b (plain i) (bare u) ≡ bare (cons_if b i u)
if_bare true i u = refl
if_bare false i u = refl

kept_bare : (m : Mode) (seen : List ℕ) (e : List Item) → kept m seen (bare e) ≡ bare (kept m seen e)
unfolding kept
kept_bare m seen [] = refl
kept_bare m seen (i ∷ e) =
    rw (keeps_bare m seen i e, kept_bare m (add i.page seen) e) (if_bare (keeps m seen i e) i (kept m (add i.page seen) e))

flat_bare : (m : Mode) (es : List (List Item)) → flat (map (kept m []) (map bare es)) ≡ bare (flat (map (kept m []) es))
unfolding flat
flat_bare m [] = refl
flat_bare m (e ∷ es) = rw (kept_bare m [] e, flat_bare m es, map-append)

chosen_bare : (m : Mode) (B : ℕ) (t : List Item) → chosen m B (bare t) ≡ bare (chosen m B t)
unfolding chosen
chosen_bare m B t = rw (epochs_bare B t) (flat_bare m (epochs B t))

-- ---- the reduction

-- Rows that are alike are the same without their marks.
alike_bare : (u v : List Item) → Alike u v → bare u ≡ bare v
alike_bare [] [] a = refl
alike_bare [] (j ∷ v) a = absurd a
alike_bare (i ∷ u) [] a = absurd a
alike_bare (i ∷ u) (j ∷ v) a = rw (a.0, a.1, alike_bare u v a.2)

bare_writes : (t : List Item) → NoWrites (bare t)
bare_writes [] = tt
bare_writes (i ∷ t) = (refl, bare_writes t)

-- Without its marks, a reduction is that of the trace without marks.
pub marks_forgotten : MarksForgotten
marks_forgotten m B t =
    alike_bare (reduce m B t) (chosen m B t) (marks_only m B t) ∙ sym (chosen_bare m B t) ∙ sym (no_writes_no_marks m B (bare t) (bare_writes t))
