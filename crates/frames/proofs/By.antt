-- Frames of pages whose marks are told page by page. Assumes nothing.
use Prim.Native.Nat.{ℕ, suc, ◌<◌}
use mathlib.Core.Path.{◌≡◌, refl, sym, ap, ◌∙◌}
use mathlib.Core.Bool.{Bool, true, false, false≢true}
use mathlib.Core.List.{List, [], ◌∷◌, map, drop_last, get_last?}
use mathlib.Core.Option.{some}
use native.Mathlib.Omega.{arith}
use lib.ListN.{length, get_or}
use lib.Dec.{eqb}
use borrow.Author.Tests.{eq-eqb}
use Rattle.pages.specs.Pages.{has, remove}
use Rattle.pages.proofs.Choice.{split, same}
use Rattle.frames.specs.Frames.{framed, pages_of, marks_of, frames_of, frames_by, dirty, taken}
use Rattle.frames.specs.declared.Frame.{Frame}

-- ---- their columns

pub pages_by : (w : ℕ → Bool) (ps : List ℕ) → pages_of (frames_by w ps) ≡ ps
pages_by w [] = refl
pages_by w (p ∷ ps) = ap (λ (l : List ℕ). p ∷ l) (pages_by w ps)

pub marks_by : (w : ℕ → Bool) (ps : List ℕ) → marks_of (frames_by w ps) ≡ map w ps
marks_by w [] = refl
marks_by w (p ∷ ps) = ap (λ (l : List Bool). w p ∷ l) (marks_by w ps)

-- Marks that are the same at each of the pages make the same frames.
pub by_same : (w v : ℕ → Bool) (ps : List ℕ) → ((p : ℕ) → has p ps ≡ true → w p ≡ v p) → frames_by w ps ≡ frames_by v ps
unfolding has
by_same w v [] h = refl
by_same w v (q ∷ ps) h =
    rw (h q (rw (eq-eqb q q refl)), by_same w v ps (λ p g. h p (split (eqb p q) (λ e. rw e) (λ e. rw (e, g)))))

-- Two columns are the frames that are told so, place by place.
pub by_columns : (w : ℕ → Bool) (ps : List ℕ) (ws : List Bool) → length ws ≡ length ps
    → ((j : ℕ) → j < length ps → w (get_or ps j 0) ≡ get_or ws j false) → frames_by w ps ≡ frames_of ps ws
unfolding frames_of
by_columns w [] ws e h = refl
by_columns w (p ∷ ps) [] e h = absurd (omega (arith, e))
by_columns w (p ∷ ps) (x ∷ ws) e h =
    let z : w p ≡ x = h 0 (omega arith) in
    let t = by_columns w ps ws (omega (arith, e)) (λ j g. h (suc j) (omega arith)) in
    rw z (ap (λ (l : List Frame). framed p x ∷ l) t)

-- ---- a page's frame

module _ (w : ℕ → Bool) (p : ℕ) where
  pub dirty_by : (ps : List ℕ) → has p ps ≡ true → dirty p (frames_by w ps) ≡ w p
  unfolding has dirty
  dirty_by [] h = absurd (false≢true h)
  dirty_by (q ∷ ps) h = split (eqb p q) (λ e. rw (e, same p q e)) (λ e. rw e (dirty_by ps (rw e at h)))

  pub taken_by : (ps : List ℕ) → taken p (frames_by w ps) ≡ frames_by w (remove p ps)
  unfolding taken remove
  taken_by [] = refl
  taken_by (q ∷ ps) = split (eqb p q) (λ e. rw e) (λ e. rw e (ap (λ (l : List Frame). framed q (w q) ∷ l) (taken_by ps)))

-- A page that is in no frame was not written, and nothing is taken out for it.
pub dirty_absent : (p : ℕ) (fs : List Frame) → has p (pages_of fs) ≡ false → dirty p fs ≡ false
unfolding has dirty
dirty_absent p [] h = refl
dirty_absent p (f ∷ fs) h = split (eqb p f.page) (λ e. absurd (false≢true (sym h ∙ rw e))) (λ e. rw e (dirty_absent p fs (rw e at h)))

pub taken_absent : (p : ℕ) (fs : List Frame) → has p (pages_of fs) ≡ false → taken p fs ≡ fs
unfolding has taken
taken_absent p [] h = refl
taken_absent p (f ∷ fs) h =
    split (eqb p f.page) (λ e. absurd (false≢true (sym h ∙ rw e))) (λ e. rw e (ap (λ (l : List Frame). f ∷ l) (taken_absent p fs (rw e at h))))

-- ---- the last frame

pub init_by : (w : ℕ → Bool) (ps : List ℕ) → drop_last (frames_by w ps) ≡ frames_by w (drop_last ps)
init_by w [] = refl
init_by w (p ∷ []) = refl
init_by w (p ∷ q ∷ ps) = ap (λ (l : List Frame). framed p (w p) ∷ l) (init_by w (q ∷ ps))

pub last_by : (w : ℕ → Bool) (ps : List ℕ) {p : ℕ} → get_last? ps ≡ some p → get_last? (frames_by w ps) ≡ some (framed p (w p))
last_by w [] e = cc
last_by w (q ∷ []) {p} e = let z : q ≡ p = cc in rw z
last_by w (q ∷ r ∷ ps) e = last_by w (r ∷ ps) e
