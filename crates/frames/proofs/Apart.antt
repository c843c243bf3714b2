-- Laws of frames: a page's mark and its frame in a list of two parts, and when two lists are the same. Assumes nothing.
use Prim.Native.Nat.{ℕ}
use mathlib.Core.Path.{◌≡◌, refl, sym, ap, ◌∙◌}
use mathlib.Core.Bool.{true, false, cond, false≢true}
use mathlib.Core.List.{List, [], ◌∷◌, ◌++◌, map-append}
use lib.Dec.{eqb}
use Rattle.pages.specs.Pages.{has, Distinct}
use Rattle.pages.proofs.Choice.{split, same, eqb_self, or_false}
use Rattle.frames.specs.Frames.{framed, pages_of, dirty, taken}
use Rattle.frames.specs.declared.Frame.{Frame}
use Rattle.frames.proofs.By.{dirty_absent}

pub pages-append : (a r : List Frame) → pages_of (a ++ r) ≡ pages_of a ++ pages_of r
pages-append a r = map-append (λ (f : Frame). f.page) a r

-- ---- a page's frame, and its mark

module _ (p : ℕ) where
  -- A page that is not in the front is looked for in the rest,
  pub taken-append : (a r : List Frame) → has p (pages_of a) ≡ false → taken p (a ++ r) ≡ a ++ taken p r
  unfolding has taken
  taken-append [] r h = refl
  taken-append (f ∷ a) r h = let z = or_false (eqb p f.page) (has p (pages_of a)) h in rw z.0 (ap (λ (l : List Frame). f ∷ l) (taken-append a r z.1))

  pub dirty-append : (a r : List Frame) → has p (pages_of a) ≡ false → dirty p (a ++ r) ≡ dirty p r
  unfolding has dirty
  dirty-append [] r h = refl
  dirty-append (f ∷ a) r h = let z = or_false (eqb p f.page) (has p (pages_of a)) h in rw z.0 (dirty-append a r z.1)

  -- and one that is, is found there.
  pub taken_append_left : (a r : List Frame) → has p (pages_of a) ≡ true → taken p (a ++ r) ≡ taken p a ++ r
  unfolding has taken
  taken_append_left [] r h = absurd (false≢true h)
  taken_append_left (f ∷ a) r h = split (eqb p f.page) (λ e. rw e) (λ e. rw e (ap (λ (l : List Frame). f ∷ l) (taken_append_left a r (rw e at h))))

  pub dirty_append_left : (a r : List Frame) → has p (pages_of a) ≡ true → dirty p (a ++ r) ≡ dirty p a
  unfolding has dirty
  dirty_append_left [] r h = absurd (false≢true h)
  dirty_append_left (f ∷ a) r h = split (eqb p f.page) (λ e. rw e) (λ e. rw e (dirty_append_left a r (rw e at h)))

  -- Without the frame of one page the others keep their marks.
  pub dirty-taken : (q : ℕ) → eqb q p ≡ false → (a : List Frame) → dirty q (taken p a) ≡ dirty q a
  unfolding dirty taken
  dirty-taken q n [] = refl
  dirty-taken q n (f ∷ a) =
      split (eqb p f.page)
      (λ e. rw (e, ← same p f.page e, n))
      (λ e. rw e (ap (cond (eqb q f.page) f.written) (dirty-taken q n a)))

-- ---- frames that are the same

-- Lists of the same distinct pages in the same order, each with the same mark, are the same.
pub frames_same : (a b : List Frame) → pages_of a ≡ pages_of b → Distinct (pages_of a) → ((q : ℕ) → dirty q a ≡ dirty q b) → a ≡ b
unfolding dirty
frames_same [] [] e d w = refl
frames_same [] (g ∷ b) e d w = cc
frames_same (f ∷ a) [] e d w = cc
frames_same (f ∷ a) (g ∷ b) e d w =
    let n : f.page ≡ g.page = cc in
    let h : pages_of a ≡ pages_of b = cc in
    let m : f.written ≡ g.written = rw (← n, eqb_self f.page) at (w f.page) in
    let t : a ≡ b = frames_same a b h d.1 (λ q. split (eqb q f.page)
    (λ k. let o : has q (pages_of a) ≡ false = rw (same q f.page k) d.0 in dirty_absent q a o ∙ sym (dirty_absent q b (rw h at o)))
    (λ k. rw (← n, k) at (w q))) in
    λ j. framed (n j) (m j) ∷ t j
