-- The marks of two lists, where one was replayed without some writes: what is owed to it, and that it is paid by the last item of the page. Assumes nothing.
use Prim.Native.Nat.{ℕ}
use mathlib.Core.Path.{◌≡◌, refl, sym}
use mathlib.Core.Bool.{Bool, true, false, not, ◌||◌, ◌&&◌, or-false, and-false}
use mathlib.Core.List.{List, ◌∷◌}
use lib.Dec.{eqb}
use Rattle.pages.specs.Rows.{cons_if}
use Rattle.pages.specs.Pages.{has}
use Rattle.pages.proofs.Choice.{split, same, eqb_self}
use Rattle.frames.specs.Frames.{framed, pages_of, dirty, taken}
use Rattle.frames.specs.declared.Frame.{Frame}
use Rattle.trace.specs.declared.Item.{Item}
use Rattle.epochs.specs.Epochs.{pages}
use Rattle.epochs.specs.Keep.{is_last, settle}
use Rattle.frames.proofs.By.{dirty_absent}
use Rattle.frames.proofs.Apart.{dirty-taken}

-- The frame of an item's page, after the item.
abbrev pub touch : Item → List Frame → Frame
touch i s = framed i.page (dirty i.page s || i.written)

-- The marks in a are those in b, and one for each page of L that comes again in w: a write of it was dropped before b.
abbrev pub Owed : List ℕ → List Item → List Frame → List Frame → Type 0
Owed L w a b = (q : ℕ) → dirty q a ≡ dirty q b || (has q L && has q (pages w))

-- The last item of a page pays what is owed to it; another one leaves it.
pays : (a b l w h : Bool) → a ≡ b || (l && true) → a || w ≡ (b || (w || (not h && l))) || (l && h)
pays a true l w h e = rw e
pays a false true true h e = rw e
pays a false true false true e = rw e
pays a false true false false e = rw e
pays a false false true h e = rw e
pays a false false false true e = rw e
pays a false false false false e = rw e

-- A write that is dropped is owed.
lends : (a b l w : Bool) → a ≡ b || (l && true) → a || w ≡ b || (((w && true) || l) && true)
lends a true l w e = rw e
lends a false true true e = rw e
lends a false true false e = rw e
lends a false false true e = rw e
lends a false false false e = rw e

has-owe : (q p : ℕ) (w : Bool) (L : List ℕ) → has q (cons_if w p L) ≡ (w && eqb q p) || has q L
unfolding has
has-owe q p true L = refl
has-owe q p false L = refl

module _ (L : List ℕ) (i : Item) (w : List Item) (a b : List Frame) (o : Owed L (i ∷ w) a b) where
  owed_here : dirty i.page a ≡ dirty i.page b || (has i.page L && true)
  unfolding has pages
  owed_here = rw (eqb_self i.page) at (o i.page)

  -- After an item that both have, of a page in both lists,
  pub owed_again : Owed L w (touch i a ∷ taken i.page a) (touch (settle L i w) b ∷ taken i.page b)
  unfolding has pages dirty is_last settle
  owed_again q =
      split (eqb q i.page)
      (λ e. rw (e, same q i.page e) (pays (dirty i.page a) (dirty i.page b) (has i.page L) i.written (has i.page (pages w)) owed_here))
      (λ e. rw (e, dirty-taken i.page q e a, dirty-taken i.page q e b) (rw e at (o q)))

  -- or of a page in neither, whose frame is taken from the rest r of both;
  pub owed_first : (r : List Frame) → has i.page (pages_of a) ≡ false → has i.page (pages_of b) ≡ false → Owed L w (touch i r ∷ a) (touch (settle L i w) r ∷ b)
  unfolding has pages dirty is_last settle
  owed_first r na nb q =
      split (eqb q i.page)
      (λ e. let n : has i.page L && true ≡ false = sym (rw (dirty_absent i.page a na, dirty_absent i.page b nb) at owed_here) in
      rw (e, same q i.page e) (pays (dirty i.page r) (dirty i.page r) (has i.page L) i.written (has i.page (pages w)) (rw (n, or-false))))
      (λ e. rw e (rw e at (o q)))

  -- and after one that only a has, whose page comes again.
  pub owed_dropped : has i.page (pages w) ≡ true → Owed (cons_if i.written i.page L) w (touch i a ∷ taken i.page a) b
  unfolding has pages dirty
  owed_dropped c q =
      rw (has-owe q i.page i.written L)
      (split (eqb q i.page)
      (λ e. rw (e, same q i.page e, c) (lends (dirty i.page a) (dirty i.page b) (has i.page L) i.written owed_here))
      (λ e. rw (e, dirty-taken i.page q e a, and-false) (rw e at (o q))))
