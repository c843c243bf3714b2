-- Marks decide nothing but marks. Assumes nothing.
use Prim.Native.Nat.{ℕ}
use mathlib.Core.Path.{◌≡◌, refl, sym, ap, ◌∙◌}
use mathlib.Core.Bool.{false}
use mathlib.Core.List.{List, [], ◌∷◌, map, map-append, get_last?}
use mathlib.Core.Option
use native.Mathlib.Omega.{arith}
use lib.ListN.{length}
use lib.Dec.{ltb}
use Rattle.pages.specs.Pages.{has}
use Rattle.pages.proofs.Choice.{split}
use Rattle.frames.specs.Frames.{framed, pages_of}
use Rattle.frames.specs.declared.Frame.{Frame}
use Rattle.frames.proofs.Columns.{pages-taken, pages_init}
use Rattle.trace.specs.declared.Item.{Item}
use Rattle.lru_cache.specs.Lru.{Outcome, hit, fetch, step, ◌then◌, replay}
use Rattle.lru_cache.specs.Promises.{clean, page_event, SamePages, unmarked, MarksDecideNothing}
use Rattle.lru_cache.proofs.Room.{pages-count}

-- A frame of a page that is clean.
abbrev of : ℕ → Frame
of p = framed p false

-- The page evicted is the last of the pages.
last_page : (s : List Frame) → Option.map clean (get_last? s) ≡ Option.map of (get_last? (pages_of s))
last_page [] = refl
last_page (f ∷ []) = refl
last_page (f ∷ g ∷ s) = last_page (g ∷ s)

-- An item, from two lists of the same pages.
module _ (K : ℕ) (s r : List Frame) (e : pages_of s ≡ pages_of r) (i j : Item) (p : i.page ≡ j.page) (t : i.time ≡ j.time) where
  same_count : length s ≡ length r
  same_count = sym (pages-count s) ∙ ap length e ∙ pages-count r

  same_last : Option.map clean (get_last? s) ≡ Option.map clean (get_last? r)
  same_last = last_page s ∙ ap (λ (l : List ℕ). Option.map of (get_last? l)) e ∙ sym (last_page r)

  step_same : SamePages (step K s i) (step K r j)
  unfolding step hit fetch
  step_same =
      split (has j.page (pages_of r))
      (λ h. rw (p, e, h) (record { events_are = refl; pages_are = rw (pages-taken j.page s, pages-taken j.page r, e) }))
      (λ h. rw (p, e, h, same_count) (split (ltb (length r) K)
      (λ l. rw l (record { events_are = rw t; pages_are = rw e }))
      (λ l. rw l (record { events_are = rw (t, same_last); pages_are = rw (pages_init s, pages_init r, e) }))))

then_same : (a b c d : Outcome) → SamePages a b → SamePages c d → SamePages (a then c) (b then d)
unfolding ◌then◌
then_same a b c d x y = record {
  events_are = rw (map-append page_event a.events c.events, map-append page_event b.events d.events, x.events_are, y.events_are);
  pages_are = y.pages_are;
}

-- From lists of the same pages, items of the same pages and times fetch and evict the same pages.
pub marks_decide_nothing : MarksDecideNothing
unfolding replay
marks_decide_nothing K s r e [] [] z = record { events_are = refl; pages_are = e }
marks_decide_nothing K s r e [] (j ∷ u) z = absurd (omega (arith, ap length z))
marks_decide_nothing K s r e (i ∷ t) [] z = absurd (omega (arith, ap length z))
marks_decide_nothing K s r e (i ∷ t) (j ∷ u) z =
    let h : unmarked i ≡ unmarked j = cc in
    let q : map unmarked t ≡ map unmarked u = cc in
    let o = step_same K s r e i j (ap (λ (x : Item). x.page) h) (ap (λ (x : Item). x.time) h) in
    then_same (step K s i) (step K r j) (replay K (step K s i).final t) (replay K (step K r j).final u) o
    (marks_decide_nothing K (step K s i).final (step K r j).final o.pages_are t u q)
