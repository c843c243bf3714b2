-- The marks are what the English says: of what is kept of an epoch, the last item of each page of which a write was dropped becomes a write. Assumes nothing.
use Prim.Native.Nat.{ℕ}
use mathlib.Core.Path.{◌≡◌, refl, sym, ap, ◌∙◌}
use mathlib.Core.Bool.{Bool, true, false, not, ◌||◌, ◌&&◌, or-false, or-true}
use mathlib.Core.List.{List, [], ◌∷◌, ◌++◌, map}
use lib.Dec.{leb, eqb}
use Rattle.pages.specs.Rows.{cons_if, flat}
use Rattle.pages.specs.Pages.{has, add}
use Rattle.pages.proofs.Choice.{split, same, eqb_self, or_false as none_of}
use Rattle.pages.proofs.Added.{has_join}
use Rattle.trace.specs.declared.Item.{Item}
use Rattle.epochs.specs.Epochs.{pages, cut, epochs}
use Rattle.epochs.specs.Keep.{is_last, keeps, kept, chosen, settle, owe, marked, reduce, lost, settled}
use Rattle.epochs.specs.English.{KeepsSome, KeepsNone, drops_write, LastsBecomeWrites, Alike, MarksOnly, NoneDropped, NoWrites, NoneDroppedNoMarks, NoWritesNoMarks}
use Rattle.epochs.specs.declared.Mode.{Mode}
use Rattle.epochs.proofs.Kept.{comes_again, first-kept}
use Rattle.epochs.proofs.Greedy.{epochs_trace}

and_nothing : (b : Bool) → b && false ≡ false
and_nothing true = refl
and_nothing false = refl

-- ---- pages owed a write

-- A page is owed a write by a dropped write of it, or was before.
has-owe : (q : ℕ) (b : Bool) (p : ℕ) (l : List ℕ) → has q (cons_if b p l) ≡ (b && eqb q p) || has q l
unfolding has
has-owe q true p l = refl
has-owe q false p l = refl

-- A page that does not come again is owed no more than before.
lost_absent : (m : Mode) (p : ℕ) (seen owed : List ℕ) (e : List Item) → has p (pages e) ≡ false → has p (lost m seen owed e) ≡ has p owed
unfolding has pages lost
lost_absent m p seen owed [] h = refl
lost_absent m p seen owed (i ∷ e) h =
    let z = none_of (eqb p i.page) (has p (pages e)) h in
    let b = not (keeps m seen i e) && i.written in
    lost_absent m p (add i.page seen) (owe (keeps m seen i e) i owed) e z.1 ∙ has-owe p b i.page owed ∙ rw (z.0, and_nothing b)

-- The pages of two rows, one after the other.
pub pages_join : (a b : List Item) → pages (a ++ b) ≡ pages a ++ pages b
unfolding pages
pages_join [] b = refl
pages_join (i ∷ a) b = ap (◌∷◌ i.page) (pages_join a b)

-- Every page of an epoch has an item that is kept.
pub kept-pages : (m : Mode) (p : ℕ) (seen : List ℕ) (e : List Item) → has p (pages (kept m seen e)) ≡ has p (pages e)
unfolding has pages kept
kept-pages m p seen [] = refl
kept-pages m p seen (i ∷ e) =
    let r = kept-pages m p (add i.page seen) e in
    split (keeps m seen i e)
    (λ k. rw (k, r))
    (λ k. split (eqb p i.page)
    (λ f. rw (k, f) (r ∙ rw (same p i.page f) (comes_again m seen i e k)))
    (λ f. rw (k, f) r))

-- ---- an item settled

-- It is settled alike by two rows that agree on whether its page comes again, and on whether it is owed a write where not.
settle_alike : (i : Item) (a b : List ℕ) (u v : List Item) → has i.page (pages u) ≡ has i.page (pages v)
    → (has i.page (pages u) ≡ false → has i.page a ≡ has i.page b) → settle a i u ≡ settle b i v
unfolding settle is_last
settle_alike i a b u v e f =
    let w : not (has i.page (pages u)) && has i.page a ≡ not (has i.page (pages v)) && has i.page b = split (has i.page (pages u))
    (λ h. rw (h, sym e ∙ h))
    (λ h. rw (h, sym e ∙ h) (f h)) in
    ap (λ (b : Bool). record { page = i.page; time = i.time; written = i.written || b }) w

-- What is kept of an epoch, marked, is what is kept, settled by what is owed at the end.
pub marked-settled : (m : Mode) (seen owed : List ℕ) (e : List Item) → marked m seen owed e ≡ settled (lost m seen owed e) (kept m seen e)
unfolding marked settled lost kept
marked-settled m seen owed [] = refl
marked-settled m seen owed (i ∷ e) =
    let s = add i.page seen in
    split (keeps m seen i e)
    (λ k. rw (k, marked-settled m s owed e)
    (ap (λ (x : Item). x ∷ settled (lost m s owed e) (kept m s e))
    (settle_alike i owed (lost m s owed e) e (kept m s e) (sym (kept-pages m i.page s e)) (λ h. sym (lost_absent m i.page s owed e h)))))
    (λ k. rw k (marked-settled m s (cons_if i.written i.page owed) e))

-- An item that is not the last of its page, or whose page is not owed a write, stays as it is.
settle_stays : (owed : List ℕ) (i : Item) (rest : List Item) → is_last i rest && has i.page owed ≡ false → settle owed i rest ≡ i
unfolding settle
settle_stays owed i rest h =
    let w : i.written || (is_last i rest && has i.page owed) ≡ i.written = rw (h, or-false) in
    λ j. record { page = i.page; time = i.time; written = w j }

settle_none : (owed : List ℕ) (i : Item) (rest : List Item) → has i.page owed ≡ false → settle owed i rest ≡ i
settle_none owed i rest h = settle_stays owed i rest (rw h (and_nothing (is_last i rest)))

later_not : (a b c : Bool) → not b && c ≡ false → not (a || b) && c ≡ false
later_not true b c h = refl
later_not false b c h = h

-- Of a row the front stays as it is if each of its pages comes again behind it, or is not owed a write.
pub settled_front : (owed : List ℕ) (a c : List Item) → ((p : ℕ) → has p (pages a) ≡ true → not (has p (pages c)) && has p owed ≡ false)
    → settled owed (a ++ c) ≡ a ++ settled owed c
unfolding settled has pages is_last
settled_front owed [] c f = refl
settled_front owed (i ∷ a) c f =
    let p = i.page in
    let w = later_not (has p (pages a)) (has p (pages c)) (has p owed) (f p (rw eqb_self)) in
    let joined : has p (pages (a ++ c)) ≡ has p (pages a) || has p (pages c) = rw (pages_join a c) (has_join p (pages a) (pages c)) in
    rw (settle_stays owed i (a ++ c) (rw joined w), settled_front owed a c (λ q h. f q (rw (h, or-true))))

-- A row of whose pages none is owed a write stays as it is.
settled_none : (owed : List ℕ) (u : List Item) → ((p : ℕ) → has p owed ≡ false) → settled owed u ≡ u
unfolding settled
settled_none owed [] f = refl
settled_none owed (i ∷ u) f = rw (settle_none owed i u (f i.page), settled_none owed u f)

-- ---- the client's sentence

or_move : (a b c : Bool) → (a || b) || c ≡ b || (a || c)
or_move true true c = refl
or_move true false c = refl
or_move false b c = refl

and_assoc : (a b c : Bool) → (a && b) && c ≡ a && (b && c)
and_assoc true b c = refl
and_assoc false b c = refl

-- A page is owed a write after some items if it was before, or if one was dropped.
lost_drops : (m : Mode) (p : ℕ) (seen owed : List ℕ) (e : List Item) → has p (lost m seen owed e) ≡ has p owed || drops_write m p seen e
unfolding lost drops_write
lost_drops m p seen owed [] = sym (or-false (has p owed))
lost_drops m p seen owed (i ∷ e) =
    let k = not (keeps m seen i e) in
    lost_drops m p (add i.page seen) (owe (keeps m seen i e) i owed) e
    ∙ rw (has-owe p (k && i.written) i.page owed, and_assoc k i.written (eqb p i.page))
    (or_move (k && (i.written && eqb p i.page)) (has p owed) (drops_write m p (add i.page seen) e))

-- The last kept item of a page in an epoch becomes a write if any dropped item of that page in that epoch was one.
pub lasts_become_writes : LastsBecomeWrites
unfolding has
lasts_become_writes m e = record { owed = lost m [] [] e; owed_are = λ p. lost_drops m p [] [] e; lasts-written = marked-settled m [] [] e }

-- ---- pages and times are as before

pub alike_append : (a b c d : List Item) → Alike a b → Alike c d → Alike (a ++ c) (b ++ d)
alike_append [] [] c d p q = q
alike_append [] (j ∷ b) c d p q = absurd p
alike_append (i ∷ a) [] c d p q = absurd p
alike_append (i ∷ a) (j ∷ b) c d p q = (p.0, p.1, alike_append a b c d p.2 q)

pub settled_alike : (owed : List ℕ) (u : List Item) → Alike (settled owed u) u
unfolding settled settle
settled_alike owed [] = tt
settled_alike owed (i ∷ u) = (refl, refl, settled_alike owed u)

all_alike : (m : Mode) (es : List (List Item)) → Alike (flat (map (marked m [] []) es)) (flat (map (kept m []) es))
unfolding flat
all_alike m [] = tt
all_alike m (e ∷ es) =
    alike_append (marked m [] [] e) (kept m [] e) (flat (map (marked m [] []) es)) (flat (map (kept m []) es))
    (rw (marked-settled m [] [] e) (settled_alike (lost m [] [] e) (kept m [] e)))
    (all_alike m es)

-- A reduction has the pages and the times of the items chosen.
pub marks_only : MarksOnly
unfolding reduce chosen
marks_only m B t = all_alike m (epochs B t)

-- ---- without dropped writes nothing is marked

all_as_kept : (m : Mode) (es : List (List Item)) → NoneDropped m es → flat (map (marked m [] []) es) ≡ flat (map (kept m []) es)
unfolding flat
all_as_kept m [] n = refl
all_as_kept m (e ∷ es) n =
    let r = lasts_become_writes m e in
    rw (r.lasts-written, settled_none r.owed (kept m [] e) (λ p. r.owed_are p ∙ n.0 p), all_as_kept m es n.1)

-- Where no write is dropped nothing is marked.
pub none_dropped_no_marks : NoneDroppedNoMarks
unfolding reduce chosen
none_dropped_no_marks m B t n = all_as_kept m (epochs B t) n

-- Where there is no write none is dropped.
no_write_drops : (m : Mode) (p : ℕ) (seen : List ℕ) (e : List Item) → NoWrites e → drops_write m p seen e ≡ false
unfolding drops_write
no_write_drops m p seen [] n = refl
no_write_drops m p seen (i ∷ e) n =
    let k = not (keeps m seen i e) in
    ap (λ (b : Bool). (k && (b && eqb p i.page)) || drops_write m p (add i.page seen) e) n.0
    ∙ rw (and_nothing k) (no_write_drops m p (add i.page seen) e n.1)

no_writes_left : (a b : List Item) → NoWrites (a ++ b) → NoWrites a × NoWrites b
no_writes_left [] b n = (tt, n)
no_writes_left (i ∷ a) b n = let z = no_writes_left a b n.1 in ((n.0, z.0), z.1)

no_writes_dropped : (m : Mode) (es : List (List Item)) → NoWrites (flat es) → NoneDropped m es
unfolding flat
no_writes_dropped m [] n = tt
no_writes_dropped m (e ∷ es) n = let z = no_writes_left e (flat es) n in (λ p. no_write_drops m p [] e z.0, no_writes_dropped m es z.1)

-- Of a trace without writes nothing is marked.
pub no_writes_no_marks : NoWritesNoMarks
no_writes_no_marks m B t n = none_dropped_no_marks m B t (no_writes_dropped m (epochs B t) (rw (epochs_trace B t) n))

-- ---- some and none

-- A trace with items keeps its first.
pub keeps_some : KeepsSome
unfolding has add cut flat epochs marked reduce
keeps_some m B i t =
    let k = first-kept m [] i (cut B (i.page ∷ []) t).here refl in
    let n = settle_none [] i (cut B (i.page ∷ []) t).here refl in
    split (leb 1 B) (λ e. rw (e, cut, k, n) (_, refl)) (λ e. rw (e, cut, k, n) (_, refl))

-- A trace with none keeps none.
pub keeps_none : KeepsNone
unfolding cut flat epochs marked reduce
keeps_none m B = refl
