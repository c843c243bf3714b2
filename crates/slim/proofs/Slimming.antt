-- The loop over the stretches: what holds before each, and how a stretch carries it on. Assumes nothing.
use Prim.Native.Nat.{ℕ, zero, suc, ◌+◌, ◌-◌, ◌*◌, ◌≤◌, ◌<◌}
use mathlib.Core.Path.{◌≡◌, refl, sym, ap, ◌∙◌}
use mathlib.Core.Bool.{true, false, ◌||◌, or-false, or-true, false≢true}
use mathlib.Core.List.{List, [], ◌∷◌, ◌++◌, append_assoc, append-nil}
use native.Mathlib.Nat.{sub-zero, zero-add}
use native.Mathlib.Omega.{arith}
use lib.ListN.{length, take, drop, length-append}
use lib.Seq.{sets, drop-append_seam}
use lib.Dec.{eqb}
use borrow.Author.Tests.{eqb-false}
use Rattle.pages.specs.Rows.{flat}
use Rattle.pages.specs.Pages.{has, add}
use Rattle.pages.proofs.Choice.{split, same, or_false as or_neither}
use Rattle.pages.proofs.Added.{has_join}
use Rattle.filter.specs.Filter.{pages_of, pages_in, Clear}
use Rattle.trace.specs.Layout.{item, item_at, items_of, items_from, encode_items}
use Rattle.trace.specs.Promises.{AreBytes}
use Rattle.trace.specs.declared.Item.{Item}
use Rattle.trace.proofs.Bytes.{number_at_lt, drop-bytes}
use Rattle.trace.proofs.Items.{length_from, from_turn, from_none, from_split}
use Rattle.trace.proofs.Output.{Wrote, wrote_none, wrote_then, wrote_long}
use Rattle.epochs.specs.Epochs.{pages, cut}
use Rattle.epochs.specs.Keep.{keeps, kept, reduce, lost, settled}
use Rattle.epochs.specs.declared.Mode.{Mode}
use Rattle.epochs.specs.declared.Mode.TheVariants.{FastSlim, Demand}
use Rattle.epochs.proofs.Greedy.{cut_flat, has-touched}
use Rattle.epochs.proofs.Through.{Next}
use Rattle.epochs.proofs.Kept.{kept_sub}
use Rattle.epochs.proofs.Order.{sub_length}
use Rattle.epochs.proofs.Marks.{pages_join, kept-pages}
use Rattle.slim.specs.Passes.{limit, CanLook, Looked, Within, CanKeep, kept_there, Owes, Flags, CanMend, Fit, Stand, Mended, CanSlim}
use Rattle.slim.proofs.Stretch.{reduce_from, reduce_start, Ready, ready_start, stretch, beyond, emptied, emptied_full, emptied_else}
use Rattle.slim.proofs.Stretch.{reduce_over, reduce_full, stretch_some, stretch_next, stretch_ready, stretch_kept}
use Rattle.slim.proofs.Flags.{owes_none}
use Rattle.slim.proofs.Mending.{length-settled}
use Rattle.slim.proofs.Keeping.{filter_grows, filter_begins}

-- ---- the items of a file fit

items_fit : (n : ℕ) (s : List ℕ) → AreBytes s → Fit (items_of n s)
unfolding items_of item
items_fit zero s b = tt
items_fit (suc n) s b = (number_at_lt 8 s 3 b, number_at_lt 8 s 11 b, items_fit n (drop 19 s) (drop-bytes 19 s b))

from_fit : (f : List ℕ) (i n : ℕ) → AreBytes f → Fit (items_from f i n)
unfolding items_from
from_fit f i n b = items_fit n (drop (23 + 19 * i) f) (drop-bytes (23 + 19 * i) f b)

kept_fit : (m : Mode) (seen : List ℕ) (e : List Item) → Fit e → Fit (kept m seen e)
unfolding kept
kept_fit m seen [] f = tt
kept_fit m seen (i ∷ e) f =
    let r = kept_fit m (add i.page seen) e f.2 in
    split (keeps m seen i e) (λ k. rw k (f.0, f.1, r)) (λ k. rw k r)

append_fit : (a b : List Item) → Fit a → Fit b → Fit (a ++ b)
append_fit [] b f g = g
append_fit (i ∷ a) b f g = (f.0, f.1, append_fit a b f.2 g)

-- Before the stretch that begins at item i: the filter holds the `held` pages F, and m items are kept and written. Those before item `past` are of the epochs
-- before, and are settled; the others, `here`, are of this one, of whose pages those `owing` are owed a write.
pub record Slimming (file₀ file : List ℕ) (n : ℕ) (mode : Mode) (size held₀ : ℕ) (owed₀ out₀ F owed out : List ℕ) (i held past m : ℕ) : Type 0 where
  pub can : CanSlim file n size held₀ owed₀ out₀
  pub same_file : file ≡ file₀
  pub within : i ≤ n
  pub holds : held ≤ size
  pub out_long : length out ≡ length out₀
  pub seen_long : length F ≡ held
  pub ready : Ready mode size F (items_from file i (n - i))
  pub done : List Item
  pub here : List Item
  pub owing : List ℕ
  pub mid : List ℕ
  pub wrote_done : Wrote 0 done out₀ mid
  pub wrote_here : Wrote past here mid out
  pub past_is : past ≡ length done
  pub count : m ≡ past + length here
  pub few : m ≤ i
  pub fit : Fit here
  pub known : (p : ℕ) → has p (pages here) ≡ true → has p F ≡ true
  pub owes : Owes F owed owing
  pub clear : Clear held owed
  pub over : n ≤ i → here ≡ []
  pub all : done ++ reduce_from mode size F owing here (items_from file i (n - i)) ≡ reduce mode size (items_from file 0 n)

-- A filter that holds no page.
pub pages_none : (file last : List ℕ) {held : ℕ} → held ≡ 0 → pages_in file last held ≡ []
unfolding pages_of
pages_none file last e = rw e

-- Nothing is done yet.
pub slimming_none : (file : List ℕ) (n : ℕ) (mode : Mode) (size : ℕ) (last : List ℕ) {held : ℕ} (owed out : List ℕ) → CanSlim file n size held owed out
    → Slimming file file n mode size held owed out (pages_in file last held) owed out 0 held 0 0
unfolding has pages
slimming_none file n mode size last owed out c =
    let F = pages_none file last c.empty in
    rw F (record {
      can = c;
      same_file = refl;
      within = omega arith;
      holds = omega (arith, c.empty);
      out_long = refl;
      seen_long = sym c.empty;
      ready = ready_start mode size c.some (items_from file 0 (n - 0));
      done = [];
      here = [];
      owing = [];
      mid = out;
      wrote_done = wrote_none 0 out;
      wrote_here = wrote_none 0 out;
      past_is = refl;
      count = omega arith;
      few = omega arith;
      fit = tt;
      known = λ p h. absurd (false≢true h);
      owes = owes_none owed;
      clear = rw c.empty c.clear;
      over = λ h. refl;
      all = rw (sub-zero, reduce_start mode size (items_from file 0 n));
    })

-- The filter's file stays.
pub slimming_same : {file₀ file : List ℕ} {n : ℕ} {mode : Mode} {size held₀ : ℕ} {owed₀ out₀ F owed out : List ℕ} {i held past m : ℕ}
    → Slimming file₀ file n mode size held₀ owed₀ out₀ F owed out i held past m → {file' : List ℕ} → file' ≡ file
    → Slimming file₀ file' n mode size held₀ owed₀ out₀ F owed out i held past m
slimming_same s e = rw e s

-- ---- a stretch

-- What a stretch may leave in the filter is no more than its size.
limit_within : (m : Mode) (B held : ℕ) (seen : List ℕ) (i : Item) (t : List Item) → length seen ≡ held → held ≤ B → Ready m B seen (i ∷ t)
    → (held ≤ limit m B held) × (limit m B held ≤ B)
unfolding limit
limit_within Demand B held seen i t e h r = (h, omega arith)
limit_within FastSlim B held seen i t e h r = (omega arith, omega arith)

module _ {file₀ file : List ℕ} {n : ℕ} {mode : Mode} {size held₀ : ℕ} {owed₀ out₀ F owed out : List ℕ} {i held past m : ℕ}
    (s : Slimming file₀ file n mode size held₀ owed₀ out₀ F owed out i held past m) (l : i < n) where
  left_is : items_from file i (n - i) ≡ item_at file i ∷ items_from file (i + 1) (n - (i + 1))
  left_is = from_turn file l

  module _ {most : ℕ} (q : most ≡ limit mode size held) where
    bounds : (held ≤ most) × (most ≤ size)
    bounds = rw q (limit_within mode size held F (item_at file i) (items_from file (i + 1) (n - (i + 1))) s.seen_long s.holds (rw left_is at s.ready))

    -- The first pass may begin.
    pub slimming_look : CanLook file n i most held
    slimming_look =
        let b = bounds in
        record {
          file_long = s.can.file_long;
          few = s.can.count;
          within = s.within;
          holds = b.0;
          room = omega (arith, s.can.few);
        }

    module _ {end held' : ℕ} {F' last' : List ℕ} (k : Looked file n i most F end F' last') (w : Within n i most end held') (held_long : length F' ≡ held') where
      -- The second pass may follow.
      pub slimming_keep : CanKeep file i end held m F' last' owed out
      slimming_keep =
          let t = items_from file i (end - i) in
          let b = bounds in
          record {
            file_long = omega (arith, s.can.file_long);
            within = w.begins;
            before = omega (arith, filter_grows F' F t k.filter_is, s.seen_long);
            filter_is = rw (← s.seen_long, filter_begins F' F t k.filter_is) k.filter_is;
            clear = s.clear;
            last_noted = k.last_noted;
            room = omega (arith, s.out_long, s.few, s.can.fits);
          }

      limit_is : limit mode size (length F) ≡ most
      limit_is = ap (limit mode size) s.seen_long ∙ sym q

      stretch_eq : stretch mode size F (items_from file i (n - i)) ≡ items_from file i (end - i)
      stretch_eq = ap (λ (L : ℕ). (cut L F (items_from file i (n - i))).here) limit_is ∙ k.stretch_is

      beyond_eq : beyond mode size F (items_from file i (n - i)) ≡ items_from file end (n - end)
      beyond_eq =
          let c = cut most F (items_from file i (n - i)) in
          ap (λ (L : ℕ). flat (cut L F (items_from file i (n - i))).later) limit_is
          ∙ sym (drop-append_seam c.here (flat c.later))
          ∙ ap (drop (length c.here)) (cut_flat most F (items_from file i (n - i)) ∙ from_split file w.begins w.ends)
          ∙ ap (λ (u : List Item). drop (length u) (items_from file i (end - i) ++ items_from file end (n - end))) k.stretch_is
          ∙ drop-append_seam (items_from file i (end - i)) (items_from file end (n - end))

      -- A stretch has an item, so fewer are left after it.
      pub slimming_moves : n - end < n - i
      slimming_moves =
          let some = stretch_some mode size s.can.some F (item_at file i) (items_from file (i + 1) (n - (i + 1))) (rw left_is at s.ready) in
          let long : length (stretch mode size F (items_from file i (n - i))) ≡ end - i = ap length stretch_eq ∙ length_from file i (end - i) in
          let some' : 1 ≤ length (stretch mode size F (items_from file i (n - i))) = rw left_is some in
          omega arith

      -- What is kept of the stretch, what is owed, and the filter after it.
      module _ {m' : ℕ} {owed' out' : List ℕ} (c : m' ≡ m + length (kept_there file i end held F'))
          (o : out' ≡ sets out (23 + 19 * m) (encode_items (kept_there file i end held F')))
          (g : Flags file i end held F' owed owed') where
        begins : take held F' ≡ F
        begins =
            ap (λ (h : ℕ). take h F') (sym s.seen_long) ∙ filter_begins F' F (items_from file i (end - i)) k.filter_is

        kept_is : kept_there file i end held F' ≡ kept Demand F (items_from file i (end - i))
        kept_is = rw begins

        -- The epoch's items, with those of the stretch.
        now_here : List Item
        now_here = s.here ++ kept Demand F (items_from file i (end - i))

        -- The pages owed a write, with those of the stretch.
        now_owing : List ℕ
        now_owing = lost Demand F s.owing (items_from file i (end - i))

        now_wrote : Wrote past now_here s.mid out'
        unfolding now_here
        now_wrote = wrote_then s.wrote_here s.count (record { bytes_are = rw (← kept_is) o })

        now_count : m' ≡ past + length now_here
        unfolding now_here
        now_count = omega (arith, c, ap length kept_is, s.count, length-append s.here (kept Demand F (items_from file i (end - i))))

        now_few : m' ≤ end
        now_few =
            let fewer = sub_length (kept_sub Demand F (items_from file i (end - i))) in
            omega (arith, c, s.few, ap length kept_is, fewer, length_from file i (end - i))

        now_fit : Fit now_here
        unfolding now_here
        now_fit =
            append_fit s.here _ s.fit
            (kept_fit Demand F (items_from file i (end - i)) (from_fit file i (end - i) s.can.octets))

        now_known : (p : ℕ) → has p (pages now_here) ≡ true → has p F' ≡ true
        unfolding now_here
        now_known p h =
            let t = items_from file i (end - i) in
            rw (k.filter_is, has-touched p F t)
            (split (has p (pages t))
            (λ e. rw e (or-true (has p F)))
            (λ e. let joined = has_join p (pages s.here) (pages (kept Demand F t)) in
            let z : has p (pages s.here) ≡ true =
            rw (pages_join s.here (kept Demand F t), joined, kept-pages Demand p F t, e, or-false (has p (pages s.here))) at h in
            rw (s.known p z)))

        now_owes : Owes F' owed' now_owing
        unfolding now_owing
        now_owes = rw begins at (g.owes s.owing (rw begins s.owes))

        now_all : s.done ++ reduce_from mode size F' now_owing now_here (items_from file end (n - end))
            ≡ reduce mode size (items_from file 0 n)
        unfolding now_owing now_here
        now_all =
            let all = stretch_kept mode size s.can.some F s.owing s.here (items_from file i (n - i)) s.ready in
            rw (k.filter_is, ← stretch_eq, ← beyond_eq, ← all) s.all

        -- Its items stand in the output as the kept ones, and may be mended.
        now_stand : Stand F' owed' past m' out' s.mid now_here now_owing
        now_stand = record { wrote = now_wrote.bytes_are; count = now_count; fit = now_fit; known = now_known; owes = now_owes }

        now_clear : Clear held' owed'
        now_clear = rw held_long at g.clear

        pub slimming_mend : CanMend past m' held' out' owed'
        slimming_mend = record {
          within = omega (arith, now_count);
          room = omega (arith, now_few, s.can.fits, wrote_long now_wrote, wrote_long s.wrote_done, w.ends);
          clear = now_clear;
        }

        now_ready : Ready mode size (emptied size F') (items_from file end (n - end))
        now_ready = rw (k.filter_is, ← stretch_eq, ← beyond_eq) (stretch_ready mode size s.can.some F (items_from file i (n - i)) s.ready)

        now_next : Next (limit mode size (length F)) F' (items_from file end (n - end))
        now_next = rw (k.filter_is, ← stretch_eq, ← beyond_eq) (stretch_next mode size s.can.some F (items_from file i (n - i)) s.ready)

        -- An epoch ends with the stretch: the next begins with no page, and what is settled of the epoch stands before what is left.
        now_over : eqb held' size || eqb end n ≡ true → Ready mode size [] (items_from file end (n - end))
            × (reduce_from mode size F' now_owing now_here (items_from file end (n - end))
            ≡ settled now_owing now_here ++ reduce_from mode size [] [] [] (items_from file end (n - end)))
        now_over t =
            split (eqb held' size)
            (λ e. let f = same held' size e in (
              rw (← emptied_full size F' (held_long ∙ f)) now_ready,
              reduce_full size F' mode s.can.some (limit mode size (length F)) now_owing now_here
                  (items_from file end (n - end)) (held_long ∙ f) now_next,
            ))
            (λ e. let z = same end n (rw e at t) in
            let none : items_from file end (n - end) ≡ [] = from_none file (omega arith) in
            (rw none tt, rw none (reduce_over size F' mode now_owing now_here)))

        -- The epoch is mended, and the filter emptied.
        pub slimming_full : eqb held' size || eqb end n ≡ true → {owed'' out'' : List ℕ}
            → Mended F' owed' past m' out' out''
            → Clear 0 owed'' → {file'' F'' : List ℕ} {held'' : ℕ} → file'' ≡ file → F'' ≡ [] → held'' ≡ 0
            → Slimming file₀ file'' n mode size held₀ owed₀ out₀ F'' owed'' out'' end held'' m' m'
        unfolding has pages
        slimming_full t {owed''} {out''} me cl fs fn hn =
            let (ready, settles) = now_over t in
            let wr : Wrote 0 (s.done ++ settled now_owing now_here) out₀ out'' =
            wrote_then s.wrote_done (s.past_is ∙ sym (zero-add (length s.done))) (record { bytes_are = me.settles s.mid now_here now_owing now_stand }) in
            rw (fs, fn, hn) (record {
              can = s.can;
              same_file = s.same_file;
              within = w.ends;
              holds = omega arith;
              out_long = wrote_long wr;
              seen_long = refl;
              ready = ready;
              done = s.done ++ settled now_owing now_here;
              here = [];
              owing = [];
              mid = out'';
              wrote_done = wr;
              wrote_here = wrote_none m' out'';
              past_is = rw (length-append, length-settled, ← s.past_is) now_count;
              count = omega arith;
              few = now_few;
              fit = tt;
              known = λ p h. absurd (false≢true h);
              owes = owes_none owed'';
              clear = cl;
              over = λ h. refl;
              all = rw (append_assoc, ← settles) now_all;
            })

        -- It is not, and goes on.
        pub slimming_else : eqb held' size || eqb end n ≡ false
            → Slimming file₀ file n mode size held₀ owed₀ out₀ F' owed' out' end held' past m'
        slimming_else t =
            let b = bounds in
            let (f, g) = or_neither (eqb held' size) (eqb end n) t in
            let d = eqb-false end n g in
            record {
              can = s.can;
              same_file = s.same_file;
              within = w.ends;
              holds = omega arith;
              out_long = wrote_long now_wrote ∙ wrote_long s.wrote_done;
              seen_long = held_long;
              ready = rw (← emptied_else size F' (λ q. eqb-false held' size f (sym held_long ∙ q))) now_ready;
              done = s.done;
              here = now_here;
              owing = now_owing;
              mid = s.mid;
              wrote_done = s.wrote_done;
              wrote_here = now_wrote;
              past_is = s.past_is;
              count = now_count;
              few = now_few;
              fit = now_fit;
              known = now_known;
              owes = now_owes;
              clear = now_clear;
              over = λ h. absurd (omega (arith, w.ends));
              all = now_all;
            }

-- ---- all stretches are done

module _ {file₀ file : List ℕ} {n : ℕ} {mode : Mode} {size held₀ : ℕ} {owed₀ out₀ F owed out : List ℕ} {i held past m : ℕ}
    (s : Slimming file₀ file n mode size held₀ owed₀ out₀ F owed out i held past m) (l : n ≤ i) where
  all_kept : s.done ≡ reduce mode size (items_from file 0 n)
  unfolding reduce_from cut kept lost settled flat
  all_kept = simp append-nil at (rw (from_none file l, s.over l) at s.all)

  pub slimming_count : m ≡ length (reduce mode size (items_from file₀ 0 n))
  slimming_count = rw (← s.same_file) (omega (arith, s.count, s.past_is, ap length all_kept, ap length (s.over l)))

  pub slimming_bytes : out ≡ sets out₀ 23 (encode_items (reduce mode size (items_from file₀ 0 n)))
  unfolding encode_items
  slimming_bytes =
      let none : out ≡ s.mid = rw (s.over l) at s.wrote_here.bytes_are in
      rw (← s.same_file) (none ∙ s.wrote_done.bytes_are ∙ ap (λ (t : List Item). sets out₀ 23 (encode_items t)) all_kept)
