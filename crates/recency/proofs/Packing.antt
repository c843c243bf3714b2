-- The places of a log that count, moved to its front with what they say. Assumes nothing.
use Prim.Native.Nat.{ℕ, ◌+◌, ◌≤◌, ◌<◌}
use mathlib.Core.Path.{◌≡◌, refl, sym, ap, ◌∙◌}
use mathlib.Core.Bool.{false, true}
use mathlib.Core.List.{List, ◌∷◌, ◌++◌, append-nil}
use native.Mathlib.Omega.{arith}
use lib.ListN.{length, get_or, take, drop, set, length-set}
use lib.Seq.{drop-set-lt, take-set-le, get_or-set_same, get_or-set_other}
use lib.Dec.{eqb}
use borrow.Author.Tests.{eqb-false}
use Rattle.pages.specs.Pages.{has}
use Rattle.pages.proofs.Choice.{split, same}
use Rattle.pages.proofs.Rows.{drop_next, store_done}
use Rattle.recency.specs.Order.{lasts}
use Rattle.recency.specs.declared.Mark.{Mark}
use Rattle.recency.specs.declared.Mark.TheVariants.{Clean}
use Rattle.recency.specs.Held.{part, is_stale, is_written, wrote, CanPack, Packed}
use Rattle.recency.specs.State.{State}
use Rattle.recency.proofs.Order.{lasts_live, lasts_stale}
use Rattle.recency.proofs.Counting.{part_next, part_none, place_live, place_stale}
use Rattle.recency.proofs.Places.{wrote_live}

-- Of those from low up to end of log₀ the ones before r are looked at, and those among them that count are the first w now.
pub record Packing (log₀ : List ℕ) (stale₀ : List Mark) (low end : ℕ) (log : List ℕ) (stale : List Mark) (r w : ℕ) : Type 0 where
  pub from : low ≤ r
  pub within : r ≤ end
  pub behind : w ≤ r
  pub same_length : length log ≡ length log₀
  pub stale_length : length stale ≡ length stale₀
  pub rest : drop r log ≡ drop r log₀
  pub rest_says : (j : ℕ) → r ≤ j → get_or stale j Clean ≡ get_or stale₀ j Clean
  pub done : lasts (part log₀ low end) ≡ take w log ++ lasts (drop r (take end log₀))
  pub live : (j : ℕ) → j < w → is_stale (get_or stale j Clean) ≡ false
  pub said : (j : ℕ) → j < w → is_written (get_or stale j Clean) ≡ wrote log₀ stale₀ low end (get_or log j 0)

module _ {l : State} (can : CanPack l) where
  abbrev log₀ : List ℕ
  log₀ = l.pages

  abbrev stale₀ : List Mark
  stale₀ = l.marks

  abbrev low : ℕ
  low = l.queue.low

  abbrev end : ℕ
  end = l.queue.now

  pub packing_none : Packing log₀ stale₀ low end log₀ stale₀ low 0
  packing_none = record {
    from = omega arith;
    within = can.behind;
    behind = omega arith;
    same_length = refl;
    stale_length = refl;
    rest = refl;
    rest_says = λ j h. refl;
    done = refl;
    live = λ j h. absurd (omega arith);
    said = λ j h. absurd (omega arith);
  }

  module _ {log : List ℕ} {stale : List Mark} {r w : ℕ} (p : Packing log₀ stale₀ low end log stale r w) where
    module _ (h : r < end) where
      -- The place is as it was, and so are those after it.
      next : get_or log r 0 ∷ drop (r + 1) log ≡ get_or log₀ r 0 ∷ drop (r + 1) log₀
      next = sym (drop_next log r 0 (omega (arith, p.same_length, can.within))) ∙ p.rest ∙ drop_next log₀ r 0 (omega (arith, can.within))

      place_is : get_or log r 0 ≡ get_or log₀ r 0
      place_is = let n = next in cc

      after_is : drop (r + 1) log ≡ drop (r + 1) log₀
      after_is = let n = next in cc

      pub packing_reads : r < length log
      packing_reads = omega (arith, p.same_length, can.within)

      pub packing_writes : w < length log
      packing_writes = omega (arith, p.behind, packing_reads)

      pub packing_stales : r < length stale
      packing_stales = omega (arith, can.within, can.stale_long, p.stale_length)

      pub packing_says : w < length stale
      packing_says = omega (arith, p.behind, packing_stales)

      abbrev after : List ℕ
      after = drop (r + 1) (take end log₀)

      left : drop (r + 1) (set log w (get_or log r 0)) ≡ drop (r + 1) log₀
      left = drop-set-lt (r + 1) log w (get_or log r 0) (omega (arith, p.behind)) ∙ after_is

      left_says : (j : ℕ) → r + 1 ≤ j → get_or (set stale w (get_or stale r Clean)) j Clean ≡ get_or stale₀ j Clean
      left_says j g = get_or-set_other stale w j (get_or stale r Clean) Clean (λ e. omega (arith, p.behind)) ∙ p.rest_says j (omega arith)

      -- What was moved before says what it said.
      kept_log : (j : ℕ) → j < w → get_or (set log w (get_or log r 0)) j 0 ≡ get_or log j 0
      kept_log j g = get_or-set_other log w j (get_or log r 0) 0 (λ e. omega arith)

      kept_says : (j : ℕ) → j < w → get_or (set stale w (get_or stale r Clean)) j Clean ≡ get_or stale j Clean
      kept_says j g = get_or-set_other stale w j (get_or stale r Clean) Clean (λ e. omega arith)

      pub packing_passed : is_stale (get_or stale r Clean) ≡ true → Packing log₀ stale₀ low end (set log w (get_or log r 0)) (set stale w (get_or stale r Clean)) (r + 1) w
      packing_passed n =
          let d = place_stale can.marked p.from h (ap is_stale (sym (p.rest_says r (omega arith))) ∙ n) in
          record {
            from = omega (arith, p.from);
            within = omega arith;
            behind = omega (arith, p.behind);
            same_length = rw length-set p.same_length;
            stale_length = rw length-set p.stale_length;
            rest = left;
            rest_says = left_says;
            done = p.done ∙ rw (part_next log₀ end can.within r h, lasts_stale (get_or log₀ r 0) after d, take-set-le w log w (get_or log r 0) (omega arith));
            live = λ j g. rw (kept_says j g) (p.live j g);
            said = λ j g. rw (kept_says j g, kept_log j g) (p.said j g);
          }

      module _ (n : is_stale (get_or stale r Clean) ≡ false) where
        here : has (get_or log₀ r 0) after ≡ false
        here = place_live can.marked p.from h (ap is_stale (sym (p.rest_says r (omega arith))) ∙ n)

        live_more : (j : ℕ) → j < w + 1 → is_stale (get_or (set stale w (get_or stale r Clean)) j Clean) ≡ false
        live_more j g =
            split (eqb j w)
            (λ e. rw (same j w e, get_or-set_same stale w (get_or stale r Clean) Clean packing_says) n)
            (λ e. let d = eqb-false j w e in let o : j < w = omega arith in rw (kept_says j o) (p.live j o))

        said_more : (j : ℕ) → j < w + 1
            → is_written (get_or (set stale w (get_or stale r Clean)) j Clean) ≡ wrote log₀ stale₀ low end (get_or (set log w (get_or log r 0)) j 0)
        said_more j g =
            split (eqb j w)
            (λ e.
            rw (same j w e, get_or-set_same stale w (get_or stale r Clean) Clean packing_says, get_or-set_same log w (get_or log r 0) 0 packing_writes, place_is, p.rest_says r (omega arith))
            (sym (wrote_live log₀ low end can.within stale₀ r p.from h here)))
            (λ e. let d = eqb-false j w e in let o : j < w = omega arith in rw (kept_says j o, kept_log j o) (p.said j o))

        pub packing_kept : Packing log₀ stale₀ low end (set log w (get_or log r 0)) (set stale w (get_or stale r Clean)) (r + 1) (w + 1)
        packing_kept = record {
          from = omega (arith, p.from);
          within = omega arith;
          behind = omega (arith, p.behind);
          same_length = rw length-set p.same_length;
          stale_length = rw length-set p.stale_length;
          rest = left;
          rest_says = left_says;
          done = p.done ∙ rw (part_next log₀ end can.within r h, lasts_live (get_or log₀ r 0) after here, store_done log w (get_or log r 0) (lasts after) packing_writes, place_is);
          live = live_more;
          said = said_more;
        }

  pub packing_all : {l' : State} {r w : ℕ} → Packing log₀ stale₀ low end l'.pages l'.marks r w → end ≤ r → Packed l l' w
  unfolding lasts
  packing_all {l'} {r} {w} p h = record {
    lasts_are = sym (p.done ∙ rw (part_none log₀ end can.within r h) (append-nil (take w l'.pages)));
    within = omega (arith, p.behind, p.within, p.same_length, can.within);
    live = p.live;
    said = p.said;
  }
