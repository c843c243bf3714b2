-- The resident frames, told in two columns. Assumes nothing.
use Prim.Native.Nat.{◌*◌, ◌^◌, ℕ, ◌+◌, ◌-◌, ◌≤◌, ◌<◌}
use mir.Syntax.{w64}
use mir.Val.{Fits}
use mathlib.Core.Path.{◌≡◌, refl, sym, ap, ◌∙◌}
use mathlib.Core.Bool.{Bool, false, true}
use mathlib.Core.List.{List, [], ◌∷◌, ◌++◌, map, map-append}
use native.Mathlib.Omega.{arith}
use lib.ListN.{length, get_or, take, drop, set, length-set, length-append, length-map, take-append-drop}
use lib.Seq.{drop-drop}
use Rattle.pages.specs.Rows.{over}
use Rattle.pages.specs.Pages.{has}
use Rattle.pages.proofs.Rows.{over_more}
use Rattle.frames.specs.Frames.{pages_of, marks_of}
use Rattle.frames.proofs.By.{pages_by, marks_by}
use Rattle.recency.specs.Order.{lasts, order}
use Rattle.recency.specs.declared.Mark.{Mark}
use Rattle.recency.specs.declared.Mark.TheVariants.{Clean}
use Rattle.recency.specs.Held.{part, is_stale, is_written, residents, wrote, frames, CanSave}
use Rattle.recency.specs.declared.Queue.{Queue}
use Rattle.recency.specs.State.{State}
use Rattle.recency.proofs.Order.{order_live, order_stale, length-order}
use Rattle.recency.proofs.Counting.{part_next, part_none, place_live, place_stale, lasts_grow}
use Rattle.recency.proofs.Places.{wrote_live}

-- Those from place r on are.
pub record Saving (log : List ℕ) (stale : List Mark) (low end : ℕ) (list₀ : List ℕ) (kept₀ : List Bool) (list : List ℕ) (kept : List Bool) (i r : ℕ) : Type 0 where
  pub from : low ≤ r
  pub within : r ≤ end
  pub count : i ≡ length (order (drop r (take end log)))
  pub same_length : length list ≡ length list₀
  pub kept-length : length kept ≡ length kept₀
  pub done : list ≡ over (order (drop r (take end log))) list₀
  pub marks_done : kept ≡ over (map (wrote log stale low end) (order (drop r (take end log)))) kept₀

module _ {l : State} {list₀ : List ℕ} {kept₀ : List Bool} (can : CanSave l list₀ kept₀) where
  abbrev log : List ℕ
  log = l.pages

  abbrev stale : List Mark
  stale = l.marks

  abbrev q : Queue
  q = l.queue

  pub saving_none : Saving log stale q.low q.now list₀ kept₀ list₀ kept₀ 0 q.now
  unfolding over order lasts
  saving_none =
      let z : drop q.now (take q.now log) ≡ [] = part_none log q.now can.logged.within q.now (omega arith) in
      record { from = can.logged.behind; within = omega arith; count = rw z; same_length = refl; kept-length = refl; done = rw z; marks_done = rw z }

  abbrev mark : ℕ → Bool
  mark = wrote log stale q.low q.now

  module _ {list : List ℕ} {kept : List Bool} {i r : ℕ} (p : Saving log stale q.low q.now list₀ kept₀ list kept i r) where
    module _ (h : q.low < r) where
      abbrev behind : List ℕ
      behind = drop r (take q.now log)

      abbrev page : ℕ
      page = get_or log (r - 1) 0

      one : r - 1 + 1 ≡ r
      one = omega arith

      pub saving_reads : r - 1 < length log
      saving_reads = omega (arith, p.within, can.logged.within)

      pub saving_stales : r - 1 < length stale
      saving_stales = omega (arith, saving_reads, can.logged.stale_long)

      next : drop (r - 1) (take q.now log) ≡ page ∷ behind
      next = part_next log q.now can.logged.within (r - 1) (omega (arith, p.within)) ∙ rw one

      pub saving_passed : is_stale (get_or stale (r - 1) Clean) ≡ true → Saving log stale q.low q.now list₀ kept₀ list kept i (r - 1)
      saving_passed n =
          let d = place_stale can.logged.marked {r = r - 1} (omega arith) (omega (arith, p.within)) n in
          let z : order (drop (r - 1) (take q.now log)) ≡ order behind = rw next (order_stale page behind (rw one at d)) in
          record {
            from = omega arith;
            within = omega (arith, p.within);
            count = rw z p.count;
            same_length = p.same_length;
            kept-length = p.kept-length;
            done = rw z p.done;
            marks_done = rw z p.marks_done;
          }

      -- There is room for it: it is one of the resident pages.
      most : length (order (drop (r - 1) (take q.now log))) ≤ q.resident
      unfolding residents
      most =
          let w = part log q.low q.now in
          let j = r - 1 - q.low in
          let u : q.low + j ≡ r - 1 = omega arith in
          let d : drop j w ≡ drop (r - 1) (take q.now log) = drop-drop j q.low (take q.now log) ∙ rw u in
          let g = lasts_grow (take j w) (drop j w) in
          omega (arith, rw (take-append-drop j w, d) at g, length-order w, length-order (drop (r - 1) (take q.now log)), can.logged.count)

      module _ (n : is_stale (get_or stale (r - 1) Clean) ≡ false) where
        again : has page (drop (r - 1 + 1) (take q.now log)) ≡ false
        again = place_live can.logged.marked {r = r - 1} (omega arith) (omega (arith, p.within)) n

        live : order (drop (r - 1) (take q.now log)) ≡ order behind ++ (page ∷ [])
        live = rw next (order_live page behind (rw one at again))

        grown : length (order (drop (r - 1) (take q.now log))) ≡ i + 1
        grown = ap length live ∙ length-append (order behind) (page ∷ []) ∙ omega (arith, p.count)

        pub saving_writes : i < length list
        saving_writes = omega (arith, most, p.same_length, can.room, grown)

        pub saving_keeps : i < length kept
        saving_keeps = omega (arith, most, p.kept-length, can.room, can.marks, grown)

        pub saving_fits : length list₀ * 8 < 2 ^ 63 → Fits w64 (i * 8)
        saving_fits b = let w = saving_writes in record { fits = omega (arith, p.same_length) }

        pub saving_adds : length list₀ * 8 < 2 ^ 63 → Fits w64 (i + 1)
        saving_adds b = let w = saving_writes in record { fits = omega (arith, p.same_length) }

        -- Its place says whether it was written.
        mark_is : mark page ≡ is_written (get_or stale (r - 1) Clean)
        mark_is = wrote_live log q.low q.now can.logged.within stale (r - 1) (omega arith) (omega (arith, p.within)) again

        marks_more : set kept i (is_written (get_or stale (r - 1) Clean)) ≡ over (map mark (order (drop (r - 1) (take q.now log)))) kept₀
        marks_more =
            let b = map mark (order behind) in
            let k : length b ≡ i = length-map (order behind) mark ∙ sym p.count in
            rw (
              live,
              map-append mark (order behind) (page ∷ []),
              mark_is,
              ← over_more b (is_written (get_or stale (r - 1) Clean) ∷ []) kept₀ (omega (arith, k, most, can.room, can.marks, grown)),
              k,
              p.marks_done,
            )

        pub saving_more : Saving log stale q.low q.now list₀ kept₀ (set list i page) (set kept i (is_written (get_or stale (r - 1) Clean))) (i + 1) (r - 1)
        saving_more = record {
          from = omega arith;
          within = omega (arith, p.within);
          count = sym grown;
          same_length = length-set list i page ∙ p.same_length;
          kept-length = length-set kept i (is_written (get_or stale (r - 1) Clean)) ∙ p.kept-length;
          done = rw (live, ← over_more (order behind) (page ∷ []) list₀ (omega (arith, most, can.room, grown, p.count)), ← p.count, p.done);
          marks_done = marks_more;
        }

    module _ (h : r ≤ q.low) where
      whole : r ≡ q.low
      whole = omega (arith, p.from)

      pub saving_pages : list ≡ over (pages_of (frames l)) list₀
      unfolding frames residents
      saving_pages = rw (pages_by mark (residents l), ← whole) p.done

      pub saving_marks : kept ≡ over (marks_of (frames l)) kept₀
      unfolding frames residents
      saving_marks =
          p.marks_done
          ∙ ap (λ (j : ℕ). over (map mark (order (drop j (take q.now log)))) kept₀) whole
          ∙ rw (marks_by mark (residents l))
