-- The oldest place of a log that counts. Assumes nothing.
use Prim.Native.Nat.{ℕ, ◌+◌, ◌-◌, ◌≤◌, ◌<◌}
use mathlib.Core.Path.{◌≡◌, refl, sym, ap, ◌∙◌}
use mathlib.Core.Bool.{Bool, true, false}
use mathlib.Core.List.{List, [], ◌∷◌, ◌++◌, append-nil, drop_last, get_last?}
use mathlib.Core.Option.{some}
use native.Mathlib.Omega.{arith}
use lib.ListN.{length, get_or, take, drop, length-append}
use Rattle.pages.proofs.Pages.{last-append, init_append}
use Rattle.frames.specs.Frames.{framed, frames_by}
use Rattle.frames.proofs.By.{by_same, init_by, last_by}
use Rattle.recency.specs.Order.{lasts, order}
use Rattle.recency.specs.declared.Mark.{Mark}
use Rattle.recency.specs.declared.Mark.TheVariants.{Clean}
use Rattle.recency.specs.Held.{is_stale, is_written, residents, wrote, frames, CanEvict, Gone}
use Rattle.recency.specs.declared.Queue.{Queue}
use Rattle.recency.specs.State.{State}
use Rattle.recency.proofs.Order.{order_live, order_stale, has-order}
use Rattle.recency.proofs.Counting.{part_next, part_none, place_live, place_stale}
use Rattle.recency.proofs.Places.{wrote_live, wrote_same}

-- A search for it from low on has come to r.
pub record Aging (l : State) (r : ℕ) : Type 0 where
  pub from : l.queue.low ≤ r
  pub within : r ≤ l.queue.now
  pub rest : order (drop r (take l.queue.now l.pages)) ≡ residents l

module _ {l : State} (can : CanEvict l) where
  abbrev log : List ℕ
  log = l.pages

  abbrev stale : List Mark
  stale = l.marks

  abbrev q : Queue
  q = l.queue

  pub aging_none : Aging l q.low
  unfolding residents
  aging_none = record { from = omega arith; within = can.logged.behind; rest = refl }

  module _ {r : ℕ} (a : Aging l r) where
    module _ (h : r < q.now) where
      pub aging_reads : r < length log
      aging_reads = omega (arith, can.logged.within)

      pub aging_stales : r < length stale
      aging_stales = omega (arith, aging_reads, can.logged.stale_long)

      abbrev behind : List ℕ
      behind = drop (r + 1) (take q.now log)

      pub aging_more : is_stale (get_or stale r Clean) ≡ true → Aging l (r + 1)
      aging_more n = record {
        from = omega (arith, a.from);
        within = omega arith;
        rest = sym (order_stale (get_or log r 0) behind (place_stale can.logged.marked a.from h n)) ∙ rw (part_next log q.now can.logged.within r h) at a.rest;
      }

      -- It is the last of the resident pages.
      here : is_stale (get_or stale r Clean) ≡ false → residents l ≡ order behind ++ (get_or log r 0 ∷ [])
      here e = sym a.rest ∙ rw (part_next log q.now can.logged.within r h) (order_live (get_or log r 0) behind (place_live can.logged.marked a.from h e))

      module _ (e : is_stale (get_or stale r Clean) ≡ false) where
        abbrev later : State
        later = record l { queue = record { resident = q.resident - 1; low = r + 1; now = q.now } }

        pages_are : residents later ≡ drop_last (residents l)
        unfolding residents
        pages_are = sym (ap drop_last (here e) ∙ init_append (order behind) (get_or log r 0) [] ∙ append-nil (order behind))

        -- The pages that stay are written as they were.
        frames_are : frames later ≡ drop_last (frames l)
        unfolding frames residents
        frames_are =
            let w = wrote log stale q.low q.now in
            by_same (wrote log stale (r + 1) q.now) w (residents later)
            (λ p g. wrote_same log q.low q.now can.logged.within stale (r + 1) p (omega (arith, a.from)) (omega arith) (sym (has-order p behind) ∙ g))
            ∙ ap (frames_by w) pages_are
            ∙ sym (init_by w (residents l))

        last_is : get_last? (frames l) ≡ some (framed (get_or log r 0) (is_written (get_or stale r Clean)))
        unfolding frames
        last_is =
            last_by (wrote log stale q.low q.now) (residents l) (ap get_last? (here e) ∙ last-append (order behind) (get_or log r 0) [])
            ∙ ap (λ (b : Bool). some (framed (get_or log r 0) b))
            (wrote_live log q.low q.now can.logged.within stale r a.from h (place_live can.logged.marked a.from h e))

        pub aging_here : Gone l later.queue (framed (get_or log r 0) (is_written (get_or stale r Clean)))
        unfolding residents
        aging_here =
            let c : length (order behind) + 1 ≡ q.resident = sym (ap length (here e) ∙ length-append (order behind) (get_or log r 0 ∷ [])) ∙ can.logged.count in
            record {
              logged = record {
                behind = omega arith;
                within = can.logged.within;
                stale_long = can.logged.stale_long;
                marked = record { are = λ j f g. can.logged.marked.are j (omega (arith, a.from)) g };
                count = omega arith;
              };
              from = omega (arith, a.from);
              now_is = refl;
              frames_are = frames_are;
              last_is = last_is;
            }

    -- It is found before the end.
    pub aging_never : q.now ≤ r → ⊥
    unfolding order lasts
    aging_never h =
        let z : residents l ≡ [] = sym a.rest ∙ ap order (part_none log q.now can.logged.within r h) in
        omega (arith, can.logged.count, ap length z, can.some)
