-- A replay by the columns of the frames that can matter is the replay of the whole row. Assumes nothing.
use Prim.Native.Nat.{ℕ, ◌≤◌, ◌<◌, min}
use mathlib.Core.Path.{◌≡◌, refl, sym, ap, ◌∙◌}
use mathlib.Core.List.{List, ◌++◌}
use mathlib.Core.Bool.{Bool}
use native.Mathlib.Omega.{arith}
use lib.ListN.{length, take, drop, length-map, take-append-drop}
use lib.Seq.{take_all, take-take, length-take-le}
use lib.Dec.{ltb, leb}
use borrow.Author.Tests.{lt-ltb, le-ltb, ltb-true, ltb-false, leb-true}
use Rattle.limits.specs.Sizes.{between}
use Rattle.limits.proofs.Numbers.{cache_least, cache_most, paper}
use Rattle.pages.specs.Rows.{over}
use Rattle.pages.proofs.Choice.{split, and_true}
use Rattle.pages.proofs.Rows.{length_over, sets_over, sets_first}
use Rattle.frames.specs.Frames.{pages_of, marks_of, frames_of}
use Rattle.frames.specs.declared.Frame.{Frame}
use Rattle.frames.proofs.Columns.{frames-whole, pages-take}
use Rattle.trace.specs.Layout.{items}
use Rattle.std.specs.Prelude.{Result, Ok, Err}
use Rattle.trace.specs.Verdict.{Verdict, Sound, Faulty, first}
use Rattle.trace.specs.declared.Reason.{Reason}
use Rattle.lru_cache.proofs.Room.{stays_fine}
use Rattle.replays.specs.Replay.{bad_start, replay_tests, replay_verdict, replay_of, summary_of, replay_answer, frames_after, events_after}
use Rattle.replays.proofs.Judging.{replay_then, Playable, sound_playable}
use Rattle.replays.specs.declared.Summary.{Summary}
use Rattle.replays.specs.declared.Unreplayed.{Unreplayed}
use Rattle.replays.proofs.Fine.{starts_fine}
use Rattle.cache.specs.Reach.{reached}

-- ---- how far a row reaches

pub reach_short : (n : ℕ) → n < cache_most → n ≡ reached n
unfolding reached
reach_short n h = rw (lt-ltb n cache_most h)

pub reach_long : (n : ℕ) → cache_most ≤ n → cache_most ≡ reached n
unfolding reached
reach_long n h = rw (le-ltb n cache_most h)

pub reach_min : (n : ℕ) → min n cache_most ≡ reached n
reach_min n =
    split (ltb n cache_most)
    (λ e. let h = ltb-true n cache_most e in let m : min n cache_most ≡ n = omega arith in m ∙ reach_short n h)
    (λ e. let h = ltb-false n cache_most e in let m : min n cache_most ≡ cache_most = omega arith in m ∙ reach_long n h)

pub reach_within : (n : ℕ) → reached n ≤ n
unfolding reached
reach_within n = split (ltb n cache_most) (λ e. rw e (omega arith)) (λ e. rw e (ltb-false n cache_most e))

pub reach_most : (n : ℕ) → reached n ≤ cache_most
unfolding reached
reach_most n = split (ltb n cache_most) (λ e. rw e (let h = ltb-true n cache_most e in omega arith)) (λ e. rw e (omega arith))

-- ---- the verdict

module _ (K : ℕ) (most : K ≤ cache_most) (P : List ℕ) (m : ℕ) where
  -- A start that is longer than any cache is judged by what can matter.
  start_long : cache_most ≤ length P → bad_start K (take cache_most P) m ≡ bad_start K P m
  unfolding bad_start
  start_long h =
      let l : length (take cache_most P) ≡ cache_most = length-take-le cache_most P h in
      split (ltb K m)
      (λ e. rw e)
      (λ e.
      let z = ltb-false K m e in
      let t : take m (take cache_most P) ≡ take m P = take-take m cache_most P (omega arith) in
      rw (e, l, le-ltb cache_most K most, le-ltb (length P) K (omega arith), t))

  start_wide : bad_start K (take (reached (length P)) P) m ≡ bad_start K P m
  start_wide =
      split (ltb (length P) cache_most)
      (λ e. rw (← reach_short (length P) (ltb-true (length P) cache_most e), take_all (length P) P (omega arith)))
      (λ e. let h = ltb-false (length P) cache_most e in rw (← reach_long (length P) h) (start_long h))

module _ (f : List ℕ) (K : ℕ) (P : List ℕ) (m room : ℕ) where
  tests_wide : first (replay_tests f K (take (reached (length P)) P) m room) ≡ first (replay_tests f K P m room)
  unfolding first
  tests_wide =
      split (between cache_least cache_most K)
      (λ e. let b = leb-true K cache_most (and_true (leb cache_least K) (leb K cache_most) e).1 in rw (start_wide K (omega (arith, paper.cache.1)) P m))
      (λ e. rw e)

  verdict_wide : replay_verdict f K (take (reached (length P)) P) m room ≡ replay_verdict f K P m room
  verdict_wide = replay_then f K (take (reached (length P)) P) m room ∙ rw tests_wide (sym (replay_then f K P m room))

by_verdict : {C : Type 0} (v : Verdict) → (v ≡ Sound → C) → ((r : Reason) → v ≡ Faulty r → C) → C
by_verdict (Ok _) s t = s refl
by_verdict (Err r) s t = t r refl

-- A row over the front of a row, of which only the first n places were lent.
over_within : {A : Type 0} (s l : List A) (n : ℕ) → length s ≤ n → n ≤ length l → over (over s (take n l)) l ≡ over s l
unfolding over
over_within {A = A} s l n h g =
    let t = take n l in
    let a : length t ≡ n = length-take-le n l g in
    let b : length (over s t) ≡ n = length_over s t (omega arith) ∙ a in
    ap (λ (k : ℕ). over s t ++ drop k l) b
    ∙ ap (λ (r : List A). r ++ drop n l) (sym (sets_over s t (omega arith)))
    ∙ sets_first n l 0 s (omega arith)
    ∙ sets_over s l (omega arith)

-- A replay leaves no more than K frames, and the row as long as it was.
final_few : (f : List ℕ) (K : ℕ) (fs : List Frame) (m room : ℕ) → Playable f K (pages_of fs) m room → length (replay_of f K fs m).final ≤ K
unfolding replay_of
final_few f K fs m room a = (stays_fine K a.least (take m fs) (items f) (starts_fine K fs m a.start_is)).room

pub after-length : (f : List ℕ) (K : ℕ) (fs : List Frame) (m room : ℕ) → length (frames_after f K fs m room) ≡ length fs
unfolding frames_after
after-length f K fs m room =
    by_verdict (replay_verdict f K (pages_of fs) m room)
    (λ s.
    let a = sound_playable f K (pages_of fs) m room s in
    rw (s, frames_after) (length_over (replay_of f K fs m).final fs (omega (arith, final_few f K fs m room a, a.places, length-map fs (λ (g : Frame). g.page)))))
    (λ r q. rw (q, frames_after))

module _ (f : List ℕ) (K : ℕ) (ys : List Frame) (m : ℕ) (es : List ℕ) {n : ℕ} (h : n ≡ reached (length ys)) where
  abbrev P : List ℕ
  P = pages_of ys

  abbrev Y : List Frame
  Y = take n ys

  long : length P ≡ length ys
  long = length-map ys (λ (g : Frame). g.page)

  pages_are : pages_of Y ≡ take (reached (length P)) P
  pages_are = pages-take n ys ∙ rw (h, long)

  same_verdict : replay_verdict f K (pages_of Y) m (length es) ≡ replay_verdict f K P m (length es)
  same_verdict = rw pages_are (verdict_wide f K P m (length es))

  whole : frames_of (pages_of Y) (marks_of Y) ≡ Y
  whole = frames-whole Y

  within : n ≤ length ys
  within = rw h (reach_within (length ys))

  module _ (s : replay_verdict f K P m (length es) ≡ Sound) where
    able : Playable f K P m (length es)
    able = sound_playable f K P m (length es) s

    reaches : K ≤ n
    reaches =
        let a = able in
        let c = paper.cache.1 in
        split (ltb (length ys) cache_most)
        (λ e. let z = reach_short (length ys) (ltb-true (length ys) cache_most e) in omega (arith, a.places, long))
        (λ e. let z = reach_long (length ys) (ltb-false (length ys) cache_most e) in omega (arith, a.most))

    start_is : take m Y ≡ take m ys
    start_is = take-take m n ys (omega (arith, able.within, reaches))

    run_is : replay_of f K Y m ≡ replay_of f K ys m
    unfolding replay_of
    run_is = rw start_is

    few : length (replay_of f K ys m).final ≤ n
    few = omega (arith, final_few f K ys m (length es) able, reaches)

  pub answer_wide : replay_answer f K (frames_of (pages_of Y) (marks_of Y)) m (length es) ≡ replay_answer f K ys m (length es)
  unfolding replay_answer summary_of replay_of
  answer_wide =
      rw whole
      (by_verdict (replay_verdict f K P m (length es))
      (λ s. rw (same_verdict, s, replay_answer, start_is s))
      (λ r q. rw (same_verdict, q, replay_answer)))

  abbrev X : List Frame
  X = frames_after f K (frames_of (pages_of Y) (marks_of Y)) m (length es)

  over_self : over (take n ys) ys ≡ ys
  unfolding over
  over_self = rw (length-take-le n ys within) (take-append-drop n ys)

  left : over X ys ≡ frames_after f K ys m (length es)
  unfolding frames_after
  left =
      rw whole
      (by_verdict (replay_verdict f K P m (length es))
      (λ s. rw (same_verdict, s, frames_after, run_is s) (over_within (replay_of f K ys m).final ys n (few s) within))
      (λ r q. rw (same_verdict, q, frames_after) over_self))

  pub frames_wide : over (frames_of (pages_of X) (marks_of X)) ys ≡ frames_after f K ys m (length es)
  frames_wide = rw (frames-whole X) left

  pub events_wide : events_after f K (frames_of (pages_of Y) (marks_of Y)) m es ≡ events_after f K ys m es
  unfolding events_after
  events_wide =
      rw whole
      (by_verdict (replay_verdict f K P m (length es))
      (λ s. rw (same_verdict, s, events_after, run_is s))
      (λ r q. rw (same_verdict, q, events_after)))

  -- What a replay by the columns of the frames that can matter tells and leaves is what a replay of the row does.
  pub by_columns : {ps P' E' : List ℕ} {ws W' : List Bool} {r : Result Summary Unreplayed} {Z : List Frame}
      → ps ≡ pages_of Y → ws ≡ marks_of Y
      → r ≡ replay_answer f K (frames_of ps ws) m (length es)
      → P' ≡ pages_of (frames_after f K (frames_of ps ws) m (length es))
      → W' ≡ marks_of (frames_after f K (frames_of ps ws) m (length es))
      → E' ≡ events_after f K (frames_of ps ws) m es
      → Z ≡ over (frames_of P' W') ys
      → (r ≡ replay_answer f K ys m (length es)) × ((Z ≡ frames_after f K ys m (length es)) × (E' ≡ events_after f K ys m es))
  by_columns {ps = ps} {ws = ws} lp lw a p w e s =
      let q : frames_of ps ws ≡ frames_of (pages_of Y) (marks_of Y) = rw (lp, lw) in
      (rw q at a ∙ answer_wide, (rw (p, w, q) at s ∙ frames_wide, rw q at e ∙ events_wide))
