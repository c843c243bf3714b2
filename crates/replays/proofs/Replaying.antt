-- `replay_columns`, from its verdict and from what the loop leaves. Assumes nothing.
use Prim.Native.Nat.{ℕ, ◌+◌, ◌*◌, ◌≤◌}
use mathlib.Core.Path.{◌≡◌, sym, ◌∙◌}
use mathlib.Core.Bool.{Bool, false}
use mathlib.Core.List.{List}
use native.Mathlib.Omega.{arith}
use lib.ListN.{length, take}
use Rattle.limits.proofs.Numbers.{items_most}
use Rattle.pages.specs.Rows.{over}
use Rattle.pages.specs.Pages.{Distinct}
use Rattle.frames.specs.Frames.{pages_of, marks_of, frames_of}
use Rattle.frames.specs.declared.Frame.{Frame}
use Rattle.frames.proofs.Columns.{frames-pages, frames_marks, pages_over, marks_over, pages-take}
use Rattle.trace.specs.Layout.{header, items, items_from}
use Rattle.trace.specs.Refusals.{row}
use Rattle.trace.specs.declared.Reason.{Reason}
use Rattle.trace.specs.declared.Refusal.{Refusal}
use Rattle.std.specs.Prelude.{Ok, Err}
use Rattle.trace.specs.Verdict.{Verdict, Sound, Faulty}
use Rattle.trace.proofs.Allowed.{allowed_facts}
use Rattle.trace.proofs.Checking.{sound_file}
use Rattle.trace.proofs.Items.{items_from_lem, length_from}
use Rattle.lru_cache.specs.Lru.{replay, words}
use Rattle.lru_cache.specs.Tally.{nothing, tally, per_million}
use Rattle.replays.specs.Replay.{bad_start, replay_verdict, replay_of, summary_of, replay_answer, frames_after, events_after}
use Rattle.lru_cache.specs.Passes.{CanRun, Ran}
use Rattle.lru_cache.specs.declared.Tally.{Tally}
use Rattle.recency.specs.State.{State}
use Rattle.replays.specs.declared.Summary.{Summary}
use Rattle.lru_cache.proofs.Counting.{tally_counts, fetches_few}
use Rattle.replays.proofs.Judging.{Playable, sound_playable}
use Rattle.replays.proofs.Fine.{starts_fine}

module _ (f : List ℕ) (K : ℕ) (cache : List ℕ) (kept : List Bool) (resident : ℕ) (events : List ℕ) (m : length kept ≡ length cache) where
  abbrev frames : List Frame
  frames = frames_of cache kept

  pages_are : pages_of frames ≡ cache
  pages_are = frames-pages cache kept m

  marks_are : marks_of frames ≡ kept
  marks_are = frames_marks cache kept m

  module _ {v : Verdict} (e : v ≡ replay_verdict f K cache resident (length events)) where
    judged : replay_verdict f K (pages_of frames) resident (length events) ≡ v
    judged = rw pages_are (sym e)

    -- ---- a refusal is told, and changes nothing

    module _ {r : Reason} (q : v ≡ Faulty r) where
      pub refused-answer : {a : Refusal} → a ≡ row r → Err (record { refusal = a; resident = resident }) ≡ replay_answer f K frames resident (length events)
      unfolding replay_answer
      refused-answer t = rw (judged, q, t, replay_answer)

      pub refused_cache : cache ≡ pages_of (frames_after f K frames resident (length events))
      unfolding frames_after
      refused_cache = rw (judged, q, frames_after) (sym pages_are)

      pub refused-kept : kept ≡ marks_of (frames_after f K frames resident (length events))
      unfolding frames_after
      refused-kept = rw (judged, q, frames_after) (sym marks_are)

      pub refused_events : events ≡ events_after f K frames resident events
      unfolding events_after
      refused_events = rw (judged, q, events_after)

    -- ---- a replay is told, and stands in the buffers

    module _ (s : v ≡ Sound) where
      pub done_sound : replay_verdict f K cache resident (length events) ≡ Sound
      done_sound = sym e ∙ s

      pub done_answer : {a : Summary} → a ≡ summary_of f K frames resident → Ok a ≡ replay_answer f K frames resident (length events)
      unfolding replay_answer
      done_answer t = rw (judged, s, t, replay_answer)

      pub done_cache : {cache' : List ℕ} → cache' ≡ over (pages_of (replay_of f K frames resident).final) cache → cache' ≡ pages_of (frames_after f K frames resident (length events))
      unfolding frames_after
      done_cache t = t ∙ rw (judged, s, frames_after, pages_over (replay_of f K frames resident).final frames, pages_are)

      pub done_kept : {kept' : List Bool} → kept' ≡ over (marks_of (replay_of f K frames resident).final) kept → kept' ≡ marks_of (frames_after f K frames resident (length events))
      unfolding frames_after
      done_kept t = t ∙ rw (judged, s, frames_after, marks_over (replay_of f K frames resident).final frames, marks_are)

      pub done_events : {events' : List ℕ} → events' ≡ over (words (replay_of f K frames resident).events) events → events' ≡ events_after f K frames resident events
      unfolding events_after
      done_events t = t ∙ rw (judged, s, events_after)

  -- ---- the replay of a file that is not refused

  module _ (s : replay_verdict f K cache resident (length events) ≡ Sound) where
    able : Playable f K cache resident (length events)
    able = sound_playable f K cache resident (length events) s

    long : length f ≡ 23 + 19 * (header f).items
    long = (sound_file f able.file_is).long

    -- The items can be read.
    pub played_long : 23 + 19 * (header f).items ≤ length f
    played_long = omega (arith, long)

    module _ {n : ℕ} (q : n ≡ (header f).items) where
      -- The loop may begin.
      pub played_run : CanRun n K resident cache kept events
      played_run =
          let a = able in
          let b : bad_start K (pages_of frames) resident ≡ false = rw pages_are a.start_is in
          let d : Distinct (pages_of (take resident frames)) = (starts_fine K frames resident b).distinct in
          rw q (record {
            few = (allowed_facts (header f) (sound_file f a.file_is).keeps).few;
            some = a.least;
            most = a.most;
            places = a.places;
            marks = m;
            within = a.within;
            once = rw (pages-take resident frames, pages_are) at d;
            room = a.fits;
          })

      module _ {r : Tally} {log' : State} {cache' : List ℕ} {kept' : List Bool} {events' : List ℕ}
          (d : Ran (replay K (take resident frames) (items_from f 0 n)) (tally K (take resident frames) nothing (items_from f 0 n))
          cache kept events r log' cache' kept' events') where
        items_are : items_from f 0 n ≡ items f
        items_are = rw (q, items_from_lem f)

        -- There are no more fetches than items.
        pub played_few : r.fetches ≤ items_most
        played_few =
            let t = items_from f 0 n in
            let c = tally_counts K (take resident frames) t in
            let can = played_run in
            rw d.tally_is (omega (arith, fetches_few K (take resident frames) t, length_from f 0 n, can.few))

        -- The answer is the tally, the residents and the rate.
        pub played_summary : {p : ℕ} → p ≡ per_million r.fetches r.items
            → ◌≡◌ {A = Summary} (record { items = r.items; fetches = r.fetches; evictions = r.evictions; resident = log'.queue.resident; permillion = p })
            (summary_of f K frames resident)
        unfolding summary_of replay_of
        played_summary w = rw (w, d.tally_is, d.resident_is, items_are)

        -- The columns hold the residents and their marks.
        pub played_cache : cache' ≡ over (pages_of (replay_of f K frames resident).final) cache
        unfolding replay_of
        played_cache = d.cache_is ∙ rw items_are

        pub played_kept : kept' ≡ over (marks_of (replay_of f K frames resident).final) kept
        unfolding replay_of
        played_kept = d.kept_is ∙ rw items_are

        -- And the events are written.
        pub played_events : events' ≡ over (words (replay_of f K frames resident).events) events
        unfolding replay_of
        played_events = d.events_are ∙ rw items_are
