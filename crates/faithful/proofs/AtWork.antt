-- Demand 3 at work on trace T: its premises are met, and what it promises is held to the literal fetches and residents. Assumes nothing.
use Prim.Native.Nat.{ℕ}
use mathlib.Core.Path.{◌≡◌, refl, ap, ◌∙◌}
use mathlib.Core.Bool.{true, false}
use mathlib.Core.List.{List, [], ◌∷◌, map}
use native.Mathlib.Omega.{arith}
use lib.ListN.{length, take, replicate}
use Rattle.pages.specs.Rows.{flat, over}
use Rattle.pages.specs.Pages.{has, add}
use Rattle.frames.specs.Frames.{framed}
use Rattle.frames.specs.declared.Frame.{Frame}
use Rattle.trace.specs.Bytes.{number, number_at, bytes}
use Rattle.trace.specs.Layout.{tag_of, field, encode_header, encode_item, encode_items, encode, header, item, items_of, items}
use Rattle.trace.specs.Rules.{allowed}
use Rattle.trace.specs.Verdict.{first, ◌then◌}
use Rattle.trace.specs.Check.{is_field, is_item, items_verdict, verdict, answer, checked}
use Rattle.trace.specs.Promises.{IsFile}
use Rattle.trace.specs.Examples.{T, whole, file_T}
use Rattle.trace.proofs.Accepted.{is_determined}
use Rattle.trace.proofs.Octets.{octets_file}
use Rattle.epochs.specs.Epochs.{pages, cut, epochs}
use Rattle.epochs.specs.Keep.{is_first, is_last, phase, keeps, settle, marked, reduce}
use Rattle.slim.specs.Reduce.{mode_of, kept_of, reduced_header, reduced_file}
use Rattle.join.specs.Join.{joined_kind, joined_header, joined_file}
use Rattle.join.specs.Trees.{files, joined}
use Rattle.lru_cache.specs.Lru.{replay}
use Rattle.replays.specs.Replay.{frames_after, events_after}
use Rattle.faithful.specs.Parts.{recorded}
use Rattle.faithful.specs.Demand3.{IsRecording, Portion, IsCut, short, IsJoinOf, IsCache, Faithful}
use Rattle.faithful.specs.Corollaries.{portion_of, told_transfers, CostsAs, SameReplay}
use Rattle.faithful.specs.AtWork.{three, left_first, right_first, lent_cache, lent_events, fetches_of_T, residents_of_T, transfers_of_T}
use Rattle.faithful.proofs.Files.{demand_3}
use Rattle.faithful.proofs.Corollaries.{cut_anywhere, any_bracketing, second_transfers_alike, like_the_whole_file}

-- The three files, and how each is reduced.
abbrev portions : List Portion
portions = map portion_of three

-- ---- the premises

-- T is what its own file says, so it keeps the rules.
recording : IsRecording T
unfolding checked answer verdict first ◌then◌ items_verdict is_item is_field allowed
    encode encode_header encode_items encode_item tag_of field bytes header items items_of item number_at number
recording =
    let a = (is_determined file_T (whole 12) (octets_file (whole 12) T) refl).keeps_rules in
    record { items_fit = a.items_fit; rising = a.rising }

-- It is cut into three parts, each of which fits a file.
cut_in_three : IsCut T portions
unfolding flat recorded
cut_in_three = cut_anywhere three recording (omega arith)

joined_in_order : IsJoinOf portions left_first
unfolding files joined short joined_file joined_header joined_kind reduced_file reduced_header kept_of mode_of reduce epochs cut marked settle keeps phase is_first is_last pages
    has add flat encode encode_header encode_items encode_item tag_of field bytes header items items_of item number_at number
joined_in_order = record { in_order = refl; within = omega arith }

cache_of_three : IsCache portions 3 lent_cache 3
unfolding has
cache_of_three = record {
  least = omega arith;
  most = omega arith;
  filters = omega arith;
  places = omega arith;
  fits = omega arith;
  distinct = (refl, (refl, (refl, tt)));
}

-- ---- what is promised

-- From that start, with room for the join alone, none of the three reductions and neither join is refused, and the join replays as T.
pub at_work : Faithful T portions left_first 3 lent_cache 3 lent_events
unfolding joined short joined_file joined_header joined_kind reduced_file reduced_header kept_of mode_of reduce epochs cut marked settle keeps phase is_first is_last pages
    has add flat encode encode_header encode_items encode_item tag_of field bytes header items items_of item number_at number
at_work = demand_3 T recording portions cut_in_three left_first joined_in_order 3 lent_cache 3 cache_of_three lent_events (omega arith)

-- So it leaves T's three fetches in the events buffer, and T's residents with their marks in the row of frames.
pub fetches_left : events_after (joined left_first) 3 lent_cache 3 lent_events ≡ 40 ∷ 2 ∷ 4 ∷ 1 ∷ 60 ∷ 3 ∷ 9 ∷ 2 ∷ 80 ∷ 4 ∷ 2 ∷ 1 ∷ replicate 28 7
unfolding over
fetches_left = at_work.replays.fetches ∙ ap (λ (w : List ℕ). over w lent_events) fetches_of_T

pub residents_left : frames_after (joined left_first) 3 lent_cache 3 40 ≡ framed 1 true ∷ framed 3 false ∷ framed 4 false ∷ framed 0 false ∷ []
unfolding over
residents_left = at_work.replays.residents ∙ ap (λ (w : List Frame). over w lent_cache) residents_of_T

-- And the events buffer tells T's one second transfer.
transfers_alike : CostsAs T (joined left_first) 3 lent_cache 3 lent_events
unfolding joined short joined_file joined_header joined_kind reduced_file reduced_header kept_of mode_of reduce epochs cut marked settle keeps phase is_first is_last pages
    has add flat encode encode_header encode_items encode_item tag_of field bytes header items items_of item number_at number
transfers_alike = second_transfers_alike T recording portions cut_in_three left_first joined_in_order 3 lent_cache 3 cache_of_three lent_events (omega arith)

pub transfers_left : told_transfers (length (replay 3 (take 3 lent_cache) T).events) (events_after (joined left_first) 3 lent_cache 3 lent_events) ≡ 1
transfers_left = transfers_alike.told ∙ transfers_of_T

-- In the other bracketing the joins are within the limits too, and come to the same file.
pub other_bracketing : IsJoinOf portions right_first × (joined left_first ≡ joined right_first)
unfolding files
other_bracketing = any_bracketing T recording portions cut_in_three left_first right_first joined_in_order refl

-- T is itself a file, so the join replays like that file, in buffers with room for it.
pub like_T : SameReplay (joined right_first) file_T 3 lent_cache 3 (replicate 48 7)
unfolding files checked answer verdict first ◌then◌ items_verdict is_item is_field allowed
    encode encode_header encode_items encode_item tag_of field bytes header items items_of item number_at number
like_T =
    let f : IsFile file_T = record { bytes = octets_file (whole 12) T; accepted = refl } in
    ((like_the_whole_file file_T f refl portions cut_in_three right_first refl).1 3 lent_cache 3 cache_of_three (replicate 48 7)).1 (omega arith)
