-- Rows of the paper's trace T, taken and refused, by computation. Assumes nothing.
use Rattle.std.specs.Prelude.{ℕ, ◌≡◌, refl, true, false, List, [], ◌∷◌, map, take, set}
use Rattle.frames.specs.Frames.{framed}
use Rattle.trace.specs.Bytes.{number, number_at, bytes}
use Rattle.trace.specs.Layout.{tag_of, field, encode_header, encode_item, encode_items, encode, header, item}
use Rattle.trace.specs.Rules.{allowed}
use Rattle.trace.specs.Verdict.{first, ◌then◌}
use Rattle.trace.specs.Check.{is_field, is_item, items_verdict, verdict, answer, checked}
use Rattle.trace.specs.Examples.{file_T}
use Rattle.replays.specs.Replay.{replay_verdict, replay_answer}
use Rattle.abi.specs.Rows.{answer_row, replay_row}

-- T whole, its first 22 bytes, and with item 2 at fault.
checks : map (λ (f : List ℕ). answer_row (checked f)) (file_T ∷ take 22 file_T ∷ set file_T 61 7 ∷ [])
    ≡ (0 ∷ 0 ∷ 0 ∷ 0 ∷ 0 ∷ 12 ∷ 12 ∷ 0 ∷ [])
    ∷ (1 ∷ 1 ∷ 0 ∷ 0 ∷ 0 ∷ 0 ∷ 0 ∷ 0 ∷ [])
    ∷ (4 ∷ 1 ∷ 2 ∷ 0 ∷ 0 ∷ 0 ∷ 0 ∷ 0 ∷ [])
    ∷ []
unfolding answer_row encode encode_header encode_items encode_item tag_of field bytes checked answer verdict first ◌then◌ items_verdict is_field is_item allowed header item number_at number
checks = refl

-- A replay of 22 bytes that gives back its resident count, 3.
given_back : replay_row (replay_answer (take 22 file_T) 2 (framed 5 false ∷ framed 6 true ∷ framed 7 false ∷ []) 3 48) ≡ 1 ∷ 1 ∷ 0 ∷ 0 ∷ 0 ∷ 0 ∷ 3 ∷ 0 ∷ []
unfolding replay_row replay_answer replay_verdict encode encode_header encode_items encode_item tag_of field bytes verdict first
given_back = refl
