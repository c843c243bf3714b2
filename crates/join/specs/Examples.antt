-- Joins of some files, and some that are refused, by computation. Assumes nothing.
use Rattle.std.specs.Prelude.{ℕ, ◌≡◌, refl, true, false, List, [], ◌∷◌, ◌++◌, map, length, take, set, replicate}
use Rattle.pages.specs.Rows.{over}
use Rattle.trace.specs.Bytes.{number, number_at, bytes}
use Rattle.trace.specs.Layout.{tag_of, field, encode_header, encode_item, encode_items, encode, header, item, item_at, items_of, items}
use Rattle.trace.specs.Rules.{allowed}
use Rattle.trace.specs.Refusals.{refused, of_second}
use Rattle.trace.specs.Verdict.{first, ◌then◌}
use Rattle.trace.specs.Check.{is_field, is_item, items_verdict, verdict}
use Rattle.trace.specs.Examples.{◌at◌, top, whole}
use Rattle.trace.specs.declared.Header.{Header}
use Rattle.trace.specs.declared.Item.{Item}
use Rattle.trace.specs.declared.Reason.TheVariants.{JoinTooLarge}
use Rattle.trace.specs.Verdict.{Faulty}
use Rattle.join.specs.Join.{joined_kind, joined_header, joined_file, meets_falling, too_large, join_tests, judged, join_answer, join_out}
use Rattle.std.specs.Prelude.{Ok, Err}

-- ---- what is joined

-- "Kind 0 if both are 0, kind 1 if neither is 2 and one is 1, otherwise kind 2": 0 with each of 0, 1, 2; 1 with each; 2 with each.
kinds : map (λ (a : ℕ). map (joined_kind a) (0 ∷ 1 ∷ 2 ∷ [])) (0 ∷ 1 ∷ 2 ∷ [])
    ≡ (0 ∷ 1 ∷ 2 ∷ [])
    ∷ (1 ∷ 1 ∷ 2 ∷ [])
    ∷ (2 ∷ 2 ∷ 2 ∷ [])
    ∷ []
unfolding joined_kind
kinds = refl

-- A header with these four values, and the file of it and some items.
abbrev heading : ℕ → ℕ → ℕ → ℕ → Header
heading kind filter references count = record { kind = kind; filter = filter; references = references; items = count }

abbrev file : ℕ → ℕ → ℕ → List Item → List ℕ
file kind filter references t = encode (heading kind filter references (length t)) t

-- Two items reduced by FastSlim with filter size 8, of 5 references, and one by FastSlim-Demand with 3, of 9; the second begins at the time at which the first ends.
abbrev earlier : List ℕ
earlier = file 1 8 5 (1 at 10 ∷ 2 at 20 ∷ [])

abbrev later : List ℕ
later = file 2 3 9 (3 at 20 ∷ [])

-- Their join takes 80 bytes.
abbrev together : List ℕ
together = file 2 8 14 (1 at 10 ∷ 2 at 20 ∷ 3 at 20 ∷ [])

-- "References added; the larger filter size", whichever file has it; and the answer is the header of the joined file.
headers : (
    join_answer earlier later 80
    ∷ join_answer later (file 1 8 5 (1 at 20 ∷ 2 at 30 ∷ [])) 80
    ∷ join_answer (file 0 0 1 (1 at 10 ∷ [])) (file 0 0 1 (1 at 10 ∷ [])) 80
    ∷ join_answer (file 0 0 2 (0 at 10 ∷ top at 10 ∷ [])) (file 0 0 1 (top at 10 ∷ [])) 80
    ∷ []
    )
    ≡ Ok (heading 2 8 14 3)
    ∷ Ok (heading 2 8 14 3)
    ∷ Ok (heading 0 0 2 2)
    ∷ Ok (heading 0 0 3 3)
    ∷ []
unfolding join_answer judged meets_falling too_large joined_header joined_kind
    encode encode_header encode_items encode_item tag_of field bytes verdict first ◌then◌ items_verdict is_field is_item allowed header item_at item number_at number
headers = refl

-- "Items of the first, then of the second."
in_order : items (joined_file earlier later) ≡ 1 at 10 ∷ 2 at 20 ∷ 3 at 20 ∷ []
unfolding joined_file joined_header joined_kind encode encode_header encode_items encode_item tag_of field bytes header items items_of item number_at number
in_order = refl

-- ---- the output

-- The joined file, and beyond it what there was.
output : join_out earlier later (replicate 83 7) ≡ together ++ (7 ∷ 7 ∷ 7 ∷ [])
unfolding join_out judged meets_falling too_large joined_file joined_header joined_kind over
    encode encode_header encode_items encode_item tag_of field bytes verdict first ◌then◌ items_verdict is_field is_item allowed header items items_of item_at item number_at number
output = refl

-- 11, "shorter than the joined file": 80 bytes are room, 79 are not.
room : (join_answer earlier later 80 ∷ join_answer earlier later 79 ∷ []) ≡ Ok (heading 2 8 14 3) ∷ Err (refused 11 0) ∷ []
unfolding join_answer judged meets_falling too_large joined_header joined_kind
    encode encode_header encode_items encode_item tag_of field bytes verdict first ◌then◌ items_verdict is_field is_item allowed header item_at item number_at number
room = refl

-- A refused join leaves the output as it was: for want of room, and where the second file is no file.
untouched : (join_out earlier later (replicate 79 7) ∷ join_out earlier (take 22 later) (replicate 83 7) ∷ []) ≡ replicate 79 7 ∷ replicate 83 7 ∷ []
unfolding join_out judged meets_falling too_large joined_header joined_kind
    encode encode_header encode_items encode_item tag_of field bytes verdict first ◌then◌ items_verdict is_field is_item allowed header item_at item number_at number
untouched = refl

-- ---- 12

-- "Both files have items and the second's first time is below the first's last": times 20 and 19 fall, 20 and 20 do not, and a file with no items never falls.
falling : (
    join_answer earlier (file 0 0 1 (3 at 19 ∷ [])) 80
    ∷ join_answer earlier (file 0 0 1 (3 at 20 ∷ [])) 80
    ∷ join_answer earlier (file 0 0 0 []) 80
    ∷ join_answer (file 0 0 0 []) later 80
    ∷ join_answer (file 0 0 0 []) (file 0 0 0 []) 80
    ∷ []
    )
    ≡ Err (refused 12 0)
    ∷ Ok (heading 1 8 6 3)
    ∷ Ok (heading 1 8 5 2)
    ∷ Ok (heading 2 3 9 1)
    ∷ Ok (heading 0 0 0 0)
    ∷ []
unfolding join_answer judged meets_falling too_large joined_header joined_kind
    encode encode_header encode_items encode_item tag_of field bytes verdict first ◌then◌ items_verdict is_field is_item allowed header item_at item number_at number
falling = refl

-- ---- 13

-- "References over 4,294,967,295": a file of 4,294,967,290 references takes 5 more and not 6.
references : map (λ (n : ℕ). join_answer (file 1 8 4294967290 (1 at 10 ∷ [])) (file 1 8 n (1 at 10 ∷ [])) 80) (5 ∷ 6 ∷ [])
    ≡ Ok (heading 1 8 4294967295 2)
    ∷ Err (refused 13 0)
    ∷ []
unfolding join_answer judged meets_falling too_large joined_header joined_kind
    encode encode_header encode_items encode_item tag_of field bytes verdict first ◌then◌ items_verdict is_field is_item allowed header item_at item number_at number
references = refl

-- "Items over 1,000,000": two files of together so many items are too long to be computed here (the join of such files is tried in
-- `rust/compare/tests/full_size.rs`), but the test asks only their headers. 600,000 items take 400,000 more and not 400,001.
items_over : map (λ (n : ℕ). too_large (encode_header (whole 600000)) (encode_header (whole n))) (400000 ∷ 400001 ∷ []) ≡ false ∷ true ∷ []
unfolding too_large joined_header encode_header field bytes header number_at number
items_over = refl

-- And with no room at all that is refused 13, which comes before 11.
items_before_room : first (join_tests (encode_header (whole 600000)) (encode_header (whole 400001)) 0) ≡ Faulty JoinTooLarge
unfolding first meets_falling too_large joined_header encode_header field bytes header item_at item number_at number
items_before_room = refl

-- ---- a file that is refused by itself

-- "A refusal of a second file by itself gives trace 2, one of 4 to 6 its item": a file cut short, a value, a length; then a wrong tag and a falling time
-- at item 1. There is no room for a join, and the last two begin before the first file ends, but these refusals come first.
second : map (λ (g : List ℕ). join_answer earlier g 0) (
    take 22 later
    ∷ set later 3 3
    ∷ (later ++ (0 ∷ []))
    ∷ set (file 0 0 2 (3 at 5 ∷ 4 at 6 ∷ [])) 42 7
    ∷ file 0 0 2 (3 at 5 ∷ 4 at 4 ∷ [])
    ∷ []
    )
    ≡ Err (of_second (refused 1 0))
    ∷ Err (of_second (refused 2 0))
    ∷ Err (of_second (refused 3 0))
    ∷ Err (record { number = 4; trace = 2; item = 1 })
    ∷ Err (record { number = 6; trace = 2; item = 1 })
    ∷ []
unfolding join_answer judged
    encode encode_header encode_items encode_item tag_of field bytes verdict first ◌then◌ items_verdict is_field is_item allowed header item number_at number
second = refl

-- The first file's refusals have trace 1, and come before the second's, though that has the lower number here.
first_file : map (λ (f : List ℕ). join_answer f (take 22 later) 0) (
    set later 3 3
    ∷ set (file 0 0 2 (3 at 5 ∷ 4 at 6 ∷ [])) 42 7
    ∷ file 0 0 2 (3 at 5 ∷ 4 at 4 ∷ [])
    ∷ []
    )
    ≡ Err (record { number = 2; trace = 1; item = 0 })
    ∷ Err (record { number = 4; trace = 1; item = 1 })
    ∷ Err (record { number = 6; trace = 1; item = 1 })
    ∷ []
unfolding join_answer judged
    encode encode_header encode_items encode_item tag_of field bytes verdict first ◌then◌ items_verdict is_field is_item allowed header item number_at number
first_file = refl

-- ---- "then 12, 13, 11"

-- With no room: a falling time and too many references; too many references; neither.
order : (
    join_answer (file 1 8 4294967295 (1 at 10 ∷ [])) (file 1 8 1 (1 at 9 ∷ [])) 0
    ∷ join_answer (file 1 8 4294967295 (1 at 10 ∷ [])) (file 1 8 1 (1 at 10 ∷ [])) 0
    ∷ join_answer (file 1 8 4294967294 (1 at 10 ∷ [])) (file 1 8 1 (1 at 10 ∷ [])) 0
    ∷ []
    )
    ≡ Err (refused 12 0)
    ∷ Err (refused 13 0)
    ∷ Err (refused 11 0)
    ∷ []
unfolding join_answer judged meets_falling too_large joined_header joined_kind
    encode encode_header encode_items encode_item tag_of field bytes verdict first ◌then◌ items_verdict is_field is_item allowed header item_at item number_at number
order = refl
