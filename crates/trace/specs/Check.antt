-- The answer of `check`: refusals 1 to 4 and 6 in their order, or the four header values. Assumes nothing.
use Rattle.std.specs.Prelude.{ℕ, zero, suc, ◌+◌, ◌*◌, Bool, not, ◌&&◌, List, [], ◌∷◌, length, drop, ltb, eqb, Result, Ok, Err}
use Rattle.trace.specs.Bytes.{number_at}
use Rattle.trace.specs.Layout.{tag_of, header, item}
use Rattle.trace.specs.Rules.{allowed}
use Rattle.trace.specs.Refusals.{row}
use Rattle.trace.specs.Verdict.{Verdict, Sound, Faulty, Test, ◌⇒◌, first, ◌then◌}
use Rattle.trace.specs.declared.Header.{Header}
use Rattle.trace.specs.declared.Reason.TheVariants.{BadHeader, BadValues, BadLength, BadField, TimeFalls}
use Rattle.trace.specs.declared.Refusal.{Refusal}

-- At place `at` of s stands a field with this tag and this length.
unfoldable pub is_field : ℕ → ℕ → List ℕ → ℕ → Bool
is_field tag len s at = eqb (number_at s at 1) tag && eqb (number_at s (at + 1) 2) len

-- At the front of s stands an item's field: its tag is that of a write or that of any other item, and nothing else.
unfoldable pub is_item : List ℕ → Bool
is_item s = is_field (tag_of (item s).written) 16 s 0

-- 1: "fewer than 23 bytes, or a header field has a wrong tag or length";
-- 2: "a header value breaks the rules above, items over 1,000,000 included"; 3: "the length isn't 23 + 19 × items".
abbrev pub header_tests : List ℕ → List Test
header_tests f =
    ltb (length f) 23 ⇒ BadHeader
    ∷ not (is_field 1 1 f 0) ⇒ BadHeader
    ∷ not (is_field 2 2 f 4) ⇒ BadHeader
    ∷ not (is_field 3 4 f 9) ⇒ BadHeader
    ∷ not (is_field 4 4 f 16) ⇒ BadHeader
    ∷ not (allowed (header f)) ⇒ BadValues
    ∷ not (eqb (length f) (23 + 19 * (header f).items)) ⇒ BadLength
    ∷ []

-- 4: "an item has a wrong tag or length"; 6: "an item's time is below the one before". ("5 is withdrawn": "every 64-bit page is valid in items".)
-- The bytes of item i stand at the front of s, and the item before it was at time `before`.
abbrev pub item_tests : ℕ → ℕ → List ℕ → List Test
item_tests before i s =
    not (is_item s) ⇒ BadField i
    ∷ ltb (item s).time before ⇒ TimeFalls i
    ∷ []

-- "The first faulty item counts, and in it the lowest number": n items from item i on, whose bytes stand at the front of s.
unfoldable pub items_verdict : ℕ → ℕ → ℕ → List ℕ → Verdict
items_verdict before i zero s = Sound
items_verdict before i (suc n) s = first (item_tests before i s) then items_verdict (item s).time (suc i) n (drop 19 s)

-- The header's tests, and where none fails the items'. No time is below 0, so the first item comes after time 0.
unfoldable pub verdict : List ℕ → Verdict
verdict f =
    elim (first (header_tests f)) [
      | Ok _ ↦ items_verdict 0 0 (header f).items (drop 23 f)
      | Err r ↦ Faulty r
    ]

-- A verdict as an answer.
unfoldable pub answer : Header → Verdict → Result Header Refusal
answer h (Ok _) = Ok h
answer h (Err r) = Err (row r)

-- "Check, reduce and join answer the four header values of the file checked or written": the answer of check, or its refusal.
unfoldable pub checked : List ℕ → Result Header Refusal
checked f = answer (header f) (verdict f)
