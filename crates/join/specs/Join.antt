-- The answer of `join`, and the file that it writes. Assumes nothing.
use Rattle.std.specs.Prelude.{ℕ, ◌+◌, ◌-◌, ◌*◌, ◌^◌, max, Bool, cond, not, ◌&&◌, ◌||◌, List, [], ◌∷◌, ◌++◌, length, ltb, eqb, Result, Ok, Err}
use Rattle.limits.specs.Sizes.{between}
use Rattle.limits.proofs.Numbers.{items_least, items_most}
use Rattle.pages.specs.Rows.{over}
use Rattle.trace.specs.Layout.{header, item_at, items, encode}
use Rattle.trace.specs.Refusals.{row, of_second}
use Rattle.trace.specs.Verdict.{Test, ◌⇒◌, first}
use Rattle.trace.specs.Check.{verdict}
use Rattle.trace.specs.declared.Header.{Header}
use Rattle.trace.specs.declared.Refusal.{Refusal}
use Rattle.trace.specs.declared.Reason.TheVariants.{JoinFalls, JoinTooLarge, NoRoom}

-- What is told of two files: that they can be joined, or a refusal.
abbrev pub Judged : Type 0
Judged = Result (Unit {0}) Refusal

abbrev pub Passed : Judged
Passed = Ok tt

abbrev pub Failed : Refusal → Judged
Failed r = Err r

-- "Kind 0 if both are 0, kind 1 if neither is 2 and one is 1, otherwise kind 2."
unfoldable pub joined_kind : ℕ → ℕ → ℕ
joined_kind a b = cond (eqb a 0 && eqb b 0) 0 (cond (eqb a 2 || eqb b 2) 2 1)

-- "References added; the larger filter size"; and the items are added.
unfoldable pub joined_header : List ℕ → List ℕ → Header
joined_header f g = record {
  kind = joined_kind (header f).kind (header g).kind;
  filter = max (header f).filter (header g).filter;
  references = (header f).references + (header g).references;
  items = (header f).items + (header g).items;
}

-- "Items of the first, then of the second."
unfoldable pub joined_file : List ℕ → List ℕ → List ℕ
joined_file f g = encode (joined_header f g) (items f ++ items g)

-- "Both files have items and the second's first time is below the first's last."
unfoldable pub meets_falling : List ℕ → List ℕ → Bool
meets_falling f g = ltb 0 (header f).items && (ltb 0 (header g).items && ltb (item_at g 0).time (item_at f ((header f).items - 1)).time)

-- "Items over 1,000,000 or references over 4,294,967,295."
unfoldable pub too_large : List ℕ → List ℕ → Bool
too_large f g = not (between items_least items_most (joined_header f g).items) || ltb (2 ^ 32 - 1) (joined_header f g).references

-- 12, 13, and 11: "shorter than the joined file".
abbrev pub join_tests : List ℕ → List ℕ → ℕ → List Test
join_tests f g room =
    meets_falling f g ⇒ JoinFalls
    ∷ too_large f g ⇒ JoinTooLarge
    ∷ ltb room (23 + 19 * (joined_header f g).items) ⇒ NoRoom
    ∷ []

-- "The first file 1 to 6, the second 1 to 6, then 12, 13, 11." A refusal of the second file by itself gives trace 2.
unfoldable pub judged : List ℕ → List ℕ → ℕ → Judged
judged f g room =
    elim (verdict f) [
      | Err r ↦ Failed (row r)
      | Ok _ ↦ elim (verdict g) [
        | Err r ↦ Failed (of_second (row r))
        | Ok _ ↦ elim (first (join_tests f g room)) [
          | Err r ↦ Failed (row r)
          | Ok _ ↦ Passed
        ]
      ]
    ]

-- The answer: the four header values of the joined file, or the refusal.
unfoldable pub join_answer : List ℕ → List ℕ → ℕ → Result Header Refusal
join_answer f g room =
    elim (judged f g room) [
      | Ok _ ↦ Ok (joined_header f g)
      | Err r ↦ Err r
    ]

-- The output afterwards: the joined file, and beyond it what there was; a refused call changes nothing.
unfoldable pub join_out : List ℕ → List ℕ → List ℕ → List ℕ
join_out f g out =
    elim (judged f g (length out)) [
      | Ok _ ↦ over (joined_file f g) out
      | Err r ↦ out
    ]
