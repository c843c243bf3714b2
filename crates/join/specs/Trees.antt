-- Many files joined: two by two, in their order, in any bracketing. Assumes nothing.
use Rattle.std.specs.Prelude.{ℕ, ◌+◌, ◌-◌, ◌^◌, ◌≤◌, max, ◌≡◌, cond, List, [], ◌∷◌, ◌++◌, map, length}
use Rattle.limits.proofs.Numbers.{items_most}
use Rattle.pages.specs.Rows.{All, flat, over}
use Rattle.pages.specs.Pages.{has}
use Rattle.trace.specs.Layout.{header, items}
use Rattle.trace.specs.Rules.{Rising}
use Rattle.trace.specs.Promises.{IsFile}
use Rattle.trace.specs.declared.Item.{Item}
use Rattle.trace.specs.declared.Header.{Header}
use Rattle.join.specs.Join.{joined_header, joined_file, join_answer, join_out}
use Rattle.std.specs.Prelude.{Ok}

-- ---- the file that a tree of joins comes to

-- A file, or the join of what two trees come to.
pub data Tree : Type 0 where
  one : List ℕ → Tree
  both : Tree → Tree → Tree

-- The files of a tree, from the first to the last.
unfoldable pub files : Tree → List (List ℕ)
files (one f) = f ∷ []
files (both l r) = files l ++ files r

-- What a tree comes to: at each join the file that `join` writes.
unfoldable pub joined : Tree → List ℕ
joined (one f) = f
joined (both l r) = joined_file (joined l) (joined r)

-- ---- which trees are joined

-- The items of files, one after the other.
abbrev pub items_of_all : List (List ℕ) → List Item
items_of_all fs = flat (map items fs)

-- The two sums of refusal 13 are within its limits: not "items over 1,000,000 or references over 4,294,967,295".
pub record SumsFit (f g : List ℕ) : Type 0 where
  pub items_few : (header f).items + (header g).items ≤ items_most
  pub references_few : (header f).references + (header g).references ≤ 2 ^ 32 - 1

-- The sums fit at each join of a tree.
abbrev pub Within : Tree → Type 0
Within (one f) = Unit {0}
Within (both l r) = SumsFit (joined l) (joined r) × Within l × Within r

-- ---- what is promised of them

-- A join is not refused, whatever output it has that is not "shorter than the joined file": it answers the header, and writes the file over the output's front.
pub record Joins (f g : List ℕ) : Type 0 where
  pub answers : (out : List ℕ) → length (joined_file f g) ≤ length out → join_answer f g (length out) ≡ Ok (joined_header f g)
  pub writes : (out : List ℕ) → length (joined_file f g) ≤ length out → join_out f g out ≡ over (joined_file f g) out

-- No join of a tree is refused that has room.
abbrev pub AllJoin : Tree → Type 0
AllJoin (one f) = Unit {0}
AllJoin (both l r) = Joins (joined l) (joined r) × AllJoin l × AllJoin r

-- "Kind 0 if both are 0, kind 1 if neither is 2 and one is 1, otherwise kind 2", of any number of kinds.
unfoldable pub kind_of_all : List ℕ → ℕ
kind_of_all ks = cond (has 2 ks) 2 (cond (has 1 ks) 1 0)

-- The largest of some numbers, and their sum.
unfoldable pub largest : List ℕ → ℕ
largest [] = 0
largest (n ∷ ns) = max n (largest ns)

unfoldable pub total : List ℕ → ℕ
total [] = 0
total (n ∷ ns) = n + total ns

-- "References added; the larger filter size", of any number of files.
unfoldable pub header_of_all : List (List ℕ) → Header
header_of_all fs = record {
  kind = kind_of_all (map (λ (f : List ℕ). (header f).kind) fs);
  filter = largest (map (λ (f : List ℕ). (header f).filter) fs);
  references = total (map (λ (f : List ℕ). (header f).references) fs);
  items = total (map (λ (f : List ℕ). (header f).items) fs);
}

-- No join is refused that has room, and the file that the tree comes to has the header of all its files, and their items one after the other.
pub record IsJoinedTree (t : Tree) : Type 0 where
  pub all_join : AllJoin t
  pub is_file : IsFile (joined t)
  pub header_is : header (joined t) ≡ header_of_all (files t)
  pub items_are : items (joined t) ≡ items_of_all (files t)

-- Files whose times never fall from one to the next, joined in any bracketing within the limits.
abbrev pub JoinsTrees : Type 0
JoinsTrees = (t : Tree) → All IsFile (files t) → Rising 0 (items_of_all (files t)) → Within t → IsJoinedTree t

-- Of such files: where all items together, and all references, are within the limits, they are at each join, in any bracketing.
abbrev pub SumsAreEnough : Type 0
SumsAreEnough =
    (t : Tree) → All IsFile (files t) → Rising 0 (items_of_all (files t))
    → (header_of_all (files t)).items ≤ items_most → (header_of_all (files t)).references ≤ 2 ^ 32 - 1 → Within t

-- And joining them is associative: two trees of the same files in the same order stay within the limits together, and come to the same file.
abbrev pub JoinsAssociate : Type 0
JoinsAssociate =
    (s t : Tree) → files s ≡ files t → All IsFile (files s) → Rising 0 (items_of_all (files s)) → Within s
    → Within t × (joined s ≡ joined t)
