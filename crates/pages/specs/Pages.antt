-- Lists of pages, where a page is a number: which pages are in one, and one with pages put in or taken out. Assumes nothing.
use Rattle.std.specs.Prelude.{ℕ, suc, ◌≡◌, Bool, false, cond, not, ◌||◌, List, [], ◌∷◌, ◌++◌, eqb}
use Rattle.pages.specs.Rows.{cons_if}

-- Whether the page p is in a list.
unfoldable pub has : ℕ → List ℕ → Bool
has p [] = false
has p (q ∷ l) = eqb p q || has p l

-- A list without the first of its places that holds the page p.
unfoldable pub remove : ℕ → List ℕ → List ℕ
remove p [] = []
remove p (q ∷ l) = cond (eqb p q) l (q ∷ remove p l)

-- A list with the page p at its end, unless p is in it already.
unfoldable pub add : ℕ → List ℕ → List ℕ
add p l = cond (has p l) l (l ++ (p ∷ []))

-- The first place of the page p in a list, or the list's length if p is not in it.
unfoldable pub place : ℕ → List ℕ → ℕ
place p [] = 0
place p (q ∷ l) = cond (eqb p q) 0 (suc (place p l))

-- The pages of l that are not in F, in l's order.
unfoldable pub without : List ℕ → List ℕ → List ℕ
without F [] = []
without F (q ∷ l) = cons_if (not (has q F)) q (without F l)

-- No page stands twice in a list.
abbrev pub Distinct : List ℕ → Type 0
Distinct [] = Unit {0}
Distinct (q ∷ l) = (has q l ≡ false) × Distinct l
