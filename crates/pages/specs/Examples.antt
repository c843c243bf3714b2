-- The definitions of lists of pages at work, each computed once. Assumes nothing.
use Rattle.std.specs.Prelude.{ℕ, ◌≡◌, refl, true, [], ◌∷◌}
use Rattle.pages.specs.Rows.{over}
use Rattle.pages.specs.Pages.{has, remove, add, place, without}

has_example : has 5 (7 ∷ 5 ∷ []) ≡ true
unfolding has
has_example = refl

remove_example : remove 5 (7 ∷ 5 ∷ 9 ∷ []) ≡ 7 ∷ 9 ∷ []
unfolding remove
remove_example = refl

add_example : add 5 (add 9 (7 ∷ 5 ∷ [])) ≡ 7 ∷ 5 ∷ 9 ∷ []
unfolding add has
add_example = refl

place_example : place 9 (7 ∷ 5 ∷ 9 ∷ []) ≡ 2
unfolding place
place_example = refl

over_example : over {A = ℕ} (1 ∷ 2 ∷ []) (7 ∷ 5 ∷ 9 ∷ []) ≡ 1 ∷ 2 ∷ 9 ∷ []
unfolding over
over_example = refl

without_example : without (5 ∷ []) (7 ∷ 5 ∷ 9 ∷ 5 ∷ []) ≡ 7 ∷ 9 ∷ []
unfolding without has
without_example = refl
