-- Chains at work, computed: five places in buckets 2, 0, 2, 1, 2. Assumes nothing.
use Rattle.std.specs.Prelude.{ℕ, ◌≡◌, refl, List, [], ◌∷◌, map}
use Rattle.chains.specs.Chains.{at, newest, heads_with, next_with, mixed}

marks : List ℕ
marks = 2 ∷ 0 ∷ 2 ∷ 1 ∷ 2 ∷ []

-- The last place of each bucket, counted from 1, of all five and of the first two; bucket 3 has none.
last_of_five : map (λ v. newest (at marks) v 5) (0 ∷ 1 ∷ 2 ∷ 3 ∷ []) ≡ 2 ∷ 4 ∷ 5 ∷ 0 ∷ []
unfolding newest at marks
last_of_five = refl

last_of_two : map (λ v. newest (at marks) v 2) (0 ∷ 1 ∷ 2 ∷ 3 ∷ []) ≡ 2 ∷ 0 ∷ 1 ∷ 0 ∷ []
unfolding newest at marks
last_of_two = refl

-- From base 10 on, four places are put in their buckets; the heads had been left by other chains, whose places are no more than 10.
heads_grow : heads_with 10 3 1 (heads_with 10 2 2 (heads_with 10 1 0 (heads_with 10 0 2 (7 ∷ 0 ∷ 10 ∷ 9 ∷ [])))) ≡ 12 ∷ 14 ∷ 13 ∷ 9 ∷ []
heads_grow = refl

-- The fifth is put in front of the third in bucket 2, and its link says so: 3, which is 13 less the base 10.
link_of_fifth : next_with 10 4 2 (12 ∷ 14 ∷ 13 ∷ 9 ∷ []) (0 ∷ 0 ∷ 1 ∷ 0 ∷ 6 ∷ []) ≡ 0 ∷ 0 ∷ 1 ∷ 0 ∷ 3 ∷ []
link_of_fifth = refl

-- A bit of the lower half counts, and so does one of the upper.
mixes : map mixed (0 ∷ 1 ∷ 4294967296 ∷ []) ≡ 0 ∷ 1640531527 ∷ 1540483477 ∷ []
unfolding mixed
mixes = refl
