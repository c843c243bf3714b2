-- The definitions of a log at work, each computed once. Assumes nothing.
use Rattle.std.specs.Prelude.{◌≡◌, refl, true, false, [], ◌∷◌, map, Some, None}
use Rattle.pages.specs.Pages.{has}
use Rattle.frames.specs.Frames.{framed}
use Rattle.chains.specs.Chains.{at, newest, mixed}
use Rattle.recency.specs.Order.{lasts, order}
use Rattle.recency.specs.Linked.{bucket_of, last_from}
use Rattle.recency.specs.Held.{residents, wrote, frames, count_with, stale_with, written_with}
use Rattle.recency.specs.declared.Mark.TheVariants.{Clean, Stale, Written}
use Rattle.recency.specs.State.{State}

-- Page 5 was used twice: it counts where it was used last.
used_twice : lasts (5 ∷ 7 ∷ 5 ∷ 9 ∷ []) ≡ 7 ∷ 5 ∷ 9 ∷ []
unfolding lasts has
used_twice = refl

-- The most recently used comes first.
in_order : order (5 ∷ 7 ∷ 5 ∷ 9 ∷ []) ≡ 9 ∷ 5 ∷ 7 ∷ []
unfolding order lasts has
in_order = refl

-- Of a log the places from 1 up to 5 are in use: page 3 was evicted, and places 1 and 2 are stale.
log : State
log = record {
  pages = 3 ∷ 7 ∷ 8 ∷ 8 ∷ 7 ∷ 0 ∷ [];
  marks = Clean ∷ Stale ∷ Stale ∷ Written ∷ Clean ∷ Clean ∷ [];
  next = [];
  heads = [];
  queue = record { resident = 2; low = 1; now = 5 };
}

held : residents log ≡ 7 ∷ 8 ∷ []
unfolding log residents order lasts has
held = refl

-- Page 7 is found at place 4, which is 5 counted from 1; page 3 is not found from place 1 on.
found : last_from 1 (3 ∷ 7 ∷ 8 ∷ 8 ∷ 7 ∷ 0 ∷ []) 5 7 ≡ 5
unfolding last_from newest at
found = refl

gone : last_from 1 (3 ∷ 7 ∷ 8 ∷ 8 ∷ 7 ∷ 0 ∷ []) 5 3 ≡ 0
unfolding last_from newest at
gone = refl

-- Place 3 says that page 8 was written, and place 4 that page 7 was not.
marked : frames log ≡ framed 7 false ∷ framed 8 true ∷ []
unfolding log frames wrote residents order lasts has last_from newest at
marked = refl

-- A read of page 8, which was found at place 3, leaves it written; page 7, found at place 4, is written by a write alone, and page 3, which is not found, too.
stays : written_with (Some 3) log.marks false ≡ true
unfolding log
stays = refl

clean : written_with (Some 4) log.marks false ≡ false
unfolding log
clean = refl

comes_in : written_with None log.marks true ≡ true
unfolding log
comes_in = refl

-- A page that was found at place 4 makes it stale, and is not counted again.
found_again : stale_with (Some 4) log.marks ≡ Clean ∷ Stale ∷ Stale ∷ Written ∷ Stale ∷ Clean ∷ []
unfolding log
found_again = refl

counted : count_with (Some 4) 2 ≡ 2
counted = refl

-- The buckets of some pages.
buckets_of : map bucket_of (0 ∷ 1 ∷ 2 ∷ 987 ∷ 4294967296 ∷ 18446744073709551615 ∷ []) ≡ 0 ∷ 3129 ∷ 6258 ∷ 3 ∷ 2938 ∷ 2124 ∷ []
unfolding bucket_of mixed
buckets_of = refl
