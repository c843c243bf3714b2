-- The words of events. Assumes nothing.
use Prim.Native.Nat.{◌*◌}
use mathlib.Core.Path.{◌≡◌, refl}
use mathlib.Core.List.{List, [], ◌∷◌, ◌++◌}
use native.Mathlib.Omega.{arith}
use lib.ListN.{length}
use Rattle.lru_cache.specs.Lru.{Event, words}

-- The words of events one after the other stand one after the other.
pub words_append : (a b : List Event) → words (a ++ b) ≡ words a ++ words b
unfolding words
words_append [] b = refl
words_append (e ∷ a) b = rw (words_append a b)

-- Each event has four words.
pub length-words : (a : List Event) → length (words a) ≡ 4 * length a
unfolding words
length-words [] = refl
length-words (e ∷ a) = omega (arith, length-words a)
