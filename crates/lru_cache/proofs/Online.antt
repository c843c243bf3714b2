-- A replay goes on where it stood: a trace after another, and an item more. Assumes nothing.
use Prim.Native.Nat.{ℕ}
use mathlib.Core.Path.{◌≡◌, refl, ◌∙◌}
use mathlib.Core.List.{List, [], ◌∷◌, ◌++◌, append_assoc, append-nil}
use Rattle.frames.specs.declared.Frame.{Frame}
use Rattle.trace.specs.declared.Item.{Item}
use Rattle.lru_cache.specs.Lru.{step, ◌then◌, replay}
use Rattle.lru_cache.specs.Tally.{tallied, tally}
use Rattle.lru_cache.specs.declared.Tally.{Tally}

-- A trace after another does what it does from where the first left the list.
pub replay-append : (K : ℕ) (s : List Frame) (t u : List Item) → replay K s (t ++ u) ≡ (replay K s t then replay K (replay K s t).final u)
unfolding replay ◌then◌
replay-append K s [] u = refl
replay-append K s (i ∷ t) u = rw (replay-append K (step K s i).final t u, append_assoc)

-- An item more does its step.
pub replay_more : (K : ℕ) (s : List Frame) (t : List Item) (i : Item) → replay K s (t ++ (i ∷ [])) ≡ (replay K s t then step K (replay K s t).final i)
unfolding replay ◌then◌
replay_more K s t i = replay-append K s t (i ∷ []) ∙ rw append-nil

-- An item more moves the tally on by its step.
pub tally_more : (K : ℕ) (s : List Frame) (c : Tally) (t : List Item) (i : Item) → tally K s c (t ++ (i ∷ [])) ≡ tallied (tally K s c t) (step K (replay K s t).final i)
unfolding replay ◌then◌ tally
tally_more K s c [] i = refl
tally_more K s c (j ∷ t) i = let o = step K s j in tally_more K o.final (tallied c o) t i
