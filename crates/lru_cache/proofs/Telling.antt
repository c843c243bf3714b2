-- The numbers of events tell them apart. Assumes nothing.
use Prim.Native.Nat.{ℕ}
use mathlib.Core.Path.{◌≡◌, refl, sym, ap}
use mathlib.Core.Bool.{Bool, true, false, cond}
use mathlib.Core.List.{[], ◌∷◌}
use mathlib.Core.Option.{Option, some, none}
use native.Mathlib.Omega.{arith}
use lib.ListN.{length}
use Rattle.frames.specs.declared.Frame.{Frame}
use Rattle.lru_cache.specs.Lru.{word, cost, words}
use Rattle.lru_cache.specs.Promises.{WordsTell}

-- A page that goes costs 1 or 2, as its mark says.
mark_told : (v w : Bool) → ◌≡◌ {A = ℕ} (cond v 2 1) (cond w 2 1) → v ≡ w
mark_told true true e = refl
mark_told false false e = refl
mark_told true false e = absurd (omega arith)
mark_told false true e = absurd (omega arith)

-- And never 0.
mark_some : (w : Bool) → ◌≡◌ {A = ℕ} 0 (cond w 2 1) → ⊥
mark_some true e = omega arith
mark_some false e = omega arith

-- The third and the fourth number tell what was evicted.
evicted_told : (a b : Option Frame) → word a ≡ word b → cost a ≡ cost b → a ≡ b
unfolding word cost
evicted_told none none p q = refl
evicted_told none (some g) p q = absurd (mark_some g.written q)
evicted_told (some f) none p q = absurd (mark_some f.written (sym q))
evicted_told (some f) (some g) p q =
    let m = mark_told f.written g.written q in
    ap some (λ k. record { page = p k; written = m k })

pub words_tell : WordsTell
unfolding words
words_tell [] [] e = refl
words_tell [] (y ∷ b) e = absurd (omega (arith, ap length e))
words_tell (x ∷ a) [] e = absurd (omega (arith, ap length e))
words_tell (x ∷ a) (y ∷ b) e =
    let t : x.time ≡ y.time = cc in
    let p : x.page ≡ y.page = cc in
    let w : word x.evicted ≡ word y.evicted = cc in
    let c : cost x.evicted ≡ cost y.evicted = cc in
    let r : words a ≡ words b = cc in
    let v = evicted_told x.evicted y.evicted w c in
    let h : x ≡ y = λ k. record { time = t k; page = p k; evicted = v k } in
    rw (h, words_tell a b r)
