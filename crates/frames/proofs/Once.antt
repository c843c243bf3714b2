-- The contracts of `load` and `save` allow one content of each lent buffer. The theorems are over the contracts' clauses:
-- where they hold of two ends of one call, the two ends are the same. Assumes nothing.
use mathlib.Core.Path.{◌≡◌, sym, ◌∙◌}
use mathlib.Core.List.{[], ◌∷◌}
use seplogic.Ra.Ura.{Ura}
use base.Logic.{SProp, ent, sep, emp}
use prog.Memory.{Memory}
use prog.Routine.{Routine}
use types.Logic.{Logic}
use contract.Lifetimes.{Lfts}
use contract.Monad.{Fun, fact}
use contract.Fact.{fact_i}
use types.Kit.{raw, ◌⊛◌, ◌$◌, ◌∵◌, !, qed, by, split}
use denote.Steps.{heard}
use denote.Triple.Entry.{Args, Res}
use denote.Triple.Clauses.{AtExit}
use Rattle.frames.specs.contracts.load as load
use Rattle.frames.specs.contracts.save as save

-- A fact on each side, and what follows from them.
both_sides : {M : Type 1} {𝓤 : Ura M} (𝓛 : Logic 𝓤) (a b c : Type 0) → (a → b → c) → ent 𝓤 (sep 𝓤 (fact 𝓤 a) (fact 𝓤 b)) (fact 𝓤 c)
both_sides {𝓤 = 𝓤} 𝓛 a b c f = qed 𝓛 ((raw (fact 𝓤 a) ⊛ raw (fact 𝓤 b)) ∷ []) ∵ split ! $ heard ! a (λ p. heard ! b (λ q. by ! (fact_i 𝓤 c (emp 𝓤) (f p q))))

module _ {M : Type 1} {𝓤 : Ura M} (𝓛 : Logic 𝓤) (mem : Memory → SProp 𝓤) (run : Routine → Fun 𝓤) (κs : Lfts 3) where
  -- The same columns.
  pub load_once : (args : Args load.signature κs) (r r' : Res load.signature κs) (e e' : AtExit load.ended κs)
      → ent 𝓤 (sep 𝓤 ((load.clauses 𝓛 mem run κs args).ensures tt r e) ((load.clauses 𝓛 mem run κs args).ensures tt r' e'))
      (fact 𝓤 ((e.1.0.now ≡ e'.1.0.now) × (e.1.1.0.now ≡ e'.1.1.0.now)))
  load_once args r r' e e' = both_sides 𝓛 _ _ _ (λ p q. (p.0 ∙ sym q.0, p.1 ∙ sym q.1))

  -- The same frames.
  pub save_once : (args : Args save.signature κs) (r r' : Res save.signature κs) (e e' : AtExit save.ended κs)
      → ent 𝓤 (sep 𝓤 ((save.clauses 𝓛 mem run κs args).ensures tt r e) ((save.clauses 𝓛 mem run κs args).ensures tt r' e'))
      (fact 𝓤 (e.0.now ≡ e'.0.now))
  save_once args r r' e e' = both_sides 𝓛 _ _ _ (λ p q. p ∙ sym q)
