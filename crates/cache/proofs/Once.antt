-- The contract of `replay` allows one result, and of each lent buffer one content afterwards. The theorem is over the contract's clauses:
-- where they hold of two ends of one call, the two ends are the same. Assumes nothing.
use mathlib.Core.Path.{◌≡◌, sym, ◌∙◌}
use mathlib.Core.List.{[], ◌∷◌}
use seplogic.Ra.Ura.{Ura}
use base.Logic.{SProp, ent, sep, emp}
use prog.Memory.{Memory}
use prog.Routine.{Routine}
use types.Logic.{Logic}
use contract.Lifetimes.{Lfts}
use contract.Monad.{Fun, fact}
use contract.Fact.{fact_i}
use types.Kit.{raw, ◌⊛◌, ◌$◌, ◌∵◌, !, qed, by, split}
use denote.Steps.{heard}
use denote.Triple.Entry.{Args, Res}
use denote.Triple.Clauses.{AtExit}
use Rattle.cache.specs.contracts.replay as replay

-- Three facts on each side, and what follows from them.
pub both_ends : {M : Type 1} {𝓤 : Ura M} (𝓛 : Logic 𝓤) (a b c a' b' c' d : Type 0) → (a → b → c → a' → b' → c' → d)
    → ent 𝓤 (sep 𝓤 (sep 𝓤 (fact 𝓤 a) (sep 𝓤 (fact 𝓤 b) (fact 𝓤 c))) (sep 𝓤 (fact 𝓤 a') (sep 𝓤 (fact 𝓤 b') (fact 𝓤 c')))) (fact 𝓤 d)
both_ends {𝓤 = 𝓤} 𝓛 a b c a' b' c' d f =
    qed 𝓛 (((raw (fact 𝓤 a) ⊛ (raw (fact 𝓤 b) ⊛ raw (fact 𝓤 c))) ⊛ (raw (fact 𝓤 a') ⊛ (raw (fact 𝓤 b') ⊛ raw (fact 𝓤 c')))) ∷ []) ∵
    split ! $ split ! $ heard ! a (λ p. split ! $ heard ! b (λ q. heard ! c (λ r. split ! $ heard ! a' (λ p'. split ! $ heard ! b' (λ q'. heard ! c' (λ r'.
    by ! (fact_i 𝓤 d (emp 𝓤) (f p q r p' q' r'))))))))

module _ {M : Type 1} {𝓤 : Ura M} (𝓛 : Logic 𝓤) (mem : Memory → SProp 𝓤) (run : Routine → Fun 𝓤)
    (κs : Lfts 3) (args : Args replay.signature κs) (r r' : Res replay.signature κs) (e e' : AtExit replay.ended κs) where
  -- The same answer, the same frames and the same events.
  pub replay_once : ent 𝓤 (sep 𝓤 ((replay.clauses 𝓛 mem run κs args).ensures tt r e) ((replay.clauses 𝓛 mem run κs args).ensures tt r' e'))
      (fact 𝓤 ((r ≡ r') × ((e.1.1.0.now ≡ e'.1.1.0.now) × (e.1.1.1.1.0.now ≡ e'.1.1.1.1.0.now))))
  replay_once = both_ends 𝓛 _ _ _ _ _ _ _ (λ p q s p' q' s'. (p ∙ sym p', (q ∙ sym q', s ∙ sym s')))
