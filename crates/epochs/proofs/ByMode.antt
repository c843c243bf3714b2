-- The paper's sentences on what is kept, one for each mode. Assumes nothing.
use mathlib.Core.Path.{◌≡◌, refl, ap, ◌∙◌}
use mathlib.Core.Bool.{Bool, true, not, ◌||◌}
use mathlib.Core.List.{List, [], ◌∷◌, ◌++◌, append-nil}
use lib.Seq.{append_snoc}
use Rattle.pages.specs.Pages.{has, add}
use Rattle.pages.proofs.Choice.{split}
use Rattle.pages.proofs.Added.{add_old}
use Rattle.trace.specs.declared.Item.{Item}
use Rattle.epochs.specs.Epochs.{pages, touched}
use Rattle.epochs.specs.Keep.{is_first, is_last, phase, keeps}
use Rattle.epochs.specs.English.{DemandSentence, RestOfPhase, PhaseEnds, FastSlimSentence}
use Rattle.epochs.proofs.Greedy.{touched-append, touched_distinct}

-- An item is the first of its page exactly if no item before it has the page, and the last of its page in u exactly if none of u has it.
first_or_last : (before u : List Item) (i : Item) → is_first (touched [] before) i || is_last i u ≡ not (has i.page (pages before)) || not (has i.page (pages u))
unfolding is_first is_last
first_or_last before u i = ap (λ (b : Bool). not b || not (has i.page (pages u))) ((touched_distinct before).all i.page)

-- "FastSlim-Demand keeps an item exactly if it is the first or the last of its page in its epoch."
pub demand_sentence : DemandSentence
unfolding keeps
demand_sentence before after i = first_or_last before after i

-- ---- phases

-- Whatever stands after `before` in an epoch is the rest of a phase and what follows it.
pub phase_ends : PhaseEnds
phase_ends before [] = ([], [], refl, record { within = tt; ends = tt })
phase_ends before (i ∷ t) =
    split (has i.page (pages before))
    (λ h. let r = phase_ends (before ++ (i ∷ [])) t in
    (i ∷ r.0, r.1, ap (◌∷◌ i) r.2, record { within = (h, r.3.within); ends = rw append_snoc at r.3.ends }))
    (λ h. ([], i ∷ t, refl, record { within = tt; ends = rw append-nil h }))

-- The pages up to an item are those before it and its own.
touched_with : (before : List Item) (i : Item) → touched [] (before ++ (i ∷ [])) ≡ add i.page (touched [] before)
unfolding touched
touched_with before i = touched-append [] before (i ∷ [])

-- What `keeps` takes for the rest of a phase is that.
phase_rest : (before w next : List Item) → RestOfPhase before w next → phase (touched [] before) (w ++ next) ≡ w
unfolding is_first phase
phase_rest before [] [] r = refl
phase_rest before [] (i ∷ t) r = let new = rw append-nil at r.ends in rw ((touched_distinct before).all i.page, new)
phase_rest before (i ∷ w) next r =
    let old : has i.page (touched [] before) ≡ true = (touched_distinct before).all i.page ∙ r.within.0 in
    let same : touched [] (before ++ (i ∷ [])) ≡ touched [] before = touched_with before i ∙ add_old i.page (touched [] before) old in
    let rest : RestOfPhase (before ++ (i ∷ [])) w next = record { within = r.within.1; ends = rw append_snoc r.ends } in
    rw old (ap (◌∷◌ i) (rw same at (phase_rest (before ++ (i ∷ [])) w next rest)))

-- "FastSlim keeps an item exactly if it is the first of its page in its epoch, or the last of its page in its phase."
pub fastslim_sentence : FastSlimSentence
unfolding keeps
fastslim_sentence before w next i r =
    let rest = rw (touched_with before i) at (phase_rest (before ++ (i ∷ [])) w next r) in
    ap (λ (u : List Item). is_first (touched [] before) i || is_last i u) rest ∙ first_or_last before w i
