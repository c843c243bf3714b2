-- What follows from demand 3, and that its premises can be met. Assumes nothing.
use Prim.Native.Nat.{ℕ, suc, ◌*◌, ◌≤◌}
use mathlib.Core.Path.{◌≡◌, refl, sym, ap, ◌∙◌}
use mathlib.Core.Bool.{true, cond}
use mathlib.Core.List.{List, [], ◌∷◌, ◌++◌, map}
use native.Mathlib.Omega.{arith}
use lib.ListN.{length, take}
use lib.Dec.{eqb}
use Rattle.limits.proofs.Numbers.{items_most}
use Rattle.pages.specs.Rows.{flat, over}
use Rattle.frames.specs.declared.Frame.{Frame}
use Rattle.trace.specs.Layout.{Trace, header, items, decode}
use Rattle.trace.specs.Rules.{ItemFits, ItemsFit, Rising, Allowed}
use Rattle.trace.specs.Promises.{IsFile}
use Rattle.trace.specs.Examples.{whole}
use Rattle.trace.specs.declared.Item.{Item}
use Rattle.pages.proofs.Rows.{all_parts}
use Rattle.trace.proofs.Allowed.{facts_allowed}
use Rattle.trace.proofs.Append.{rising_parts}
use Rattle.trace.proofs.Accepted.{accepted_header, accepted_count, accepted_facts, accepted_rising}
use Rattle.trace.proofs.Octets.{octets_file}
use Rattle.trace.proofs.RoundTrip.{reads_back, is_taken}
use Rattle.epochs.specs.declared.Mode.{Mode}
use Rattle.epochs.specs.declared.Mode.TheVariants.{FastSlim, Demand}
use Rattle.slim.specs.Reduce.{is_mode}
use Rattle.join.specs.Trees.{Tree, files, joined, Within, header_of_all}
use Rattle.join.proofs.Trees.{joins_trees, sums_enough, joins_associate}
use Rattle.lru_cache.specs.Lru.{Event, Outcome, cost, words}
use Rattle.replays.specs.Replay.{replay_of}
use Rattle.faithful.specs.Parts.{Part, recorded}
use Rattle.faithful.specs.Demand3.{Portion, IsPortion, IsCut, short, IsCache}
use Rattle.faithful.specs.Corollaries.{mode_number, whole_file, portion_of, FitsAFile, CutAnywhere, AnyBracketing}
use Rattle.faithful.specs.Corollaries.{second_transfers, told_transfers, SecondTransfersAlike, SameReplay, LikeTheWholeFile}
use Rattle.faithful.proofs.Portions.{items_at_most, references_are}
use Rattle.faithful.proofs.Files.{taken, replays_as, recording_is, are_files, rises, join_alike, faithful}

-- ---- cut anywhere

-- Items of a recording, no more than a file can have, keep the rules of a whole file.
whole-allowed : (u : List Item) → ItemsFit u → Rising 0 u → length u ≤ items_most → Allowed (whole (length u)) u
whole-allowed u f r l = record {
  header-allowed = facts_allowed (whole (length u)) (record {
    few = l;
    within = omega arith;
    kinds = omega arith;
    whole = λ z. (refl, refl);
    reduced = λ n. absurd (n refl);
  });
  references_fit = omega arith;
  counted = refl;
  items_fit = f;
  rising = r;
}

-- Each mode is a mode.
mode_is : (m : Mode) → is_mode (mode_number m) ≡ true
unfolding is_mode
mode_is FastSlim = refl
mode_is Demand = refl

module _ (p : Part) (f : ItemsFit p.items) (r : Rising 0 p.items) (a : FitsAFile p) where
  says : Allowed (whole (length p.items)) p.items
  says = whole-allowed p.items f r a.few

  -- A part's file says its items,
  part-items : items (whole_file p.items) ≡ p.items
  unfolding decode
  part-items = ap (λ (x : Trace). x.items) (reads_back _ p.items says)

  -- and is a portion.
  part_portion : IsPortion (portion_of p)
  part_portion =
      let w = whole (length p.items) in
      let t = is_taken w p.items says in
      let h = accepted_header (whole_file p.items) w t in
      record {
        is_file = record { bytes = octets_file w p.items; accepted = rw h t };
        kind_0 = rw h;
        either_mode = mode_is p.mode;
        least = a.least;
        most = a.most;
      }

-- A recording, wherever it is cut into parts that fit files, is cut into files.
pub cut_anywhere : CutAnywhere
unfolding flat recorded
cut_anywhere [] r a = record { portions = tt; consecutive = refl }
cut_anywhere (p ∷ ps) r a =
    let (f, g) = all_parts ItemFits p.items (recorded ps) r.items_fit in
    let (u, v) = rising_parts 0 p.items (recorded ps) r.rising in
    let c = cut_anywhere ps (record { items_fit = g; rising = v }) a.1 in
    record { portions = (part_portion p f u a.0, c.portions); consecutive = rw (part-items p f u a.0, c.consecutive) }

-- ---- any bracketing

-- Two bracketings of the same files come to the same file.
pub any_bracketing : AnyBracketing
any_bracketing t r ps c i j p o =
    let up = r.rising in
    let (w, e) = joins_associate i j (p.in_order ∙ sym o) (are_files t up ps c i p.in_order) (rises t up ps c i p.in_order) p.within in
    (record { in_order = o; within = w }, e)

-- ---- second transfers

-- The fourth numbers of some fetches tell their second transfers.
told-words : (es : List Event) (rest : List ℕ) → told_transfers (length es) (words es ++ rest) ≡ second_transfers es
unfolding told_transfers second_transfers words
told-words [] rest = refl
told-words (e ∷ es) rest = ap (λ (n : ℕ). cond (eqb (cost e.evicted) 2) (suc n) n) (told-words es rest)

-- The join costs as many second transfers as the recording, and tells them.
pub second_transfers_alike : SecondTransfersAlike
unfolding over replay_of
second_transfers_alike t r ps c j o K frames resident k events room =
    let up = r.rising in
    let p = (faithful t up ps c j o.in_order o.within K frames resident k events room).replays in
    record {
      as_many = ap (λ (x : Outcome). second_transfers x.events) (join_alike t up ps c j o.in_order o.within K k.filters (take resident frames));
      told = rw p.fetches (told-words _ _);
    }

-- ---- a recording that is one file

module _ (f : List ℕ) (a : IsFile f) (z : (header f).kind ≡ 0) (ps : List Portion) (c : IsCut (items f) ps) (j : Tree) (o : files j ≡ map short ps) where
  up : Rising 0 (items f)
  up = accepted_rising f (header f) a.accepted

  -- Neither the items nor the references of the join are more than the file's items, and those are within the limits.
  sums : ((header_of_all (files j)).items ≤ (header f).items) × ((header_of_all (files j)).references ≡ (header f).items) × ((header f).items ≤ items_most)
  sums =
      let count = accepted_count f (header f) a.accepted in
      let all = ap length (recording_is (items f) up ps c j o) in
      let few = items_at_most ps c.portions in
      let refs = references_are ps c.portions in
      let most = (accepted_facts f (header f) a.accepted).few in
      rw o (omega arith, omega arith, most)

  -- So every join is within the limits.
  within : Within j
  within = let s = sums in sums_enough j (are_files (items f) up ps c j o) (rises (items f) up ps c j o) (omega arith) (omega arith)

  fewer : (header (joined j)).items ≤ (header f).items
  fewer = rw (joins_trees j (are_files (items f) up ps c j o) (rises (items f) up ps c j o) within).header_is sums.0

  -- With room for the file the join leaves what the file leaves.
  same_replay : (K : ℕ) (frames : List Frame) (resident : ℕ) → IsCache ps K frames resident → (events : List ℕ) → 4 * (header f).items ≤ length events
      → SameReplay (joined j) f K frames resident events
  unfolding replay_of
  same_replay K frames resident k events room =
      let (filter, _) = (accepted_facts f (header f) a.accepted).whole z in
      let n = fewer in
      let p = (faithful (items f) up ps c j o within K frames resident k events (omega arith)).replays in
      let q = replays_as f K frames resident events a (taken f K frames resident events a ps k (omega arith) room) (items f) refl in
      record {
        first_as = p;
        second_as = q;
        events_same = p.fetches ∙ sym q.fetches;
        residents_same = p.residents ∙ sym q.residents;
        transfers_same = ap (λ (x : Outcome). second_transfers x.events) (join_alike (items f) up ps c j o within K k.filters (take resident frames));
      }

-- Where the recording is a file of kind 0, no premise on the joins is needed.
pub like_the_whole_file : LikeTheWholeFile
like_the_whole_file f a z ps c j o =
    let w = within f a z ps c j o in (
      w,
      λ K frames resident k events. (
        λ room. faithful (items f) (up f a z ps c j o) ps c j o w K frames resident k events room,
        λ room. same_replay f a z ps c j o K frames resident k events room,
      ),
    )
