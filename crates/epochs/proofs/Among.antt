-- An item is among those that are kept of a trace exactly if it is kept in its epoch. Assumes nothing.
use Prim.Native.Nat.{ℕ}
use mathlib.Core.Path.{◌≡◌, refl, sym, ap}
use mathlib.Core.Bool.{Bool, true, false}
use mathlib.Core.List.Memᴰ
use mathlib.Core.List.{List, [], ◌∷◌, ◌++◌, map, map-append}
use mathlib.Core.Logic.{⊎_elim}
use Rattle.pages.specs.Rows.{cons_if, flat}
use Rattle.pages.specs.Pages.{add}
use Rattle.pages.proofs.Rows.{flat_append}
use Rattle.trace.specs.declared.Item.{Item}
use Rattle.epochs.specs.Epochs.{touched, epochs}
use Rattle.epochs.specs.Keep.{keeps, kept, chosen}
use Rattle.epochs.specs.English.{Among, IsKept, ReducedIsKept}
use Rattle.epochs.specs.declared.Mode.{Mode}
use Rattle.epochs.proofs.Kept.{kept_exactly}

module _ (m : Mode) (i : Item) where
  -- ---- an item that is kept

  -- Where item i stands in an epoch, after the pages `seen` of it, and that it is kept there.
  abbrev Stands : List ℕ → List Item → Type 0
  Stands seen e = (before : List Item) × (after : List Item) × (e ≡ before ++ i ∷ after) × (keeps m (touched seen before) i after ≡ true)

  -- Where j was put in front of a row if a test passes, an item is j and the test passes, or the row had it.
  among_if : {C : Type 0} (b : Bool) {j : Item} {u : List Item} → Among i (cons_if b j u) → (b ≡ true → i ≡ j → C) → (Among i u → C) → C
  among_if true (Memᴰ.head e) f g = f refl e
  among_if true (Memᴰ.tail a) f g = g a
  among_if false a f g = g a

  -- An item of what is kept of an epoch stands in the epoch, and is kept there.
  kept_stands : (seen : List ℕ) (e : List Item) → Among i (kept m seen e) → Stands seen e
  unfolding touched kept
  kept_stands seen [] a = absurd (Memᴰ.not-nil a)
  kept_stands seen (j ∷ e) a =
      among_if (keeps m seen j e) a
      (λ k s. ([], e, ap (λ (x : Item). x ∷ e) (sym s), rw s k))
      (λ b. let r = kept_stands (add j.page seen) e b in (j ∷ r.0, r.1, ap (◌∷◌ j) r.2, r.3))

  -- An item of what is kept of some epochs stands in one of them, and is kept there.
  among_kept : (es : List (List Item)) → Among i (flat (map (kept m []) es)) → IsKept m es i
  unfolding flat
  among_kept [] a = absurd (Memᴰ.not-nil a)
  among_kept (e ∷ es) a =
      ⊎_elim
      (λ b. let r = kept_stands [] e b in
      record { earlier = []; later = es; before = r.0; after = r.1; stands = ap (λ (x : List Item). x ∷ es) r.2; keeps_it = r.3 })
      (λ b. let r = among_kept es b in
      record { earlier = e ∷ r.earlier; later = r.later; before = r.before; after = r.after; stands = ap (◌∷◌ e) r.stands; keeps_it = r.keeps_it })
      (Memᴰ.append_cases (kept m [] e) a)

  -- ---- and the other way round

  -- An item that is kept in an epoch is among what is kept of it.
  stands_kept : (before after : List Item) → keeps m (touched [] before) i after ≡ true → Among i (kept m [] (before ++ i ∷ after))
  stands_kept before after k =
      let r = kept_exactly m [] before after i in
      rw (r.2, k) (Memᴰ.append_right r.0 (Memᴰ.head refl))

  -- And so it is among what is kept of all epochs.
  kept_among : (es : List (List Item)) → IsKept m es i → Among i (flat (map (kept m []) es))
  unfolding flat
  kept_among es k =
      let a = stands_kept k.before k.after k.keeps_it in
      rw (k.stands, map-append, flat_append) (Memᴰ.append_right (flat (map (kept m []) k.earlier)) (Memᴰ.append_left (flat (map (kept m []) k.later)) a))

-- An item that a reduction keeps is an item of an epoch that is kept there, and the other way round.
pub reduced-kept : ReducedIsKept
unfolding chosen
reduced-kept m B t i = (among_kept m i (epochs B t), kept_among m i (epochs B t))
