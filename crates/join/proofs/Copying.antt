-- Copying the items of a file to the output, an item at a time. Assumes nothing.
use Prim.Native.Nat.{ℕ, ◌+◌, ◌*◌, ◌≤◌, ◌<◌}
use mathlib.Core.Path.{◌≡◌, refl}
use mathlib.Core.List.{List, [], ◌∷◌}
use native.Mathlib.Omega.{arith}
use lib.ListN.{length}
use lib.Seq.{sets}
use Rattle.trace.specs.Layout.{item_at, items_from, encode_item, encode_items}
use Rattle.trace.specs.declared.Item.{Item}
use Rattle.trace.proofs.Items.{length_from, from_none, first_more}
use Rattle.trace.proofs.Output.{Wrote, wrote_none, wrote_one, wrote_then, wrote_long}

-- The first i of n items are copied behind `at` items of the output.
pub record Copying (file : List ℕ) (n at : ℕ) (old : List ℕ) (i : ℕ) (new : List ℕ) : Type 0 where
  pub within : i ≤ n
  pub wrote : Wrote at (items_from file 0 i) old new
  pub long : length new ≡ length old

module _ (file : List ℕ) (n at : ℕ) (old : List ℕ) where
  -- No item is copied yet.
  pub copying_none : Copying file n at old 0 old
  copying_none = record { within = omega arith; wrote = rw (from_none file {i = 0} {n = 0} (omega arith)) (wrote_none at old); long = refl }

module _ {file : List ℕ} {n at : ℕ} {old : List ℕ} {i : ℕ} {new : List ℕ} (k : Copying file n at old i new) where
  -- One item more.
  pub copying_more : i < n → {x : Item} → x ≡ item_at file i → {next : List ℕ} → next ≡ sets new (23 + 19 * (at + i)) (encode_item x) → Copying file n at old (i + 1) next
  copying_more h {x} e {next} p =
      let one : Wrote (at + i) (item_at file i ∷ []) new next = rw (← e) (wrote_one p) in
      let w : Wrote at (items_from file 0 (i + 1)) old next = rw (first_more file i) (wrote_then k.wrote (omega (arith, length_from file 0 i)) one) in
      record { within = omega arith; wrote = w; long = wrote_long w }

  -- All items are copied.
  pub copying_all : n ≤ i → new ≡ sets old (23 + 19 * at) (encode_items (items_from file 0 n))
  copying_all h =
      let e : n ≡ i = omega (arith, k.within) in
      rw e k.wrote.bytes_are
