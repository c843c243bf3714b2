-- Which places of a log count. Assumes nothing.
use Prim.Native.Nat.{ℕ, ◌+◌, ◌≤◌, ◌<◌}
use mathlib.Core.Path.{◌≡◌, sym, ◌∙◌}
use mathlib.Core.Bool.{true, false}
use mathlib.Core.List.{List, [], ◌∷◌, ◌++◌}
use native.Mathlib.Omega.{arith}
use lib.ListN.{length, get_or, take, drop, drop_of_length-le}
use lib.Seq.{length-take-le, get_or-take}
use Rattle.pages.specs.Pages.{has}
use Rattle.pages.proofs.Choice.{split}
use Rattle.pages.proofs.Rows.{drop_next}
use Rattle.recency.specs.Order.{lasts}
use Rattle.recency.specs.declared.Mark.{Mark}
use Rattle.recency.specs.declared.Mark.TheVariants.{Clean}
use Rattle.recency.specs.Held.{is_stale, Marked}

module _ (log : List ℕ) (end : ℕ) (within : end ≤ length log) where
  long : length (take end log) ≡ end
  long = length-take-le end log within

  -- The log from a place on.
  pub part_next : (r : ℕ) → r < end → drop r (take end log) ≡ get_or log r 0 ∷ drop (r + 1) (take end log)
  part_next r h = drop_next (take end log) r 0 (omega (arith, long)) ∙ rw (get_or-take end log r 0 h)

  pub part_none : (r : ℕ) → end ≤ r → drop r (take end log) ≡ []
  part_none r h = drop_of_length-le (take end log) {i = r} (omega (arith, long))

module _ {log : List ℕ} {stale : List Mark} {low end : ℕ} (m : Marked log stale low end) {r : ℕ} (from : low ≤ r) (h : r < end) where
  pub place_live : is_stale (get_or stale r Clean) ≡ false → has (get_or log r 0) (drop (r + 1) (take end log)) ≡ false
  place_live n = sym (m.are r from h) ∙ n

  pub place_stale : is_stale (get_or stale r Clean) ≡ true → has (get_or log r 0) (drop (r + 1) (take end log)) ≡ true
  place_stale e = sym (m.are r from h) ∙ e

-- A longer log has no fewer pages.
pub lasts_grow : (a b : List ℕ) → length (lasts b) ≤ length (lasts (a ++ b))
unfolding lasts
lasts_grow [] b = omega arith
lasts_grow (x ∷ a) b =
    let h = lasts_grow a b in
    split (has x (a ++ b)) (λ e. rw e h) (λ e. rw e (omega arith))
