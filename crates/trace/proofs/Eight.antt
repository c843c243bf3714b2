-- Numbers of up to eight bytes, as the library reads and writes them. Assumes nothing.
use Prim.Native.Nat.{ℕ, zero, suc, ◌+◌, ◌-◌, ◌/◌, ◌^◌, ◌≤◌, ◌<◌}
use mathlib.Core.Path.{◌≡◌, refl, sym, ap, ◌∙◌}
use mathlib.Core.List.{List, [], ◌∷◌, ◌++◌}
use native.Mathlib.Omega.{arith}
use native.Mathlib.Nat.{div-div-eq-div-mul, sub-zero}
use lib.ListN.{length, take, drop, replicate, length-drop, length-replicate, length-append}
use lib.Seq.{sets, length-take-le, take-append_seam}
use mir.Syntax.{w64}
use borrow.Rule.Slice.PartMut.{put_mid}
use Rattle.std.specs.Int.{from_le_bytes, to_le_bytes}
use Rattle.trace.specs.Bytes.{number, number_at, bytes}
use Rattle.trace.specs.Promises.{AreBytes}
use Rattle.trace.proofs.Writing.{part_put}
use Rattle.trace.proofs.Bytes.{number_append, number_at_lt, length-bytes, bytes-add}

-- ---- reading

-- The library's number of eight bytes is the paper's.
eight : (l : List ℕ) → length l ≡ 8 → from_le_bytes w64 l ≡ number l
unfolding number
eight [] p = absurd (omega (arith, p))
eight (a ∷ []) p = absurd (omega (arith, p))
eight (a ∷ b ∷ []) p = absurd (omega (arith, p))
eight (a ∷ b ∷ c ∷ []) p = absurd (omega (arith, p))
eight (a ∷ b ∷ c ∷ d ∷ []) p = absurd (omega (arith, p))
eight (a ∷ b ∷ c ∷ d ∷ e ∷ []) p = absurd (omega (arith, p))
eight (a ∷ b ∷ c ∷ d ∷ e ∷ f ∷ []) p = absurd (omega (arith, p))
eight (a ∷ b ∷ c ∷ d ∷ e ∷ f ∷ g ∷ []) p = absurd (omega (arith, p))
eight (a ∷ b ∷ c ∷ d ∷ e ∷ f ∷ g ∷ h ∷ []) p = omega arith
eight (a ∷ b ∷ c ∷ d ∷ e ∷ f ∷ g ∷ h ∷ i ∷ l) p = absurd (omega (arith, p))

zeros : (k : ℕ) → number (replicate k 0) ≡ 0
unfolding number
zeros zero = refl
zeros (suc k) = rw (zeros k)

drop-zeros : (n k : ℕ) → drop {A = ℕ} n (replicate k 0) ≡ replicate (k - n) 0
drop-zeros zero k = rw sub-zero
drop-zeros (suc n) zero = let z : 0 - suc n ≡ 0 = omega arith in rw z refl
drop-zeros (suc n) (suc k) = let z : suc k - suc n ≡ k - n = omega arith in drop-zeros n k ∙ rw z

module _ (s : List ℕ) (at w : ℕ) (few : w ≤ 8) (long : at + w ≤ length s) where
  lent : at + w - at ≡ w
  lent = omega arith

  wide : length (take w (drop at s)) ≡ w
  wide = length-take-le w (drop at s) (rw length-drop (omega arith))

  abbrev filled : List ℕ
  filled = take w (drop at s) ++ drop w (replicate 8 0)

  -- They are eight bytes,
  filled_long : length filled ≡ 8
  filled_long = rw (length-append, wide, length-drop, length-replicate {A = ℕ} 8 0) (omega arith)

  -- which write the same number.
  filled_number : number filled ≡ number (take w (drop at s))
  filled_number = number_append (take w (drop at s)) (drop w (replicate 8 0)) ∙ rw (drop-zeros w 8, zeros (8 - w)) (omega arith)

  -- Bytes, with zeros behind them, read as eight.
  pub number_read : {ys : List ℕ} → ys ≡ take (at + w - at) (drop at s) → from_le_bytes w64 (ys ++ drop w (replicate 8 0)) ≡ number_at s at w
  unfolding number_at
  number_read q = rw (q, lent) (eight filled filled_long ∙ filled_number)

  -- It is below 256 to the power of the width.
  pub number_small : AreBytes s → {x : ℕ} → x ≡ number_at s at w → x < 256 ^ w
  number_small b e = rw e (number_at_lt w s at b)

-- ---- writing

-- The library's eight bytes of a number are the paper's.
eight_bytes : (x : ℕ) → to_le_bytes w64 x ≡ bytes 8 x
unfolding bytes
eight_bytes x = simp div-div-eq-div-mul refl

module _ (x w : ℕ) (few : w ≤ 8) where
  -- The first of them are the number in as many.
  eight_first : take w (to_le_bytes w64 x) ≡ bytes w x
  eight_first =
      let e : 8 ≡ w + (8 - w) = omega arith in
      let b : bytes 8 x ≡ bytes w x ++ bytes (8 - w) (x / 256 ^ w) = ap (λ n. bytes n x) e ∙ bytes-add w (8 - w) x in
      rw (eight_bytes, b) (ap (λ n. take n (bytes w x ++ bytes (8 - w) (x / 256 ^ w))) (sym (length-bytes w x)) ∙ take-append_seam (bytes w x) (bytes (8 - w) (x / 256 ^ w)))

  module _ (l : List ℕ) (at : ℕ) (long : at + w ≤ length l) where
    -- Stored as a part of a buffer, they are stored in the buffer.
    pub number_put : {e ys : List ℕ} → e ≡ to_le_bytes w64 x → ys ≡ take w e → put_mid at (at + w - at) l ys ≡ sets l at (bytes w x)
    number_put {e} {ys} p q =
        let same : ys ≡ bytes w x = q ∙ ap (take w) p ∙ eight_first in
        rw same (part_put l at (bytes w x) (rw length-bytes (omega arith)) (rw length-bytes long))
