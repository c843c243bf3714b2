-- Two flags in a byte: read, and put. Assumes nothing.
use Prim.Native.Nat.{ℕ, zero, suc, ◌+◌, ◌*◌, ◌/◌, ◌%◌, ◌≤◌, ◌<◌}
use mathlib.Core.Path.{◌≡◌, refl, sym, ap, ◌∙◌}
use mathlib.Core.Logic.{◌≢◌}
use mathlib.Core.Bool.{Bool, true, false}
use mathlib.Core.List.{List, [], ◌∷◌}
use native.Mathlib.Omega.{arith}
use lib.ListN.{length, get_or, set, replicate}
use lib.Seq.{get_or-set_same, get_or-set_other}
use native.Mathlib.Numerals.{add-one}
use lib.Dec.{eqb, ltb}
use borrow.Author.Tests.{eqb-false, ltb-true, ltb-false}
use mir.Val.{bool_byte}
use Rattle.pages.proofs.Choice.{split, same}
use Rattle.filter.specs.Filter.{flag_of, flags_of, flags_set, Clear}

pub flags_length : (bs : List ℕ) → length (flags_of bs) ≡ 2 * length bs
unfolding flags_of
flags_length [] = refl
flags_length (b ∷ bs) = omega (arith, flags_length bs)

two_more : (i : ℕ) → 2 * suc i ≡ suc (suc (2 * i))
two_more i = omega arith

-- ---- the two flags of byte i

flag_lower : (bs : List ℕ) (i : ℕ) → get_or (flags_of bs) (2 * i) 0 ≡ get_or bs i 0 % 2
unfolding flags_of
flag_lower [] i = refl
flag_lower (b ∷ bs) zero = refl
flag_lower (b ∷ bs) (suc i) = rw (two_more i) (flag_lower bs i)

flag_upper : (bs : List ℕ) (i : ℕ) → get_or (flags_of bs) (suc (2 * i)) 0 ≡ get_or bs i 0 / 2 % 2
unfolding flags_of
flag_upper [] i = refl
flag_upper (b ∷ bs) zero = refl
flag_upper (b ∷ bs) (suc i) = rw (two_more i) (flag_upper bs i)

-- A byte of two flags.
lower_of : (u v : ℕ) → u ≤ 1 → v ≤ 1 → (u * 2 + v) % 2 ≡ v
lower_of u v g h = omega arith

upper_of : (u v : ℕ) → u ≤ 1 → v ≤ 1 → (u * 2 + v) / 2 % 2 ≡ u
upper_of u v g h =
    let x : (u * 2 + v) / 2 ≡ u = omega arith in
    let y : u % 2 ≡ u = omega arith in
    ap (λ (n : ℕ). n % 2) x ∙ y

bit : (n : ℕ) → n % 2 ≤ 1
bit n = omega arith

put_lower : (bs : List ℕ) (i v : ℕ) → v ≤ 1 → flags_of (set bs i (get_or bs i 0 / 2 % 2 * 2 + v)) ≡ set (flags_of bs) (2 * i) v
unfolding flags_of
put_lower [] i v h = refl
put_lower (b ∷ bs) zero v h =
    rw (lower_of (b / 2 % 2) v (bit (b / 2)) h, upper_of (b / 2 % 2) v (bit (b / 2)) h)
put_lower (b ∷ bs) (suc i) v h = rw (two_more i) (ap (λ (l : List ℕ). b % 2 ∷ b / 2 % 2 ∷ l) (put_lower bs i v h))

put_upper : (bs : List ℕ) (i v : ℕ) → v ≤ 1 → flags_of (set bs i (get_or bs i 0 % 2 + 2 * v)) ≡ set (flags_of bs) (suc (2 * i)) v
unfolding flags_of
put_upper [] i v h = refl
put_upper (b ∷ bs) zero v h =
    let z : b % 2 + 2 * v ≡ v * 2 + b % 2 = omega arith in
    rw (z, lower_of v (b % 2) h (bit b), upper_of v (b % 2) h (bit b))
put_upper (b ∷ bs) (suc i) v h = rw (two_more i) (ap (λ (l : List ℕ). b % 2 ∷ b / 2 % 2 ∷ l) (put_upper bs i v h))

-- ---- as the code has them

module _ (bs : List ℕ) (j : ℕ) where
  pub flag_byte : j < length (flags_of bs) → j / 2 < length bs
  flag_byte h = omega (arith, flags_length bs)

  pub flag_even : j % 2 ≡ 0 → get_or bs (j / 2) 0 % 2 ≡ get_or (flags_of bs) j 0
  flag_even e = let z : 2 * (j / 2) ≡ j = omega arith in rw z at (sym (flag_lower bs (j / 2)))

  pub flag_odd : (j % 2 ≡ 0 → ⊥) → get_or bs (j / 2) 0 / 2 % 2 ≡ get_or (flags_of bs) j 0
  flag_odd n = let z : suc (2 * (j / 2)) ≡ j = omega arith in rw z at (sym (flag_upper bs (j / 2)))

  pub put_even : (v : ℕ) → v ≤ 1 → {b : ℕ} → b ≡ get_or bs (j / 2) 0 / 2 % 2 * 2 + v → j % 2 ≡ 0 → flags_of (set bs (j / 2) b) ≡ set (flags_of bs) j v
  put_even v h q e = let z : 2 * (j / 2) ≡ j = omega arith in rw q (rw z at (put_lower bs (j / 2) v h))

  pub put_odd : (v : ℕ) → v ≤ 1 → {b : ℕ} → b ≡ get_or bs (j / 2) 0 % 2 + 2 * v → (j % 2 ≡ 0 → ⊥) → flags_of (set bs (j / 2) b) ≡ set (flags_of bs) j v
  put_odd v h q n = let z : suc (2 * (j / 2)) ≡ j = omega arith in rw q (rw z at (put_upper bs (j / 2) v h))

-- A flag is 0 or 1.
pub flag_bit : (bs : List ℕ) (j : ℕ) → get_or (flags_of bs) j 0 ≤ 1
unfolding flags_of
flag_bit [] j = omega arith
flag_bit (b ∷ bs) zero = bit b
flag_bit (b ∷ bs) (suc zero) = bit (b / 2)
flag_bit (b ∷ bs) (suc (suc j)) = flag_bit bs j

-- ---- none set

-- Bytes that are 0 have no flag set.
pub flags_zero : (n : ℕ) → flags_of (replicate n 0) ≡ replicate (2 * n) 0
unfolding flags_of
flags_zero zero = refl
flags_zero (suc n) = rw (two_more n) (ap (λ (l : List ℕ). 0 ∷ 0 ∷ l) (flags_zero n))

-- So have bytes that are filled with 0.
pub flags_filled : (bs : List ℕ) {bs' : List ℕ} → bs' ≡ replicate (length bs) 0 → flags_of bs' ≡ replicate (length (flags_of bs)) 0
flags_filled bs e = rw (e, flags_zero (length bs), flags_length bs)

pub zeros_clear : {flags : List ℕ} (n : ℕ) → flags ≡ replicate n 0 → Clear 0 flags
zeros_clear n e j o = rw e (zeros n j)
  where
    zeros : (n i : ℕ) → ◌≡◌ {A = ℕ} (get_or (replicate n 0) i 0) 0
    zeros zero i = refl
    zeros (suc n) zero = refl
    zeros (suc n) (suc i) = zeros n i

-- Bytes that are all 0, however many, have no flag set.
pub flags_clear : (bs : List ℕ) → ((i : ℕ) → get_or bs i 0 ≡ 0) → Clear 0 (flags_of bs)
unfolding flags_of
flags_clear [] z j o = refl
flags_clear (b ∷ bs) z zero o = let e : b ≡ 0 = z 0 in rw e
flags_clear (b ∷ bs) z (suc zero) o = let e : b ≡ 0 = z 0 in rw e
flags_clear (b ∷ bs) z (suc (suc j)) o = flags_clear bs (λ i. z (suc i)) j (omega arith)

-- Two rows in which no flag is set have the same flags.
pub clear_alike : (a b : List ℕ) → Clear 0 (flags_of a) → Clear 0 (flags_of b) → (j : ℕ) → get_or (flags_of a) j 0 ≡ get_or (flags_of b) j 0
clear_alike a b p q j = p j (omega arith) ∙ sym (q j (omega arith))

-- ---- how many are set

-- A flag, as a byte and as a number.
pub byte_is : (b : Bool) → bool_byte b ≡ flag_of b
byte_is true = refl
byte_is false = refl

pub flag_most : (b : Bool) → flag_of b ≤ 1
flag_most true = omega arith
flag_most false = omega arith

-- Where none is, the count is 0.
pub clear_none : (c : ℕ) (flags : List ℕ) → Clear 0 flags → 0 ≡ flags_set c flags
unfolding flags_set
clear_none zero flags z = refl
clear_none (suc c) flags z = rw (z c (omega arith)) (clear_none c flags z)

-- No more are set than there are.
pub flags_most : (c : ℕ) (flags : List ℕ) → flags_set c flags ≤ c
unfolding flags_set
flags_most zero flags = omega arith
flags_most (suc c) flags = let h = flags_most c flags in split (eqb (get_or flags c 0) 1) (λ t. rw t (omega arith)) (λ t. rw t (omega arith))

-- A flag beyond them does not count.
pub flags_beyond : (c : ℕ) (flags : List ℕ) (j v : ℕ) → c ≤ j → flags_set c (set flags j v) ≡ flags_set c flags
unfolding flags_set
flags_beyond zero flags j v o = refl
flags_beyond (suc c) flags j v o =
    let d : c ≢ j = λ z. omega arith in
    rw (get_or-set_other flags j c v 0 d, flags_beyond c flags j v (omega arith))

-- No more are set than the places before those that are clear.
pub flags_few : (n c : ℕ) (flags : List ℕ) → Clear c flags → flags_set n flags ≤ c
unfolding flags_set
flags_few zero c flags z = omega arith
flags_few (suc n) c flags z =
    split (ltb n c)
    (λ t. omega (arith, ltb-true n c t, flags_most (suc n) flags))
    (λ t. rw (z n (ltb-false n c t)) (flags_few n c flags z))

-- A new place's flag, cleared, adds nothing.
pub flags_new : (c : ℕ) (flags : List ℕ) → c < length flags → flags_set (c + 1) (set flags c 0) ≡ flags_set c flags
unfolding flags_set
flags_new c flags l = rw (add-one, get_or-set_same flags c 0 0 l, flags_beyond c flags c 0 (omega arith))

-- One is put.
pub flags_put : (c : ℕ) (flags : List ℕ) (j : ℕ) → j < c → j < length flags → (on : Bool)
    → flags_set c (set flags j (flag_of on)) + flag_of (eqb (get_or flags j 0) 1) ≡ flags_set c flags + flag_of on
unfolding flags_set
flags_put zero flags j o l on = absurd (omega arith)
flags_put (suc c) flags j o l on =
    split (eqb j c)
    (λ s. let e = same j c s in
    let t : eqb (flag_of on) 1 ≡ on = bit_is on in
    rw (← e, get_or-set_same flags j (flag_of on) 0 l, flags_beyond j flags j (flag_of on) (omega arith), t)
    (split (eqb (get_or flags j 0) 1)
    (λ y. rw y (split on (λ x. rw x (omega arith)) (λ x. rw x (omega arith))))
    (λ y. rw y (split on (λ x. rw x (omega arith)) (λ x. rw x (omega arith))))))
    (λ s. let d = eqb-false j c s in
    let n : c ≢ j = λ z. d (sym z) in
    let r = flags_put c flags j (omega arith) l on in
    rw (get_or-set_other flags j c (flag_of on) 0 n) (split (eqb (get_or flags c 0) 1) (λ t. rw t (omega arith)) (λ t. rw t r)))
  where
    bit_is : (on : Bool) → eqb (flag_of on) 1 ≡ on
    bit_is true = refl
    bit_is false = refl
