-- The clamp on machine words: the exponent field of the sum's ends, the digits in which they differ, and the raised end. Rests on `ladder`'s Granularity.
use Rattle.std.proofs.Common.{◌≡◌, ℕ, zero, suc, ◌+◌, ◌-◌, ◌*◌, ◌/◌, ◌^◌, ◌<◌, ◌≤◌, sym, refl, ap, ◌∙◌, subst, inl, inr, le_of_lt, div-lt_iff_lt-mul, le-div_iff_mul-le, arith, pow_pos, pow_mono}
use Prim.Native.Nat.{◌∣◌}
use native.Mathlib.Nat.{div-eq_of_lt}
use lib.Pow.{shr_mono}
use lib.Bits.{bit_xor, xor_add_and, and_le_l, and_le_r, xor_shr, xor_lt, xor_self}
use lib.Ieee.{size}
use lib.Ieee.Digits.{size-lt, size-le}
use Rattle.ladder.specs.Magnitude.{magnitude}
use Rattle.ladder.specs.Search.{NoMultiple, SomeMultiple}
use Rattle.ladder.proofs.Granularity.{digits_free, binade_free, binade_some, digits_some}
use Rattle.ladder.proofs.Cases.{le_or_lt}

-- q whole binades fit under m
pub field : (f q m : ℕ) → q ≡ m / 2 ^ f → (q * 2 ^ f ≤ m) × (m < q * 2 ^ f + 2 ^ f)
field f q m e =
    let a : q * 2 ^ f ≤ m = (le-div_iff_mul-le (pow_pos f)).0 (omega arith) in
    let b : m < (q + 1) * 2 ^ f = (div-lt_iff_lt-mul (pow_pos f)).0 (omega arith) in
    (a, omega arith)

pub field_half : (f q m : ℕ) → 1 ≤ f → q ≡ m / 2 ^ f → 2 * q ≤ m
field_half f q m some e = omega (arith, (field f q m e).0, native.Mathlib.Nat.mul-le-mul_left q (pow_mono {i = 1} some))

-- ---- the digits in which two words differ
xor_none : (a b : ℕ) → bit_xor a b ≡ 0 → a ≡ b
xor_none a b e = omega (arith, xor_add_and a b, and_le_l a b, and_le_r a b)

pub agree : (p q r : ℕ) → r ≡ size (bit_xor p q) → p / 2 ^ r ≡ q / 2 ^ r
agree p q r e =
    let l : bit_xor p q < 2 ^ r = subst (λ (x : ℕ). bit_xor p q < 2 ^ x) (sym e) (size-lt (bit_xor p q)) in
    xor_none (p / 2 ^ r) (q / 2 ^ r) (sym (xor_shr p q r) ∙ div-eq_of_lt l)

-- and in the highest of them they do differ
pub differ : (p q r : ℕ) → p < q → r ≡ size (bit_xor p q) → (0 < r) × (p / 2 ^ (r - 1) < q / 2 ^ (r - 1))
differ p q r l e = elim (le_or_lt (q / 2 ^ (r - 1)) (p / 2 ^ (r - 1))) [
  | inl h ↦
      let same : p / 2 ^ (r - 1) ≡ q / 2 ^ (r - 1) = omega (arith, shr_mono (r - 1) (le_of_lt l)) in
      let none : bit_xor p q / 2 ^ (r - 1) ≡ 0 = xor_shr p q (r - 1) ∙ ap (λ (x : ℕ). bit_xor x (q / 2 ^ (r - 1))) same ∙ xor_self (q / 2 ^ (r - 1)) in
      let low : bit_xor p q < 1 * 2 ^ (r - 1) = (div-lt_iff_lt-mul (pow_pos (r - 1))).0 (omega arith) in
      let z : r ≡ 0 = omega (arith, size-le (bit_xor p q) (r - 1) (omega arith)) in
      let zero : bit_xor p q < 1 * 2 ^ (0 - 1) = subst (λ (x : ℕ). bit_xor p q < 1 * 2 ^ (x - 1)) z low in
      absurd (omega (arith, xor_none p q (omega arith)))
  | inr h ↦ (some r refl h, h)
]
  where
    some : (t : ℕ) → t ≡ r → p / 2 ^ (r - 1) < q / 2 ^ (r - 1) → 0 < r
    some zero z h = absurd (omega (arith, agree p q 0 (z ∙ e), subst (λ (x : ℕ). p / 2 ^ (x - 1) < q / 2 ^ (x - 1)) (sym z) h))
    some (suc t) z h = omega arith

pub few_differ : (p q : ℕ) → p < 2 ^ 64 → q < 2 ^ 64 → size (bit_xor p q) ≤ 64
few_differ p q P Q = size-le (bit_xor p q) 64 (xor_lt 64 p q P Q)

-- the binade below q
pub base_next : (f q base : ℕ) → (q ≡ 0 → ⊥) → base ≡ (q - 1) * 2 ^ f → base + 2 ^ f ≡ q * 2 ^ f
base_next f zero base n b = absurd (n refl)
base_next f (suc q) base n b = omega (arith, ap (λ (x : ℕ). x * 2 ^ f) (before q))
  where
    before : (q : ℕ) → suc q - 1 ≡ q
    before q = omega arith

add_none : (j : ℕ) → j + 0 ≡ j
add_none j = omega arith

module _ (f q lo hi : ℕ) (is : q ≡ hi / 2 ^ f) where
  -- the ends in different binades
  pub free_wide : 0 < lo → NoMultiple f (f + q) lo hi
  free_wide p = digits_free f q lo hi p (omega (arith, (field f q hi is).1))

  -- both subnormal
  pub free_low : (j : ℕ) → q ≡ 0 → 0 < lo → (lo - 1) / 2 ^ j ≡ hi / 2 ^ j → NoMultiple f j lo hi
  free_low j z p e m l h d =
      let b : hi < 0 * 2 ^ f + 2 ^ f = subst (λ (x : ℕ). hi < x * 2 ^ f + 2 ^ f) z (field f q hi is).1 in
      binade_free f j 0 lo hi (inl refl) (omega arith) p e m (omega arith) (omega arith) (subst (λ (x : ℕ). 2 ^ x ∣ magnitude f m) (sym (add_none j)) d)

  -- in one binade, whose significands begin at base
  pub free_high : (j base : ℕ) → lo / 2 ^ f ≡ q → (q ≡ 0 → ⊥) → base ≡ (q - 1) * 2 ^ f → (lo - base - 1) / 2 ^ j ≡ (hi - base) / 2 ^ j → NoMultiple f (j + (q - 1)) lo hi
  free_high j base o n b e m l h d =
      let u = base_next f q base n b in
      let v = field f q lo (sym o) in
      let w = field f q hi is in
      binade_free f j (q - 1) (lo - base) (hi - base) (inr (omega arith)) (omega arith) (omega (arith, pow_pos f)) e m (omega arith) (omega arith) d

  -- ---- and half of that power divides one
  pub some_wide : (lo / 2 ^ f ≡ q → ⊥) → lo ≤ hi → SomeMultiple f (f + q - 1) lo hi
  some_wide n h =
      let l : lo / 2 ^ f < q = omega (arith, shr_mono f h, n) in
      binade_some f q lo hi (omega arith) (le_of_lt ((div-lt_iff_lt-mul (pow_pos f)).0 l)) (field f q hi is).0

  pub some_low : (j : ℕ) → q ≡ 0 → 0 < j → (lo - 1) / 2 ^ (j - 1) < hi / 2 ^ (j - 1) → SomeMultiple f (j - 1) lo hi
  some_low j z p l =
      let b : hi < 0 * 2 ^ f + 2 ^ f = subst (λ (x : ℕ). hi < x * 2 ^ f + 2 ^ f) z (field f q hi is).1 in
      let t = digits_some f j 0 lo hi (inl refl) (omega arith) p l in
      record { m = t.m; low = omega (arith, t.low); high = omega (arith, t.high); divides = subst (λ (x : ℕ). 2 ^ (x - 1) ∣ magnitude f t.m) (add_none j) t.divides }

  pub some_high : (j base : ℕ) → lo / 2 ^ f ≡ q → (q ≡ 0 → ⊥) → base ≡ (q - 1) * 2 ^ f → 0 < j → (lo - base - 1) / 2 ^ (j - 1) < (hi - base) / 2 ^ (j - 1) → SomeMultiple f (j + (q - 1) - 1) lo hi
  some_high j base o n b p l =
      let u = base_next f q base n b in
      let v = field f q lo (sym o) in
      let w = field f q hi is in
      let t = digits_some f j (q - 1) (lo - base) (hi - base) (inr (omega arith)) (omega arith) p l in
      record { m = t.m; low = omega (arith, t.low); high = omega (arith, t.high); divides = t.divides }
