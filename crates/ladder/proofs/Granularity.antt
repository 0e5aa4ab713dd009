-- The least power of two that divides no value of a run of m, so that half of it divides one: with ends in different binades, its exponent is the number of digits of the upper value; inside one binade, the number of low digits to drop until the highest significand and the number before the lowest agree, plus the binade's shift. Assumes nothing.
use mathlib.Core.Path.{◌≡◌, sym, ap, ◌∙◌, subst}
use Prim.Native.Nat.{ℕ, ◌+◌, ◌-◌, ◌*◌, ◌/◌, ◌^◌, ◌≤◌, ◌<◌, ◌∣◌}
use native.Mathlib.Nat.{le_refl, le_of_dvd, le-div_iff_mul-le, div-lt_iff_lt-mul, div-add-mod', dvd_of_mul-dvd-mul_right, mod-eq-zero_of_dvd, div-mul-le_self, dvd_refl, dvd-mul_left, mul-dvd-mul_right}
use native.Mathlib.Omega.{arith}
use lib.Pow.{pow_pos, pow-add}
use Rattle.ladder.specs.Magnitude.{magnitude}
use Rattle.ladder.specs.Search.{NoMultiple, SomeMultiple}
use Rattle.ladder.proofs.Magnitude.{magnitude_lt, magnitude_high, magnitude_is, Counted, counted_more}

-- between u and v, which agree but for j digits, lies no multiple of 2^j
gapless : (u v s j : ℕ) → u / 2 ^ j ≡ v / 2 ^ j → u < s → s ≤ v → 2 ^ j ∣ s → ⊥
gapless u v s j e l h d =
    let q = s / 2 ^ j in
    let is : s ≡ q * 2 ^ j = omega (arith, div-add-mod' s (2 ^ j), mod-eq-zero_of_dvd (2 ^ j) d) in
    let a : u / 2 ^ j < q = (div-lt_iff_lt-mul (pow_pos j)).1 (omega arith) in
    let b : q ≤ v / 2 ^ j = (le-div_iff_mul-le (pow_pos j)).1 (omega arith) in
    omega arith

module _ (f : ℕ) where
  -- a power of two
  pub magnitude_power : (k : ℕ) → magnitude f ((k + 1) * 2 ^ f) ≡ 2 ^ (f + k)
  magnitude_power k = ap (magnitude f) (omega arith) ∙ magnitude_high f k (2 ^ f) (le_refl (2 ^ f)) (omega arith) ∙ sym (pow-add 2 f k)

  -- at least as many as the upper value has digits
  pub digits_free : (k lo hi : ℕ) → 0 < lo → hi < (k + 1) * 2 ^ f → NoMultiple f (f + k) lo hi
  digits_free k lo hi p h m l g d =
      let a = le_of_dvd (omega (arith, magnitude_lt f 0 m (omega arith))) d in
      omega (arith, magnitude_power k, magnitude_lt f m ((k + 1) * 2 ^ f) (omega arith))

  -- but the power of two at which its binade begins is a multiple of half of that
  pub binade_some : (q lo hi : ℕ) → 0 < q → lo ≤ q * 2 ^ f → q * 2 ^ f ≤ hi → SomeMultiple f (f + q - 1) lo hi
  binade_some q lo hi p l h =
      let is : magnitude f (q * 2 ^ f) ≡ 2 ^ (f + q - 1) = ap (magnitude f) (ap (λ (x : ℕ). x * 2 ^ f) (omega arith)) ∙ magnitude_power (q - 1) ∙ ap (λ (x : ℕ). 2 ^ x) (omega arith) in
      record { m = q * 2 ^ f; low = l; high = h; divides = rw is (dvd_refl (2 ^ (f + q - 1))) }

  -- in the binade of step 2^k, by the significands lo and hi
  pub binade_free : (j k lo hi : ℕ) → Counted (2 ^ f) k lo → hi ≤ 2 * 2 ^ f → 0 < lo → (lo - 1) / 2 ^ j ≡ hi / 2 ^ j → NoMultiple f (j + k) (k * 2 ^ f + lo) (k * 2 ^ f + hi)
  binade_free j k lo hi c h p e m l g d =
      let s = m - k * 2 ^ f in
      let is : magnitude f m ≡ s * 2 ^ k = ap (magnitude f) (omega arith) ∙ magnitude_is f k s (counted_more c (omega arith)) (omega arith) in
      let d' : 2 ^ j * 2 ^ k ∣ s * 2 ^ k = subst (λ (x : ℕ). x ∣ s * 2 ^ k) (pow-add 2 j k) (subst (λ (x : ℕ). 2 ^ (j + k) ∣ x) is d) in
      gapless (lo - 1) hi s j e (omega arith) (omega arith) (dvd_of_mul-dvd-mul_right (2 ^ j) (pow_pos k) d')

  -- but where they differ in the highest of these digits, one of the significands is a multiple of half of that
  pub digits_some : (j k lo hi : ℕ) → Counted (2 ^ f) k lo → hi ≤ 2 * 2 ^ f → 0 < j → (lo - 1) / 2 ^ (j - 1) < hi / 2 ^ (j - 1) → SomeMultiple f (j + k - 1) (k * 2 ^ f + lo) (k * 2 ^ f + hi)
  digits_some j k lo hi c h p l =
      let d = 2 ^ (j - 1) in
      let t = hi / d * d in
      let low : lo - 1 < t = (div-lt_iff_lt-mul (pow_pos (j - 1))).0 l in
      let high : t ≤ hi = div-mul-le_self hi d in
      let is : magnitude f (k * 2 ^ f + t) ≡ t * 2 ^ k = magnitude_is f k t (counted_more c (omega arith)) (omega arith) in
      let e : 2 ^ (j + k - 1) ≡ d * 2 ^ k = ap (λ (x : ℕ). 2 ^ x) (omega arith) ∙ pow-add 2 (j - 1) k in
      record { m = k * 2 ^ f + t; low = omega arith; high = omega arith; divides = rw (is, e) (mul-dvd-mul_right d (dvd-mul_left d (hi / d)) (2 ^ k)) }
