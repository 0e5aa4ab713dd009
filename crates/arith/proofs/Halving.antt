-- Half of a number of units, rounded toward zero: from a word and a shift, and of two numbers that agree in the digits that count. Rests on `ladder`'s Truncation, Digits and Magnitude.
use Rattle.std.proofs.Common.{◌≡◌, ℕ, zero, suc, ◌+◌, ◌-◌, ◌*◌, ◌/◌, ◌%◌, ◌^◌, ◌<◌, ◌≤◌, Bool, true, false, eqb, sym, refl, ap, ◌∙◌, ap₂, inl, inr, lt_of_lt_of_le, mod-lt, lt_of_mul-lt-mul_right, mul-lt-mul_of_pos_right, mul-pos, div-add-mod', arith, pow_pos, pow_mono, pow-add, eq-eqb, ne_eqb}
use native.Mathlib.Nat.{div-div-eq-div-mul, pow-succ'}
use lib.Arith.{digits_div}
use lib.Ieee.{size}
use Rattle.ladder.specs.Magnitude.{magnitude}
use Rattle.ladder.specs.Rounding.{excess, truncated}
use Rattle.ladder.proofs.Cases.{le_or_lt}
use Rattle.ladder.proofs.Magnitude.{magnitude_zero}
use Rattle.ladder.proofs.Digits.{shifted_lt, size_scale, size_half}
use Rattle.ladder.proofs.Truncation.{truncated_value, truncated_scale, truncated_magnitude}
use Rattle.arith.specs.Exacts.{Alike, same, sticky, Fraction}
use Rattle.arith.specs.Thresholds.{halved_of}
use Rattle.arith.proofs.Roundings.{inexact}

made : (f n p : ℕ) (b : Bool) → truncated f (n / 2) ≡ p → eqb (2 * magnitude f (truncated f (n / 2))) n ≡ b → record { m = p; exact = b } ≡ halved_of f n
unfolding halved_of
made f n p b h g = sym (ap₂ (λ (x : ℕ) (y : Bool). record { m = x; exact = y }) h g)

-- ---- what `halve` makes
pub halved_zero : (f n s : ℕ) → n ≡ 0 → record { m = 0; exact = true } ≡ halved_of f (n * 2 ^ s)
halved_zero f n s z =
    let e : n * 2 ^ s ≡ 0 = ap (λ (x : ℕ). x * 2 ^ s) z ∙ omega arith in
    let none = magnitude_zero f 0 refl in
    let t : truncated f (n * 2 ^ s / 2) ≡ 0 = ap (truncated f) (omega (arith, none)) ∙ truncated_magnitude f 0 in
    made f (n * 2 ^ s) 0 true t (eq-eqb (2 * magnitude f (truncated f (n * 2 ^ s / 2))) (n * 2 ^ s) (omega (arith, e, magnitude_zero f (truncated f (n * 2 ^ s / 2)) t)))

-- ---- the digits
-- n * 2 ^ s units of which d digits are dropped beside the last, which makes the half; w is what is kept, and r the rest
module _ (f n s : ℕ) (pos : 0 < n) where
  abbrev T : ℕ
  T = n * 2 ^ s

  module _ (d w r : ℕ) (D : d ≡ (size n + s) - (f + 2)) (is : T ≡ w * 2 ^ (d + 1) + r) (low : r < 2 ^ (d + 1)) where
    drops : excess f (T / 2) ≡ d
    unfolding excess
    drops = omega (arith, size_half T, size_scale n s pos)

    twice : 2 * 2 ^ d ≡ 2 ^ (d + 1)
    twice = sym (pow-add 2 d 1 ∙ omega arith)

    keeps : T / 2 / 2 ^ d ≡ w
    keeps = div-div-eq-div-mul T 2 (2 ^ d) ∙ ap (λ (x : ℕ). T / x) twice ∙ ap (λ (x : ℕ). x / 2 ^ (d + 1)) is ∙ digits_div w low

    m_is : truncated f (T / 2) ≡ d * 2 ^ f + w
    unfolding truncated
    m_is = ap (λ (x : ℕ). x * 2 ^ f + T / 2 / 2 ^ x) drops ∙ ap (λ (x : ℕ). d * 2 ^ f + x) keeps

    value_is : 2 * magnitude f (truncated f (T / 2)) ≡ w * 2 ^ (d + 1)
    value_is =
        ap (λ (x : ℕ). 2 * x) (truncated_value f (T / 2) ∙ ap (λ (x : ℕ). T / 2 / 2 ^ x * 2 ^ x) drops ∙ ap (λ (x : ℕ). x * 2 ^ d) keeps)
        ∙ omega (arith, ap (λ (x : ℕ). w * x) twice)

    halved : record { m = d * 2 ^ f + w; exact = eqb r 0 } ≡ halved_of f T
    halved = elim (le_or_lt r 0) [
      | inl l ↦
          let z : r ≡ 0 = omega arith in
          ap (λ (b : Bool). record { m = d * 2 ^ f + w; exact = b }) (eq-eqb r 0 z) ∙ made f T (d * 2 ^ f + w) true m_is (eq-eqb (2 * magnitude f (truncated f (T / 2))) T (omega (arith, value_is)))
      | inr l ↦
          let z : r ≡ 0 → ⊥ = λ e. omega arith in
          ap (λ (b : Bool). record { m = d * 2 ^ f + w; exact = b }) (ne_eqb r 0 z) ∙ made f T (d * 2 ^ f + w) false m_is (ne_eqb (2 * magnitude f (truncated f (T / 2))) T (λ e. omega (arith, e, value_is)))
    ]

    -- what is kept has at most f + 1 digits, so at most 53
    few : Fraction f → w < 2 ^ 53
    few ok =
        let a : T < 2 ^ ((f + 1) + (d + 1)) = shifted_lt n s ((f + 1) + (d + 1)) (omega arith) in
        lt_of_lt_of_le (lt_of_mul-lt-mul_right (2 ^ (d + 1)) (omega (arith, pow-add 2 (f + 1) (d + 1)))) (pow_mono {i = f + 1} {j = 53} (omega (arith, ok.1)))

  right_pow : (d k : ℕ) → k + s ≡ d + 1 → 2 ^ (d + 1) ≡ 2 ^ k * 2 ^ s
  right_pow d k K = ap (λ (x : ℕ). 2 ^ x) (sym K) ∙ pow-add 2 k s

  right_is : (d k : ℕ) → k + s ≡ d + 1 → T ≡ n / 2 ^ k * 2 ^ (d + 1) + n % 2 ^ k * 2 ^ s
  right_is d k K = ap (λ (x : ℕ). x * 2 ^ s) (sym (div-add-mod' n (2 ^ k))) ∙ omega (arith, ap (λ (x : ℕ). n / 2 ^ k * x) (right_pow d k K))

  right_low : (d k : ℕ) → k + s ≡ d + 1 → n % 2 ^ k * 2 ^ s < 2 ^ (d + 1)
  right_low d k K = omega (arith, right_pow d k K, mul-lt-mul_of_pos_right (mod-lt n (pow_pos k)) (pow_pos s))

  -- a shift right: the low digits of n are dropped
  pub halved_right : (d k : ℕ) → d ≡ (size n + s) - (f + 2) → k + s ≡ d + 1 → record { m = d * 2 ^ f + n / 2 ^ k; exact = eqb (n % 2 ^ k) 0 } ≡ halved_of f T
  halved_right d k D K =
      ap (λ (b : Bool). record { m = d * 2 ^ f + n / 2 ^ k; exact = b }) (scale_zero (n % 2 ^ k))
      ∙ halved d (n / 2 ^ k) (n % 2 ^ k * 2 ^ s) D (right_is d k K) (right_low d k K)
    where
      scale_zero : (x : ℕ) → eqb x 0 ≡ eqb (x * 2 ^ s) 0
      scale_zero x = elim (le_or_lt x 0) [
        | inl l ↦ let z : x ≡ 0 = omega arith in eq-eqb x 0 z ∙ sym (eq-eqb (x * 2 ^ s) 0 (ap (λ (y : ℕ). y * 2 ^ s) z ∙ omega arith))
        | inr l ↦ ne_eqb x 0 (λ e. omega (arith, e)) ∙ sym (ne_eqb (x * 2 ^ s) 0 (λ e. omega (arith, e, mul-pos l (pow_pos s))))
      ]

  pub few_right : (d k : ℕ) → d ≡ (size n + s) - (f + 2) → k + s ≡ d + 1 → Fraction f → n / 2 ^ k < 2 ^ 53
  few_right d k D K = few d (n / 2 ^ k) (n % 2 ^ k * 2 ^ s) D (right_is d k K) (right_low d k K)

  left_is : (d k : ℕ) → k + (d + 1) ≡ s → T ≡ n * 2 ^ k * 2 ^ (d + 1) + 0
  left_is d k K = ap (λ (x : ℕ). n * 2 ^ x) (sym K) ∙ omega (arith, ap (λ (x : ℕ). n * x) (pow-add 2 k (d + 1)))

  -- a shift left: every digit is kept
  pub halved_left : (d k : ℕ) → d ≡ (size n + s) - (f + 2) → k + (d + 1) ≡ s → record { m = d * 2 ^ f + n * 2 ^ k; exact = true } ≡ halved_of f T
  halved_left d k D K = halved d (n * 2 ^ k) 0 D (left_is d k K) (pow_pos (d + 1))

  pub few_left : (d k : ℕ) → d ≡ (size n + s) - (f + 2) → k + (d + 1) ≡ s → Fraction f → n * 2 ^ k < 2 ^ 53
  few_left d k D K = few d (n * 2 ^ k) 0 D (left_is d k K) (pow_pos (d + 1))

-- ---- the digits below f + 2 do not matter, but whether there are any
below_half : (f i a x : ℕ) → 2 ^ f ≤ a → 0 < x → x < 2 ^ suc i → record { m = i * 2 ^ f + truncated f a; exact = false } ≡ halved_of f (a * 2 ^ suc i + x)
below_half f i a x big X l =
    let p = pow-succ' 2 i in
    let n = a * 2 ^ suc i + x in
    let h : n / 2 ≡ a * 2 ^ i + x / 2 = omega (arith, ap (λ (z : ℕ). a * z) p) in
    let t : truncated f (n / 2) ≡ i * 2 ^ f + truncated f a = ap (truncated f) h ∙ truncated_scale f i a (x / 2) big (omega arith) in
    made f n (i * 2 ^ f + truncated f a) false t (ne_eqb (2 * magnitude f (truncated f (n / 2))) n (λ e. elim (le_or_lt (x / 2) 0) [
      | inl z ↦ omega (arith, e, ap (λ (z : ℕ). a * z) p)
      | inr z ↦ inexact f i a (x / 2) (truncated f (n / 2)) big z (omega arith) (omega (arith, e, ap (λ (z : ℕ). a * z) p))
    ]))

pub halving_alike : (f n m : ℕ) → Alike (f + 1) n m → halved_of f n ≡ halved_of f m
halving_alike f n m (same e) = ap (halved_of f) e
halving_alike f n m (sticky zero a b c big B B' C C' N M) = absurd (omega arith)
halving_alike f n m (sticky (suc i) a b c big B B' C C' N M) =
    let l : 2 ^ f ≤ a = omega (arith, pow-add 2 f 1) in
    ap (halved_of f) N ∙ sym (below_half f i a b l B B') ∙ below_half f i a c l C C' ∙ sym (ap (halved_of f) M)
