-- The number of binary digits of a number from a power of two on, of one shifted left, which lies between two powers of two, and of a half. Assumes nothing.
use mathlib.Core.Path.{◌≡◌, ap}
use mathlib.Core.Logic.{inl, inr}
use Prim.Native.Nat.{ℕ, ◌+◌, ◌-◌, ◌*◌, ◌/◌, ◌^◌, ◌≤◌, ◌<◌}
use native.Mathlib.Nat.{lt_of_lt_of_le, lt_of_not-le, not-le_of_lt, mul-le-mul_right, mul-lt-mul_of_pos_right}
use native.Mathlib.Omega.{arith}
use lib.Pow.{pow_pos, pow-add, pow_mono}
use lib.Ieee.{size}
use lib.Ieee.Digits.{size-lt, size-le, size_reaches}
use Rattle.ladder.proofs.Cases.{le_or_lt}
use Rattle.ladder.proofs.Rounding.{even_pow}

-- what reaches 2 ^ j has more than j digits
pub lt_size : (n j : ℕ) → 2 ^ j ≤ n → j < size n
lt_size n j h = lt_of_not-le (λ (g : size n ≤ j). not-le_of_lt (lt_of_lt_of_le (size-lt n) (pow_mono g)) h)

-- ---- shifted left by t
pub shifted_lt : (n t j : ℕ) → size n + t ≤ j → n * 2 ^ t < 2 ^ j
shifted_lt n t j h = omega (arith, mul-lt-mul_of_pos_right (size-lt n) (pow_pos t), pow-add 2 (size n) t, pow_mono h)

pub shifted_ge : (n t j : ℕ) → 0 < n → j < size n + t → 2 ^ j ≤ n * 2 ^ t
shifted_ge n t j p h =
    let z = lt_size n 0 p in
    omega (arith, mul-le-mul_right (2 ^ t) (size_reaches n (size n - 1) (omega arith)), pow-add 2 (size n - 1) t, pow_mono {i = j} {j = size n - 1 + t} (omega arith))

pub size_scale : (n t : ℕ) → 0 < n → size (n * 2 ^ t) ≡ size n + t
size_scale n t p =
    let z = lt_size n 0 p in
    let a = size-le (n * 2 ^ t) (size n + t) (shifted_lt n t (size n + t) (omega arith)) in
    let b = lt_size (n * 2 ^ t) (size n - 1 + t) (shifted_ge n t (size n - 1 + t) p (omega arith)) in
    omega arith

-- ---- halved
pub size_half : (n : ℕ) → size (n / 2) ≡ size n - 1
size_half n =
    let z = size n in
    elim (le_or_lt z 1) [
      | inl l ↦
          let s : n < 2 ^ 1 = lt_of_lt_of_le (size-lt n) (pow_mono l) in
          omega (arith, size-le (n / 2) 0 (omega arith))
      | inr l ↦
          let a : size (n / 2) ≤ z - 1 = size-le (n / 2) (z - 1) (omega (arith, size-lt n, even_pow z (omega arith))) in
          let b : z - 2 < size (n / 2) = lt_size (n / 2) (z - 2) (omega (arith, size_reaches n (z - 1) (omega arith), even_pow (z - 1) (omega arith), ap (λ (x : ℕ). 2 ^ x) (drop_two z))) in
          omega arith
    ]
  where
    drop_two : (z : ℕ) → z - 1 - 1 ≡ z - 2
    drop_two z = omega arith
