-- Where rounding loses nothing: a multiple of 2^j units below 2^(j + f + 1) is a float's value. Assumes nothing.
use mathlib.Core.Path.{◌≡◌, sym, ap, ◌∙◌}
use Prim.Native.Nat.{ℕ, suc, ◌+◌, ◌*◌, ◌^◌, ◌≤◌, ◌<◌, ◌∣◌}
use native.Mathlib.Nat.{dvd_trans, div-mul_cancel, mul-lt-mul_of_pos_right, pow-succ'}
use native.Mathlib.Omega.{arith}
use lib.Ieee.Digits.{size-le}
use lib.Pow.{pow-add, pow_pos}
use Rattle.ladder.specs.Magnitude.{magnitude}
use Rattle.ladder.specs.Rounding.{excess, round, truncated}
use Rattle.ladder.proofs.Rounding.{round_magnitude}
use Rattle.ladder.proofs.Multiples.{pow_dvd}
use Rattle.ladder.proofs.Truncation.{truncated_value}

-- s has at most f + 1 digits
pub digits_lt : (f s k : ℕ) → s < 2 * 2 ^ f → s * 2 ^ k < 2 ^ (k + suc f)
digits_lt f s k h = omega (arith, mul-lt-mul_of_pos_right h (pow_pos k), pow-add 2 k (suc f), ap (λ (x : ℕ). 2 ^ k * x) (pow-succ' 2 f))

excess_le : (f n j : ℕ) → n < 2 ^ (j + suc f) → excess f n ≤ j
unfolding excess
excess_le f n j l = omega (arith, size-le n (j + suc f) l)

module _ (f : ℕ) (some : 1 ≤ f) where
  -- the value of some m rounds to itself
  value_exact : (n m : ℕ) → magnitude f m ≡ n → magnitude f (round f n) ≡ n
  value_exact n m is = ap (λ (x : ℕ). magnitude f (round f x)) (sym is) ∙ ap (magnitude f) (round_magnitude f some m) ∙ is

  -- at most f + 1 digits above 2^j
  pub multiple_exact : (n j : ℕ) → 2 ^ j ∣ n → n < 2 ^ (j + suc f) → magnitude f (round f n) ≡ n
  multiple_exact n j d l =
      let k = excess f n in
      value_exact n (truncated f n) (truncated_value f n ∙ div-mul_cancel (2 ^ k) (dvd_trans (2 ^ k) (pow_dvd k j (excess_le f n j l)) d))
