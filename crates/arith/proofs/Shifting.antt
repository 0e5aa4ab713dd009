-- Numbers in a word of 64 digits: a shift by any amount, and the number of digits by the count of leading zeros. Assumes nothing.
use Rattle.std.proofs.Common.{◌≡◌, ℕ, suc, ◌+◌, ◌*◌, ◌/◌, ◌%◌, ◌^◌, ◌<◌, ◌≤◌, sym, inl, inr, lt_of_lt_of_le, mod-eq_of_lt, le_antisymm, div-add-mod', arith, pow_mono}
use native.Mathlib.Nat.{div-eq_of_lt, mod-eq-zero_of_dvd, pow-succ'}
use lib.Pow.{pow-lt}
use lib.Count.{count_leading_zeros, leading_length}
use lib.Ieee.{size}
use lib.Ieee.Digits.{size-lt, size-le}
use Rattle.ladder.proofs.Cases.{le_or_lt}
use Rattle.ladder.proofs.Multiples.{times_dvd}

pub pow_word : (k : ℕ) → k < 64 → 1 * 2 ^ k < 2 ^ 64
pow_word k h = omega (arith, pow-lt h)

past : (n k : ℕ) → n < 2 ^ 64 → 64 ≤ k → n < 2 ^ k
past n k h l = lt_of_lt_of_le h (pow_mono l)

pub past_div : (n k : ℕ) → n < 2 ^ 64 → 64 ≤ k → 0 ≡ n / 2 ^ k
past_div n k h l = sym (div-eq_of_lt (past n k h l))

pub past_mod : (n k : ℕ) → n < 2 ^ 64 → 64 ≤ k → n ≡ n % 2 ^ k
past_mod n k h l = sym (mod-eq_of_lt (past n k h l))

-- the low word of a shift left by a whole word or more
pub past_low : (n k : ℕ) → 64 ≤ k → 0 ≡ (n * 2 ^ k) % 2 ^ 64
past_low n k l = sym (mod-eq-zero_of_dvd (2 ^ 64) (times_dvd 64 k n l))

-- down and up again
pub again : (n k : ℕ) → n < 2 ^ 64 → (n / 2 ^ k * 2 ^ k) % 2 ^ 64 ≡ n / 2 ^ k * 2 ^ k
again n k h = mod-eq_of_lt (omega (arith, div-add-mod' n (2 ^ k)))

size_is : (n m : ℕ) → n < 2 ^ m → 2 ^ m ≤ 2 * n + 1 → size n ≡ m
size_is n m h l = elim (le_or_lt m (size n)) [
  | inl g ↦ le_antisymm (size-le n m h) g
  | inr g ↦ absurd (omega (arith, size-lt n, pow-succ' 2 (size n), pow_mono {i = suc (size n)} {j = m} g))
]

pub zeros_size : (n : ℕ) → n < 2 ^ 64 → count_leading_zeros 64 n + size n ≡ 64
zeros_size n h = let l = leading_length 64 n h in omega (arith, l.1, size_is n l.0 l.2 l.3)
