-- The number of decimal digits, by the powers of ten around a number. Rests on specs/Digits of `reader`.
use mathlib.Core.Path.{◌≡◌, refl, sym, ◌∙◌}
use Prim.Native.Nat.{ℕ, zero, suc, ◌+◌, ◌*◌, ◌/◌, ◌^◌, ◌≤◌, ◌<◌, max}
use native.Mathlib.Nat.{pow-zero, pow-suc, one-le-pow}
use native.Mathlib.Numerals.{add-one}
use native.Mathlib.Omega.{arith}
use borrow.Author.Tests.{lt-ltb, le-ltb}
use Rattle.reader.specs.Digits.{digit_count}

count_is : (m k n : ℕ) → k ≤ m → 10 ^ k ≤ n → n < 10 * 10 ^ k → digit_count m n ≡ suc k
unfolding digit_count
count_is zero zero n h p q = refl
count_is zero (suc k) n h p q = absurd (omega arith)
count_is (suc m) zero n h p q = let e = pow-zero 10 in rw (lt-ltb n 10 (omega arith))
count_is (suc m) (suc k) n h p q =
    let e = pow-suc 10 k in
    let one : 1 ≤ 10 ^ k = one-le-pow _ _ (omega arith) in
    rw (le-ltb n 10 (omega arith), count_is m k (n / 10) (omega arith) (omega arith) (omega arith))

-- 0 has one digit, as 1 has
pub count_from : (n k : ℕ) → 10 ^ k ≤ max n 1 → max n 1 < 10 * 10 ^ k → k < 20 → digit_count 19 n ≡ k + 1
unfolding digit_count
count_from zero zero p q r = refl
count_from zero (suc k) p q r =
    let e = pow-suc 10 k in
    let one : 1 ≤ 10 ^ k = one-le-pow _ _ (omega arith) in
    absurd (omega arith)
count_from (suc n) k p q r = count_is 19 k (suc n) (omega arith) (omega arith) (omega arith) ∙ sym (add-one k)
