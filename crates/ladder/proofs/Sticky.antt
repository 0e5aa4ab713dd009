-- What addition in one machine word leans on: of the digits below one guard digit rounding asks only whether all are 0 (the sticky digit), and a shift goes through rounding. Assumes nothing.
use mathlib.Core.Path.{◌≡◌, ap, ◌∙◌}
use mathlib.Core.Logic.{inl, inr}
use Prim.Native.Nat.{ℕ, suc, ◌+◌, ◌-◌, ◌*◌, ◌^◌, ◌≤◌, ◌<◌}
use native.Mathlib.Nat.{le_refl, le_antisymm, le_trans, mul-le-mul_right, mul-le-mul, lt_of_mul-lt-mul_right, pow-succ'}
use native.Mathlib.Omega.{arith}
use lib.Pow.{pow_pos, pow-add, pow_mono}
use lib.Ieee.{size}
use lib.Ieee.Nearest.{closest, closest_same}
use Rattle.ladder.specs.Magnitude.{magnitude, shift, significand}
use Rattle.ladder.specs.Rounding.{excess, round}
use Rattle.ladder.proofs.Cases.{le_or_lt}
use Rattle.ladder.proofs.Digits.{lt_size, size_scale}
use Rattle.ladder.proofs.Magnitude.{parts, magnitude_parts, magnitude_suc}
use Rattle.ladder.proofs.Central.{round_le}

-- no midpoint lies strictly between a * 2 ^ j and suc a * 2 ^ j
gap : (f j a m : ℕ) → 2 * 2 ^ f ≤ a → 2 * (a * 2 ^ j) < magnitude f m + magnitude f (suc m) → 2 * (suc a * 2 ^ j) ≤ magnitude f m + magnitude f (suc m)
gap f j a m big h =
    let q = significand f m in
    let k = shift f m in
    let x : magnitude f m ≡ q * 2 ^ k = magnitude_parts f m in
    let y : magnitude f (suc m) ≡ magnitude f m + 2 ^ k = magnitude_suc f m in
    elim (le_or_lt k j) [
      | inl l ↦
          let g : suc q * 2 ^ k ≤ a * 2 ^ j = mul-le-mul (le_trans (parts f m).below big) (pow_mono l) in
          absurd (omega (arith, pow_pos k))
      | inr l ↦
          let t = (2 * q + 1) * 2 ^ (k - suc j) in
          let e : 2 ^ k ≡ 2 ^ (k - suc j) * (2 * 2 ^ j) = ap (λ (z : ℕ). 2 ^ z) (omega arith) ∙ pow-add 2 (k - suc j) (suc j) ∙ ap (λ (z : ℕ). 2 ^ (k - suc j) * z) (pow-succ' 2 j) in
          let s : magnitude f m + magnitude f (suc m) ≡ 2 * (t * 2 ^ j) = omega (arith, ap (λ (z : ℕ). q * z) e) in
          let g : a < t = lt_of_mul-lt-mul_right (2 ^ j) (omega arith) in
          omega (arith, mul-le-mul_right (2 ^ j) g)
    ]

module _ (f : ℕ) (some : 1 ≤ f) where
  one_way : (j a b c : ℕ) → 2 * 2 ^ f ≤ a → 0 < b → c < 2 ^ j → round f (a * 2 ^ j + c) ≤ round f (a * 2 ^ j + b)
  one_way j a b c big B C =
      let m = round f (a * 2 ^ j + b) in
      let l = (round_le f some (a * 2 ^ j + b) m).0 (le_refl m) in
      (round_le f some (a * 2 ^ j + c) m).1 (omega (arith, gap f j a m big (omega arith)))

  -- any digits that are not all 0 will do, below one digit more than rounding keeps
  pub round_sticky : (j a b c : ℕ) → 2 * 2 ^ f ≤ a → 0 < b → b < 2 ^ j → 0 < c → c < 2 ^ j → round f (a * 2 ^ j + b) ≡ round f (a * 2 ^ j + c)
  round_sticky j a b c big B B' C C' = le_antisymm (one_way j a c b big C B') (one_way j a b c big B C')

-- ---- a shift of a number that has all its digits
pub round_scale : (f n t : ℕ) → 2 ^ f ≤ n → round f (n * 2 ^ t) ≡ t * 2 ^ f + round f n
unfolding round excess
round_scale f n t h =
    let k = excess f n in
    let l : f < size n = lt_size n f h in
    let d : excess f (n * 2 ^ t) ≡ k + t = omega (arith, size_scale n t (omega (arith, pow_pos f))) in
    ap (λ (x : ℕ). x * 2 ^ f + closest (n * 2 ^ t) (2 ^ x)) d
    ∙ ap (λ (x : ℕ). (k + t) * 2 ^ f + x) (closest_same (n * 2 ^ t) (2 ^ (k + t)) n (2 ^ k) (pow_pos (k + t)) (pow_pos k) (omega (arith, ap (λ (x : ℕ). n * x) (pow-add 2 k t))))
    ∙ omega arith
