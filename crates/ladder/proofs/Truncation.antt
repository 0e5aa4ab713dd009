-- Rounding toward zero: the other half of a Galois connection with the exact value. Assumes nothing.
use mathlib.Core.Path.{◌≡◌, ap, ◌∙◌}
use mathlib.Core.Logic.{◌↔◌, inl, inr}
use Prim.Native.Nat.{ℕ, suc, ◌+◌, ◌*◌, ◌/◌, ◌^◌, ◌≤◌, ◌<◌}
use native.Mathlib.Nat.{le_refl, le_antisymm, le_of_suc-le-suc, mod-lt, div-add-mod', mul-le-mul_right}
use native.Mathlib.Omega.{arith}
use lib.Pow.{pow_pos}
use Rattle.ladder.specs.Magnitude.{magnitude}
use Rattle.ladder.specs.Rounding.{excess, truncated}
use Rattle.ladder.proofs.Cases.{le_or_lt}
use Rattle.ladder.proofs.Magnitude.{magnitude_le, magnitude_lt, lt_of_magnitude, counted_suc, magnitude_is, magnitude_small, magnitude_shift}
use Rattle.ladder.proofs.Rounding.{counted, few}

-- its value is n without the dropped digits
pub truncated_value : (f n : ℕ) → magnitude f (truncated f n) ≡ n / 2 ^ excess f n * 2 ^ excess f n
unfolding truncated
truncated_value f n = magnitude_is f (excess f n) (n / 2 ^ excess f n) (counted f n) (omega (arith, few f n))

truncated_is : (f n : ℕ) → (magnitude f (truncated f n) ≤ n) × (n < magnitude f (suc (truncated f n)))
unfolding truncated
truncated_is f n =
    let k = excess f n in
    let w = n / 2 ^ k in
    let l = few f n in
    let a = truncated_value f n in
    let b : magnitude f (suc (k * 2 ^ f + w)) ≡ suc w * 2 ^ k = ap (magnitude f) (omega arith) ∙ magnitude_is f k (suc w) (counted_suc (2 ^ f) k w (counted f n)) l in
    omega (arith, div-add-mod' n (2 ^ k), mod-lt n (pow_pos k))

pub truncated_galois : (f n m : ℕ) → (magnitude f m ≤ n) ↔ (m ≤ truncated f n)
truncated_galois f n m =
    let b = truncated_is f n in
    (λ h. le_of_suc-le-suc (lt_of_magnitude f m (suc (truncated f n)) (omega arith)), λ h. omega (arith, magnitude_le f m (truncated f n) h))

pub truncated_magnitude : (f m : ℕ) → truncated f (magnitude f m) ≡ m
truncated_magnitude f m = le_antisymm (le_of_le (truncated_is f (magnitude f m)).0) ((truncated_galois f (magnitude f m) m).0 (le_refl (magnitude f m)))
  where
    le_of_le : {a : ℕ} → magnitude f a ≤ magnitude f m → a ≤ m
    le_of_le {a} h = elim (le_or_lt a m) [ inl l ↦ l | inr l ↦ absurd (omega (arith, magnitude_lt f m a l)) ]

-- digits below the f + 1 that are kept do not matter
pub truncated_scale : (f t n r : ℕ) → 2 ^ f ≤ n → r < 2 ^ t → truncated f (n * 2 ^ t + r) ≡ t * 2 ^ f + truncated f n
truncated_scale f t n r h l =
    let m = truncated f n in
    let b : 2 ^ f ≤ m = (truncated_galois f n (2 ^ f)).0 (omega (arith, magnitude_small f (2 ^ f) (omega arith))) in
    let w = truncated_is f n in
    let low : t * 2 ^ f + m ≤ truncated f (n * 2 ^ t + r) = (truncated_galois f (n * 2 ^ t + r) (t * 2 ^ f + m)).0 (omega (arith, magnitude_shift f t m b, mul-le-mul_right (2 ^ t) w.0)) in
    elim (le_or_lt (truncated f (n * 2 ^ t + r)) (t * 2 ^ f + m)) [
      | inl g ↦ omega arith
      | inr g ↦
          let big = (truncated_galois f (n * 2 ^ t + r) (t * 2 ^ f + suc m)).1 (omega arith) in
          absurd (omega (arith, magnitude_shift f t (suc m) (omega arith), mul-le-mul_right (2 ^ t) w.1))
    ]
