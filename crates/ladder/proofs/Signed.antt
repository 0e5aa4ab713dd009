-- The central law of rounding in its signed form: an ordinal b is at most the rounded p - n units exactly when twice p - n is at least the sum of the values of b and its lower neighbour,
-- which is twice their midpoint, and the midpoint itself goes up only to an even b. Assumes nothing.
use mathlib.Core.Path.{◌≡◌, ap}
use mathlib.Core.Logic.{◌↔◌, inl, inr}
use Prim.Native.Nat.{ℕ, suc, ◌+◌, ◌-◌, ◌*◌, ◌%◌, ◌≤◌, ◌<◌}
use native.Mathlib.Omega.{arith}
use Rattle.ladder.specs.Magnitude.{magnitude}
use Rattle.ladder.specs.Ordinal.{sign, infinity, above, below}
use Rattle.ladder.specs.Sum.{rounded, gains, losses, sum}
use Rattle.ladder.proofs.Cases.{le_or_lt}
use Rattle.ladder.proofs.Magnitude.{magnitude_lt}
use Rattle.ladder.proofs.Central.{round_le, le_round}
use Rattle.ladder.proofs.Ordinals.{infinity_lt_sign, sign_even, above_none, below_none}
use Rattle.ladder.proofs.Sum.{rounded_up, rounded_down}

module _ (f e : ℕ) (some : 1 ≤ f) where
  abbrev s : ℕ
  s = sign f e

  -- twice the midpoint of b and its lower neighbour, and 1 more where b is odd, against twice p - n units
  abbrev pub Reaches : ℕ → ℕ → ℕ → Type 0
  Reaches p n b = above f e (b - 1) + above f e b + b % 2 + 2 * n ≤ 2 * p + below f e (b - 1) + below f e b

  -- above zero
  high : (p n m : ℕ) → suc m ≤ infinity f e → (s + suc m ≤ rounded f e p n) ↔ (magnitude f m + magnitude f (suc m) + suc m % 2 + 2 * n ≤ 2 * p)
  high p n m c = elim (le_or_lt p n) [
    | inl h ↦ let r = rounded_down f e some p n h in (λ l. absurd (omega arith), λ l. absurd (omega (arith, magnitude_pos m)))
    | inr h ↦
        let r = rounded_up f e some p n (omega arith) in
        let k = le_round f some (p - n) m in
        (λ l. omega (arith, k.0 (omega arith)), λ l. omega (arith, k.1 (omega arith)))
  ]
    where
      magnitude_pos : (m : ℕ) → 0 < magnitude f (suc m)
      magnitude_pos m = omega (arith, magnitude_lt f m (suc m) (omega arith))

  -- at zero and below it
  low : (p n m : ℕ) → m < infinity f e → (s ≤ rounded f e p n + m) ↔ (2 * n + m % 2 ≤ 2 * p + magnitude f m + magnitude f (suc m))
  low p n m c = let t = infinity_lt_sign f e in elim (le_or_lt n p) [
    | inl h ↦ let r = rounded_up f e some p n h in (λ l. omega (arith, magnitude_lt f m (suc m) (omega arith)), λ l. omega arith)
    | inr h ↦
        let r = rounded_down f e some p n (omega arith) in
        let k = round_le f some (n - p) m in
        (λ l. omega (arith, k.0 (omega arith)), λ l. omega (arith, k.1 (omega arith)))
  ]

  le_rounded : (p n b : ℕ) → s < b + infinity f e → b ≤ s + infinity f e → (b ≤ rounded f e p n) ↔ Reaches p n b
  le_rounded p n b h l = elim (le_or_lt b s) [
    | inl g ↦
        let k = low p n (s - b) (omega arith) in
        let u = above_none f e b g in
        let v = above_none f e (b - 1) (omega arith) in
        let w : below f e (b - 1) ≡ magnitude f (suc (s - b)) = ap (magnitude f) (omega (arith, infinity_lt_sign f e)) in
        let q : (s - b) % 2 ≡ b % 2 = omega (arith, sign_even f e some) in
        (λ z. omega (arith, k.0 (omega arith)), λ z. omega (arith, k.1 (omega arith)))
    | inr g ↦
        let k = high p n (b - 1 - s) (omega arith) in
        let u = below_none f e b (omega arith) in
        let v = below_none f e (b - 1) (omega arith) in
        let w : above f e b ≡ magnitude f (suc (b - 1 - s)) = ap (magnitude f) (omega arith) in
        let q : suc (b - 1 - s) % 2 ≡ b % 2 = omega (arith, sign_even f e some) in
        (λ z. omega (arith, k.0 (omega arith)), λ z. omega (arith, k.1 (omega arith)))
  ]

  -- which operands have a sum of at least b
  pub le_sum : (x a b : ℕ) → s < b + infinity f e → b ≤ s + infinity f e → (b ≤ sum f e x a) ↔ Reaches (gains f e x a) (losses f e x a) b
  unfolding sum
  le_sum x a b = le_rounded (gains f e x a) (losses f e x a) b
