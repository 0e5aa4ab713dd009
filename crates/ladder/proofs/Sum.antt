-- The sum of two ordinals is commutative, monotone in each operand and mirrored; rounding p - n units gives back a value that has an ordinal. Assumes nothing.
use mathlib.Core.Path.{◌≡◌, refl, sym, ap, ap₂, ◌∙◌}
use mathlib.Core.Logic.{inl, inr}
use Prim.Native.Nat.{ℕ, ◌+◌, ◌-◌, ◌*◌, min, ◌≤◌}
use native.Mathlib.Nat.{add_comm}
use native.Mathlib.Omega.{arith}
use Rattle.ladder.specs.Magnitude.{magnitude}
use Rattle.ladder.specs.Rounding.{round}
use Rattle.ladder.specs.Ordinal.{sign, infinity, above, below, mirrored, Finite}
use Rattle.ladder.specs.Sum.{rounded, gains, losses, sum}
use Rattle.ladder.proofs.Cases.{le_or_lt}
use Rattle.ladder.proofs.Magnitude.{magnitude_le, magnitude_zero}
use Rattle.ladder.proofs.Rounding.{round_mono, round_magnitude}
use Rattle.ladder.proofs.Ordinals.{infinity_lt_sign, above_none, below_none, mirror_finite}

round_zero : (f n : ℕ) → 1 ≤ f → n ≡ 0 → round f n ≡ 0
round_zero f n some z = ap (round f) (z ∙ sym (magnitude_zero f 0 refl)) ∙ round_magnitude f some 0

pub sum_comm : (f e x a : ℕ) → sum f e x a ≡ sum f e a x
unfolding sum
sum_comm f e x a = ap₂ (rounded f e) (add_comm (above f e x) (above f e a)) (add_comm (below f e x) (below f e a))

module _ (f e : ℕ) (some : 1 ≤ f) where
  abbrev s : ℕ
  s = sign f e

  -- ---- the side of zero that p - n units lie on
  pub rounded_up : (p n : ℕ) → n ≤ p → rounded f e p n ≡ s + min (round f (p - n)) (infinity f e)
  unfolding rounded
  rounded_up p n h = omega (arith, round_zero f (n - p) some (omega arith))

  pub rounded_down : (p n : ℕ) → p ≤ n → rounded f e p n ≡ s - min (round f (n - p)) (infinity f e)
  unfolding rounded
  rounded_down p n h = omega (arith, round_zero f (p - n) some (omega arith))

  -- ---- monotone
  pub rounded_mono : (p n p' n' : ℕ) → p ≤ p' → n' ≤ n → rounded f e p n ≤ rounded f e p' n'
  unfolding rounded
  rounded_mono p n p' n' h l = omega (arith, round_mono f some (p - n) (p' - n') (omega arith), round_mono f some (n' - p') (n - p) (omega arith))

  pub sum_mono : (x y a b : ℕ) → x ≤ y → a ≤ b → sum f e x a ≤ sum f e y b
  unfolding sum
  sum_mono x y a b h l =
      rounded_mono (gains f e x a) (losses f e x a) (gains f e y b) (losses f e y b)
      (omega (arith, magnitude_le f (x - s) (y - s) (omega arith), magnitude_le f (a - s) (b - s) (omega arith)))
      (omega (arith, magnitude_le f (s - y) (s - x) (omega arith), magnitude_le f (s - b) (s - a) (omega arith)))

  -- ---- mirrored
  pub rounded_mirror : (p n : ℕ) → rounded f e n p ≡ mirrored f e (rounded f e p n)
  rounded_mirror p n = let c = infinity_lt_sign f e in elim (le_or_lt p n) [
    | inl h ↦ omega (arith, rounded_down p n h, rounded_up n p h)
    | inr h ↦ omega (arith, rounded_up p n (omega arith), rounded_down n p (omega arith))
  ]

  pub mirror_rounded : (p n : ℕ) → Finite f e (rounded f e p n) → Finite f e (rounded f e n p)
  mirror_rounded p n h = rw (rounded_mirror p n) (mirror_finite f e (rounded f e p n) h)

  pub above_mirror : (r : ℕ) → above f e (mirrored f e r) ≡ below f e r
  above_mirror r = ap (magnitude f) (omega arith)

  pub below_mirror : (r : ℕ) → r ≤ 2 * s → below f e (mirrored f e r) ≡ above f e r
  below_mirror r b = ap (magnitude f) (omega arith)

  pub sum_mirror : (x a : ℕ) → x ≤ 2 * s → a ≤ 2 * s → sum f e (mirrored f e x) (mirrored f e a) ≡ mirrored f e (sum f e x a)
  unfolding sum
  sum_mirror x a h l =
      ap₂ (rounded f e) (ap₂ ◌+◌ (above_mirror x) (above_mirror a)) (ap₂ ◌+◌ (below_mirror x h) (below_mirror a l))
      ∙ rounded_mirror (gains f e x a) (losses f e x a)

  -- ---- nothing is lost where p - n units are the value of an ordinal between the infinities
  pub rounded_value : (p n r : ℕ) → s ≤ r + infinity f e → r ≤ s + infinity f e → p + below f e r ≡ n + above f e r → rounded f e p n ≡ r
  rounded_value p n r h l v = elim (le_or_lt s r) [
    | inl g ↦
        let z = below_none f e r g in
        let m : round f (p - n) ≡ r - s = ap (round f) (omega arith) ∙ round_magnitude f some (r - s) in
        rounded_up p n (omega arith) ∙ omega arith
    | inr g ↦
        let z = above_none f e r (omega arith) in
        let m : round f (n - p) ≡ s - r = ap (round f) (omega arith) ∙ round_magnitude f some (s - r) in
        rounded_down p n (omega arith) ∙ omega arith
  ]

  -- ---- between the infinities
  rounded_range : (p n : ℕ) → (s ≤ rounded f e p n + infinity f e) × (rounded f e p n ≤ s + infinity f e)
  rounded_range p n = let c = infinity_lt_sign f e in elim (le_or_lt p n) [
    | inl h ↦ omega (arith, rounded_down p n h)
    | inr h ↦ omega (arith, rounded_up p n (omega arith))
  ]

  pub sum_range : (x a : ℕ) → (s ≤ sum f e x a + infinity f e) × (sum f e x a ≤ s + infinity f e)
  unfolding sum
  sum_range x a = rounded_range (gains f e x a) (losses f e x a)
