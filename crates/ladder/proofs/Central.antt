-- The central law of rounding: n units round to m or below exactly when twice n is at most the sum of the values of m and its upper neighbour, which is twice their midpoint, and the midpoint
-- itself goes down only to an even m. Overflow, inverse images and the sticky digit rest on it. Assumes nothing.
use mathlib.Core.Path.{◌≡◌, ap}
use mathlib.Core.Logic.{◌↔◌, ◌⊎◌, inl, inr}
use Prim.Native.Nat.{ℕ, suc, ◌+◌, ◌*◌, ◌^◌, ◌%◌, ◌≤◌, ◌<◌}
use native.Mathlib.Nat.{le_refl}
use native.Mathlib.Omega.{arith}
use Rattle.ladder.specs.Magnitude.{magnitude}
use Rattle.ladder.specs.Rounding.{round}
use Rattle.ladder.proofs.Cases.{le_or_lt, trichotomy}
use Rattle.ladder.proofs.Magnitude.{magnitude_le, magnitude_lt}
use Rattle.ladder.proofs.Rounding.{Floor, floor, Side, down, tie, up, near}

module _ (f : ℕ) (some : 1 ≤ f) where
  to_midpoint : (n m : ℕ) → round f n ≤ m → 2 * n + m % 2 ≤ magnitude f m + magnitude f (suc m)
  to_midpoint n m h = let a = floor f n some in go a a.side (trichotomy a.lo m) (magnitude_lt f m (suc m) (le_refl (suc m)))
    where
      go : (a : Floor f n) → Side (2 ^ a.k) a.r a.lo (round f n) → (a.lo < m) ⊎ ((a.lo ≡ m) ⊎ (m < a.lo)) → magnitude f m < magnitude f (suc m) → 2 * n + m % 2 ≤ magnitude f m + magnitude f (suc m)
      go a s (inl l) g = omega (arith, magnitude_le f (suc a.lo) m l)
      go a (down x e) (inr (inl l)) g = omega (arith, ap (magnitude f) l, ap (λ (z : ℕ). magnitude f (suc z)) l)
      go a (tie x e) (inr (inl l)) g = omega (arith, ap (magnitude f) l, ap (λ (z : ℕ). magnitude f (suc z)) l)
      go a (up x e) (inr (inl l)) g = omega arith
      go a s (inr (inr l)) g = omega (arith, near s)

  from_midpoint : (n m : ℕ) → 2 * n + m % 2 ≤ magnitude f m + magnitude f (suc m) → round f n ≤ m
  from_midpoint n m h = let a = floor f n some in go a a.side (trichotomy a.lo m) (magnitude_lt f m (suc m) (le_refl (suc m)))
    where
      go : (a : Floor f n) → Side (2 ^ a.k) a.r a.lo (round f n) → (a.lo < m) ⊎ ((a.lo ≡ m) ⊎ (m < a.lo)) → magnitude f m < magnitude f (suc m) → round f n ≤ m
      go a s (inl l) g = omega (arith, near s)
      go a (down x e) (inr (inl l)) g = omega arith
      go a (tie x e) (inr (inl l)) g = omega (arith, ap (magnitude f) l, ap (λ (z : ℕ). magnitude f (suc z)) l)
      go a (up x e) (inr (inl l)) g = omega (arith, ap (magnitude f) l, ap (λ (z : ℕ). magnitude f (suc z)) l)
      go a s (inr (inr l)) g = absurd (omega (arith, magnitude_le f (suc m) a.lo l))

  pub round_le : (n m : ℕ) → (round f n ≤ m) ↔ (2 * n + m % 2 ≤ magnitude f m + magnitude f (suc m))
  round_le n m = (to_midpoint n m, from_midpoint n m)

  -- the same from below
  pub le_round : (n m : ℕ) → (suc m ≤ round f n) ↔ (magnitude f m + magnitude f (suc m) + suc m % 2 ≤ 2 * n)
  le_round n m = (
    λ h. elim (le_or_lt (magnitude f m + magnitude f (suc m) + suc m % 2) (2 * n)) [
      | inl l ↦ l
      | inr l ↦ absurd (omega (arith, from_midpoint n m (omega arith)))
    ],
    λ h. elim (le_or_lt (suc m) (round f n)) [
      | inl l ↦ l
      | inr l ↦ absurd (omega (arith, to_midpoint n m (omega arith)))
    ],
  )
