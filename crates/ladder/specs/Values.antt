-- Demand 2's sentence on patterns: every finite pattern leads to its exact value and back to its one written pattern. Assumes nothing.
use Rattle.std.specs.Prelude.{◌≡◌, true, cond, ℕ, ◌+◌, ◌-◌, ltb}
use Rattle.ladder.specs.Magnitude.{magnitude}
use Rattle.ladder.specs.Ordinal.{sign, is_finite, ordinal, pattern, canonical, above, below}
use Rattle.ladder.specs.Sum.{rounded}

-- the units above zero of the pattern p: its m counts on the side of its sign
unfoldable pub units_above : ℕ → ℕ → ℕ → ℕ
units_above f e p = cond (ltb p (sign f e)) (magnitude f p) 0

-- the units below zero of the pattern p
unfoldable pub units_below : ℕ → ℕ → ℕ → ℕ
units_below f e p = cond (ltb p (sign f e)) 0 (magnitude f (p - sign f e))

-- the pattern p leads to its exact value, by its ordinal; the exact value leads back to the canonical pattern, and no other finite pattern with this value is canonical
pub record Written (f e p : ℕ) : Type 0 where
  pub up : above f e (ordinal f e p) ≡ units_above f e p
  pub down : below f e (ordinal f e p) ≡ units_below f e p
  pub back : pattern f e (rounded f e (units_above f e p) (units_below f e p)) ≡ canonical f e p
  pub one : (q : ℕ) → is_finite f e q ≡ true → units_above f e q + units_below f e p ≡ units_above f e p + units_below f e q → canonical f e q ≡ canonical f e p
