-- Patterns, ordinals and exact values of the format with f fraction bits and e exponent bits. An ordinal is 01's place shifted into the natural numbers:
-- the sign's weight + m, or the sign's weight - m with the sign set, so that both zeros have one ordinal. Assumes nothing.
use Rattle.std.specs.Prelude.{ℕ, ◌+◌, ◌-◌, ◌*◌, ◌^◌, ◌<◌, Bool, cond, leb, ltb, eqb}
use Rattle.ladder.specs.Magnitude.{magnitude}

-- the sign bit's weight, which is also zero's ordinal
unfoldable pub sign : ℕ → ℕ → ℕ
sign f e = 2 ^ (f + e)

-- infinity's pattern: all exponent bits set. The finite m are those below it
unfoldable pub infinity : ℕ → ℕ → ℕ
infinity f e = (2 ^ e - 1) * 2 ^ f

-- whether a pattern is finite: without its sign bit it is below infinity. A pattern with bits beyond the width is not
abbrev pub is_finite : ℕ → ℕ → ℕ → Bool
is_finite f e p = cond (ltb p (sign f e)) (ltb p (infinity f e)) (ltb (p - sign f e) (infinity f e))

-- whether a pattern is a number's: finite or an infinity's, and no NaN's
abbrev pub is_number : ℕ → ℕ → ℕ → Bool
is_number f e p = cond (ltb p (sign f e)) (leb p (infinity f e)) (leb (p - sign f e) (infinity f e))

-- the ordinal of a pattern
unfoldable pub ordinal : ℕ → ℕ → ℕ → ℕ
ordinal f e p = cond (ltb p (sign f e)) (sign f e + p) (sign f e - (p - sign f e))

-- the one pattern that is written for an ordinal: zero with the sign clear
unfoldable pub pattern : ℕ → ℕ → ℕ → ℕ
pattern f e r = cond (ltb r (sign f e)) (sign f e + (sign f e - r)) (r - sign f e)

-- the canonical pattern, which differs from the pattern at the negative zero alone
unfoldable pub canonical : ℕ → ℕ → ℕ → ℕ
canonical f e p = cond (eqb p (sign f e)) 0 p

-- the pattern with the other sign, of both zeros the one that is written
unfoldable pub negated : ℕ → ℕ → ℕ → ℕ
negated f e p = cond (eqb p 0) 0 (cond (ltb p (sign f e)) (p + sign f e) (p - sign f e))

-- r is the ordinal of a finite float
pub record Finite (f e r : ℕ) : Type 0 where
  pub low : sign f e < r + infinity f e
  pub high : r < sign f e + infinity f e

-- the units of r above zero. The exact value of r is above f e r - below f e r units, of which one is zero
abbrev pub above : ℕ → ℕ → ℕ → ℕ
above f e r = magnitude f (r - sign f e)

-- the units of r below zero
abbrev pub below : ℕ → ℕ → ℕ → ℕ
below f e r = magnitude f (sign f e - r)

-- the ordinal of the value with the other sign
abbrev pub mirrored : ℕ → ℕ → ℕ → ℕ
mirrored f e r = 2 * sign f e - r
