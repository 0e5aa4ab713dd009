-- 02's remainder: what rounding left over of a sum. Assumes nothing.
use Rattle.std.specs.Prelude.{◌≡◌, ℕ, ◌+◌}
use Rattle.ladder.specs.Ordinal.{above, below, Finite}
use Rattle.ladder.specs.Sum.{rounded, gains, losses}

-- the exact sum of x and a less s, rounded
unfoldable pub remainder : ℕ → ℕ → ℕ → ℕ → ℕ → ℕ
remainder f e x a s = rounded f e (gains f e x a + below f e s) (losses f e x a + above f e s)

-- 02's r: a finite float such that exact x plus exact a is s plus r, with nothing lost. There is at most one such r (`remainder_unique`, proofs/Remainder)
pub record IsRemainder (f e x a s r : ℕ) : Type 0 where
  pub whole : gains f e x a + losses f e s r ≡ gains f e s r + losses f e x a
  pub finite : Finite f e r
