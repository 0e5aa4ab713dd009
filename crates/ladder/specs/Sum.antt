-- 01's x ⊕ a on ordinals: the exact sum in units, rounded. A sum with no finite result has the ordinal of an infinity, which lies just beyond the finite ones. Assumes nothing.
use Rattle.std.specs.Prelude.{ℕ, ◌+◌, ◌-◌, ◌^◌, min}
use Rattle.ladder.specs.Magnitude.{magnitude}
use Rattle.ladder.specs.Rounding.{round}
use Rattle.ladder.specs.Ordinal.{sign, infinity, above, below}

-- p - n units, rounded, as an ordinal
unfoldable pub rounded : ℕ → ℕ → ℕ → ℕ → ℕ
rounded f e p n = (sign f e + min (round f (p - n)) (infinity f e)) - min (round f (n - p)) (infinity f e)

-- the units above zero of an exact sum, which is gains - losses
abbrev pub gains : ℕ → ℕ → ℕ → ℕ → ℕ
gains f e x a = above f e x + above f e a

-- the units below zero of an exact sum
abbrev pub losses : ℕ → ℕ → ℕ → ℕ → ℕ
losses f e x a = below f e x + below f e a

-- x ⊕ a
unfoldable pub sum : ℕ → ℕ → ℕ → ℕ → ℕ
sum f e x a = rounded f e (gains f e x a) (losses f e x a)

-- 01's bound in units: from this size of the exact sum on no finite sum exists. It is the value at infinity's place, 2^128 or 2^1024, less half an ulp of the largest finite float, 2^103 or 2^970
unfoldable pub bound : ℕ → ℕ → ℕ
bound f e = magnitude f (infinity f e) - 2 ^ (2 ^ e - 4)
