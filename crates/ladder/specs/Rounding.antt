-- A whole number of units, rounded to the nearest m, at a tie to the even m, as if no exponent were too large. Rests on the kit's `size`, the number of binary digits, and
-- `closest`, a quotient rounded to nearest even. That the result is the nearest is `round_nearest_size` (proofs/Nearest). Assumes nothing.
use Rattle.std.specs.Prelude.{ℕ, suc, ◌+◌, ◌-◌, ◌*◌, ◌/◌, ◌^◌}
use Rattle.std.specs.Float.Ieee.{size}
use Rattle.std.specs.Float.Ieee.Nearest.{closest}

-- the number of binary digits, 0 for 0
abbrev pub digits : ℕ → ℕ
digits n = size n

-- how many low digits of n are dropped, where f + 1 are kept
unfoldable pub excess : ℕ → ℕ → ℕ
excess f n = digits n - suc f

-- the m nearest to n units: the dropped digits count whole binades of 2^f, the kept ones go on top
unfoldable pub round : ℕ → ℕ → ℕ
round f n = excess f n * 2 ^ f + closest n (2 ^ excess f n)

-- the last m whose value is at most n units: n rounded toward zero
unfoldable pub truncated : ℕ → ℕ → ℕ
truncated f n = excess f n * 2 ^ f + n / 2 ^ excess f n
