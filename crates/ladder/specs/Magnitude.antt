-- The exact value of a float without its sign. 01: a finite pattern without its sign bit is a whole number m, and the exact value is a whole number of units, 2^-149 at width 32 and 2^-1074 at width 64.
-- f is the number of fraction bits. Nothing here bounds the exponent: which m are finite is said in Ordinal. Assumes nothing.
use Rattle.std.specs.Prelude.{ℕ, zero, suc, ◌+◌, ◌-◌, ◌*◌, ◌/◌, ◌%◌, ◌^◌}

-- by the exponent field and the fraction t, for h = 2^f: a subnormal is t units, a normal (h + t) * 2^(field - 1)
abbrev pub scaled : ℕ → ℕ → ℕ → ℕ
scaled h zero t = t
scaled h (suc k) t = (h + t) * 2 ^ k

-- 01's exact value of m, in units
unfoldable pub magnitude : ℕ → ℕ → ℕ
magnitude f m = scaled (2 ^ f) (m / 2 ^ f) (m % 2 ^ f)

-- the same taken apart: the value is significand * 2^shift units, and 2^shift is one ulp
unfoldable pub shift : ℕ → ℕ → ℕ
shift f m = m / 2 ^ f - 1

-- with the hidden digit where there is one
unfoldable pub significand : ℕ → ℕ → ℕ
unfolding shift
significand f m = m - shift f m * 2 ^ f
