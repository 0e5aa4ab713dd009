-- Numbers by their patterns, as the machine's floats have them: binary64 where wide, else binary32. For contracts inside the crate; no public one cites it. Assumes nothing.
use Rattle.std.specs.Prelude.{◌≡◌, Bool, true, false, cond, ℕ, ◌-◌, ◌/◌, ◌^◌, ◌≤◌, ◌<◌, ltb}
use Rattle.ladder.specs.Magnitude.{magnitude}
use Rattle.ladder.specs.Ordinal as L
use Rattle.ladder.specs.Solution as S
use Rattle.arith.specs.declared.format.Format.{Format}
use Rattle.arith.specs.declared.interval.Interval.{Interval}
use Rattle.arith.specs.Formats.{binary, fits32, fits64, is_finite, ordinal, sum, mirrored}

-- the format of the machine's floats
abbrev pub machine : Bool → Format
machine wide = cond wide (binary 52 11 fits64) (binary 23 8 fits32)

-- whether a pattern is a number's: finite or an infinity's
abbrev pub is_number : Format → ℕ → Bool
is_number F p = L.is_number F.fraction F.exponent p

-- the numbers of an interval, by their ordinals
abbrev pub ordinals : Format → Interval → S.Interval
ordinals F i = record { low = ordinal F i.low; high = ordinal F i.high }

-- a pattern has no bits beyond the width
abbrev pub FitsWidth : Bool → ℕ → Type 0
FitsWidth wide p = wide ≡ false → p < 2 ^ 32

-- r is p plus q, where p is finite; it is a number in any case
pub record Adds (F : Format) (p q r : ℕ) : Type 0 where
  pub number : is_number F r ≡ true
  pub is : is_finite F p ≡ true → ordinal F r ≡ sum F (ordinal F p) (ordinal F q)

-- r is p with the other sign
pub record Negates (F : Format) (p r : ℕ) : Type 0 where
  pub number : is_number F r ≡ true
  pub finite : is_finite F p ≡ true → is_finite F r ≡ true
  pub is : ordinal F r ≡ mirrored F (ordinal F p)

-- a pattern without its sign: 01's m
abbrev pub unsigned : Format → ℕ → ℕ
unsigned F p = cond (ltb p F.sign) p (p - F.sign)

-- r is half an ulp of m: with the exponent field c it is 2^(c - 2) units, and 0 where that is less than one
pub record HalfUlp (F : Format) (m r : ℕ) : Type 0 where
  pub low : r < F.infinity
  pub none : m / 2 ^ F.fraction < 2 → r ≡ 0
  pub power : 2 ≤ m / 2 ^ F.fraction → magnitude F.fraction r ≡ 2 ^ (m / 2 ^ F.fraction - 2)
