-- 01's formats by width, and the definitions of `ladder` at a format. Assumes nothing.
use Rattle.std.specs.Prelude.{ℕ, Bool, cond, ◌||◌, ◌==◌, Result, Ok, Err}
use Rattle.ladder.specs.Ordinal as L
use Rattle.ladder.specs.Sum as S
use Rattle.ladder.specs.Remainder as R
use Rattle.std.proofs.Common.{refl, lit≤}
use Rattle.arith.specs.declared.format.Format.{Format}
use Rattle.arith.specs.declared.refusal.Reason.{Reason}
use Rattle.arith.specs.Binaries.{IsBinary}

-- the format with f fraction bits and e exponent bits
abbrev pub binary : (f e : ℕ) → IsBinary f e (L.sign f e) (L.infinity f e) → Format
binary f e ok = record { fraction = f; exponent = e; sign = L.sign f e; infinity = L.infinity f e; sound = ok }

-- a word holds the patterns of width 32
pub fits32 : IsBinary 23 8 (L.sign 23 8) (L.infinity 23 8)
unfolding L.sign L.infinity
fits32 = record { some = lit≤ tt; few = lit≤ tt; sign = refl; infinity = refl; word = lit≤ tt }

-- and of width 64
pub fits64 : IsBinary 52 11 (L.sign 52 11) (L.infinity 52 11)
unfolding L.sign L.infinity
fits64 = record { some = lit≤ tt; few = lit≤ tt; sign = refl; infinity = refl; word = lit≤ tt }

-- refusal 1 is for every other width
abbrev pub is_known : ℕ → Bool
is_known width = width == 32 || width == 64

-- 01: width 32 has 8 exponent bits and 23 fraction bits, width 64 has 11 and 52. Any other width is refused before its format is used; here it gets that of 64
abbrev pub format_of : ℕ → Format
format_of width = cond (width == 32) (binary 23 8 fits32) (binary 52 11 fits64)

-- the format of a width that is known, else the reason of refusal 1
abbrev pub known_format : ℕ → Result Format Reason
known_format width = cond (is_known width) (Ok (format_of width)) (Err Reason.Width)

-- what every format's numbers are
abbrev pub Sound : Format → Type 0
Sound F = IsBinary F.fraction F.exponent F.sign F.infinity

-- whether a pattern is finite in the format
abbrev pub is_finite : Format → ℕ → Bool
is_finite F p = L.is_finite F.fraction F.exponent p

-- the ordinal of a pattern: 01's place, shifted into the naturals
abbrev pub ordinal : Format → ℕ → ℕ
ordinal F p = L.ordinal F.fraction F.exponent p

-- the one pattern that is written for an ordinal
abbrev pub pattern : Format → ℕ → ℕ
pattern F r = L.pattern F.fraction F.exponent r

-- the pattern with the other sign, of both zeros the one that is written
abbrev pub negated : Format → ℕ → ℕ
negated F p = L.negated F.fraction F.exponent p

-- r is the ordinal of a finite float of the format
abbrev pub Finite : Format → ℕ → Type 0
Finite F r = L.Finite F.fraction F.exponent r

-- x ⊕ a on ordinals
abbrev pub sum : Format → ℕ → ℕ → ℕ
sum F x a = S.sum F.fraction F.exponent x a

-- what s leaves over of the exact sum of x and a, on ordinals
abbrev pub remainder : Format → ℕ → ℕ → ℕ → ℕ
remainder F x a s = R.remainder F.fraction F.exponent x a s

-- the ordinal of the value with the other sign
abbrev pub mirrored : Format → ℕ → ℕ
mirrored F r = L.mirrored F.fraction F.exponent r
