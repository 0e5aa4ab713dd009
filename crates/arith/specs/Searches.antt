-- What the functions that the narrowing calls answer: each case of an answer, by `ladder`'s definitions. For contracts inside the crate; no public one cites it. Assumes nothing.
use Rattle.std.specs.Prelude.{◌≡◌, ℕ, ◌-◌, ◌<◌, ◌≤◌, Option, None, Some}
use Rattle.ladder.specs.Solution.{Solution}
use Rattle.ladder.specs.Narrowing as N
use Rattle.ladder.specs.Narrowing.{Narrowing, none, ends}
use Rattle.ladder.specs.Search as S
use Rattle.arith.specs.declared.format.Format.{Format}
use Rattle.arith.specs.declared.range.Range.{Range}
use Rattle.arith.specs.declared.corner.Corner.{Corner}
use Rattle.arith.specs.declared.ranges.Ranges.{Ranges}
use Rattle.arith.specs.Formats.{sum}
use Rattle.arith.specs.Intervals.{span}

-- ---- the ends of what has a property
-- the answer is the least, or that there is none
abbrev pub LeastOf : (ℕ → Type 0) → Option ℕ → Type 0
LeastOf P (Some y) = S.Least P y
LeastOf P None = S.Never P

-- the answer is the greatest, or that there is none
abbrev pub GreatestOf : (ℕ → Type 0) → Option ℕ → Type 0
GreatestOf P (Some y) = S.Greatest P y
GreatestOf P None = S.Never P

-- from the least to the greatest
abbrev pub Spans : (ℕ → Type 0) → Range → Type 0
Spans P R = N.Spans P (span R)

-- ---- the properties, at a format and over ranges
-- y inside R has a sum with a of at least b
abbrev pub Attains : Format → ℕ → ℕ → Range → ℕ → Type 0
Attains F a b R = S.Attains F.fraction F.exponent a b (span R)

-- y inside R has a sum with a of at most b
abbrev pub Stays : Format → ℕ → ℕ → Range → ℕ → Type 0
Stays F a b R = S.Stays F.fraction F.exponent a b (span R)

-- t is no more than the least sum with a that is at least b, if one inside R has such a sum
abbrev pub AtMost : Format → ℕ → ℕ → Range → ℕ → Type 0
AtMost F a b R = S.AtMost F.fraction F.exponent a b (span R)

-- the same with the a before the least inside A that reaches b with X's low end
abbrev pub AtMostBefore : Ranges → ℕ → Type 0
AtMostBefore R t = (z : ℕ) → S.Least (Attains R.format R.x.low R.b.low R.a) z → R.a.low < z → AtMost R.format (z - 1) R.b.low R.x t

-- ---- the triples of ranges
-- x, a and b are a triple
abbrev pub Triple : Ranges → ℕ → ℕ → ℕ → Type 0
Triple R = Solution R.format.fraction R.format.exponent (span R.x) (span R.a) (span R.b)

-- x stands in a triple
abbrev pub HasX : Ranges → ℕ → Type 0
HasX R = N.HasX R.format.fraction R.format.exponent (span R.x) (span R.a) (span R.b)

-- b stands in a triple
abbrev pub HasB : Ranges → ℕ → Type 0
HasB R = N.HasB R.format.fraction R.format.exponent (span R.x) (span R.a) (span R.b)

-- the operands exchanged
abbrev pub swapped : Ranges → Ranges
swapped R = record R { x = R.a; a = R.x; x_ends = R.a_ends; a_ends = R.x_ends }

-- all three hold something
pub record InOrder (R : Ranges) : Type 0 where
  pub x : R.x.low ≤ R.x.high
  pub a : R.a.low ≤ R.a.high
  pub b : R.b.low ≤ R.b.high

-- no sum of a low end with the other operand's high end is below B
pub record Reaching (R : Ranges) : Type 0 where
  pub low_high : R.b.low ≤ sum R.format R.x.low R.a.high
  pub high_low : R.b.low ≤ sum R.format R.x.high R.a.low

-- ---- the corner of the triples
-- the triple with the least x and the greatest a, or that there is none
abbrev pub CornerOf : Ranges → Option Corner → Type 0
CornerOf R (Some c) = S.Corner R.format.fraction R.format.exponent (span R.x) (span R.a) (span R.b) c.x c.a c.b
CornerOf R None = S.Never (HasX R)

-- operands with nothing too coarse for B
abbrev pub Fine : Ranges → Type 0
Fine R = S.Fine R.format.fraction R.format.exponent (span R.x) (span R.a) (span R.b)

-- ladder's narrowing
abbrev pub narrowing : Ranges → Narrowing
narrowing R = N.narrowing R.format.fraction R.format.exponent (span R.x) (span R.a) (span R.b)

-- other operands that make the same triples, with nothing too coarse for B
pub record SameTriples (R O : Ranges) : Type 0 where
  -- no triple is lost
  pub kept : (x a b : ℕ) → Triple R x a b → Triple O x a b
  -- none is added
  pub given : (x a b : ℕ) → Triple O x a b → Triple R x a b
  pub fine : Fine O

-- ---- the narrowing of ranges
-- as ladder's, in the same format
abbrev pub NarrowedTo : Ranges → Option Ranges → Type 0
NarrowedTo R None = none ≡ narrowing R
NarrowedTo R (Some n) = (n.format ≡ R.format) × (ends (span n.x) (span n.a) (span n.b) ≡ narrowing R)
