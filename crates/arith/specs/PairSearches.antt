-- What the functions that narrow a sum with one float in two places take and answer, by `ladder`'s definitions at a format. For contracts inside the crate; no public one cites it. Assumes nothing.
use Rattle.std.specs.Prelude.{◌≡◌, ℕ, ◌+◌, ◌-◌, ◌<◌, ◌≤◌, min, max, Bool, false, Option, None, Some}
use Rattle.ladder.specs.Halves as H
use Rattle.ladder.specs.Absorption as K
use Rattle.ladder.specs.Pairing as P
use Rattle.ladder.specs.Pairing.{Pairing, none, ends}
use Rattle.arith.specs.declared.format.Format.{Format}
use Rattle.arith.specs.declared.range.Range.{Range}
use Rattle.arith.specs.declared.repeated.Couple.{Couple}
use Rattle.arith.specs.Formats.{Finite, sum}
use Rattle.arith.specs.Intervals.{Bounded, span}
use Rattle.arith.specs.Repeats.{Relation}

-- ---- what is narrowed
-- whether two values make such a sum, by the numbers of fraction and exponent bits
abbrev pub PairTest : Type 0
PairTest = ℕ → ℕ → ℕ → ℕ → Bool

-- what narrows two ranges to the values that pass a test
abbrev pub relation_of : PairTest → Relation
relation_of test F X A = P.pairing (test F.fraction F.exponent) (span X) (span A)

-- a finite ordinal of a sound format
pub record FiniteAt (F : Format) (x : ℕ) : Type 0 where
  pub finite : Finite F x

-- a finite range of a sound format, with something inside
pub record Filled (F : Format) (R : Range) : Type 0 where
  pub ends : Bounded F R
  pub order : R.low ≤ R.high

-- two such ranges
pub record BothFilled (F : Format) (P Q : Range) : Type 0 where
  pub first : Filled F P
  pub second : Filled F Q

-- the narrowing of ranges, as ladder's
abbrev pub coupled : Option Couple → Pairing
coupled None = none
coupled (Some c) = ends (span c.p) (span c.q)

-- a step may be called at any two such ranges, and narrows them to the values that pass the test
pub record Couples (pre : Format → Range → Range → Type 0) (post : Format → Range → Range → Option Couple → Type 0) (test : PairTest) : Type 0 where
  pub allowed : (F : Format) (P Q : Range) → BothFilled F P Q → pre F P Q
  pub gives : (F : Format) (P Q : Range) (c : Option Couple) → BothFilled F P Q → post F P Q c → coupled c ≡ relation_of test F P Q

-- the ends of what was found are finite
abbrev pub FiniteEnds : Format → Option Couple → Type 0
FiniteEnds F None = Unit
FiniteEnds F (Some c) = Bounded F c.p × Bounded F c.q

-- ---- x ⊕ x = b
-- the values whose double is at least b are those from x on
abbrev pub LeastHalf : Format → ℕ → ℕ → Type 0
LeastHalf F b x = H.LeastHalf F.fraction F.exponent b x

-- x has a finite double
abbrev pub Doublable : Format → ℕ → Type 0
Doublable F x = FiniteAt F (sum F x x)

-- the values whose double is at most b are those up to x
abbrev pub GreatestHalf : Format → ℕ → ℕ → Type 0
GreatestHalf F b x = H.GreatestHalf F.fraction F.exponent b x

-- ---- x ⊕ a = x
-- whether x absorbs a
abbrev pub absorbs : Format → ℕ → ℕ → Bool
absorbs F x a = P.absorbs F.fraction F.exponent x a

-- from zero up, x absorbs the a up to r and no others
abbrev pub AbsorbsTo : Format → ℕ → ℕ → Type 0
AbsorbsTo F x r = K.AbsorbsTo F.fraction F.exponent x r

-- from zero up, the a that some x inside X absorbs are those up to r
abbrev pub AbsorbedTo : Format → Range → ℕ → Type 0
AbsorbedTo F X r = K.AbsorbedTo F.fraction F.exponent (span X) r

-- x inside X absorbs c
abbrev pub Absorber : Format → ℕ → Range → ℕ → Type 0
Absorber F c X = K.Absorber F.fraction F.exponent c (span X)

-- a finite x, and a c from zero up that it may absorb
pub record FromZero (F : Format) (x c : ℕ) : Type 0 where
  pub finite : Finite F x
  pub from : F.sign ≤ c

-- the place of a finite float that is not zero
pub record Nonzero (F : Format) (m : ℕ) : Type 0 where
  pub some : 0 < m
  pub finite : m < F.infinity

-- a finite c above zero, and a range in which its absorbers are sought
pub record Sought (F : Format) (c : ℕ) (X : Range) : Type 0 where
  pub range : Filled F X
  pub finite : Finite F c
  pub positive : F.sign < c

-- and neither the low end nor the number after it absorbs c
pub record LowMisses (F : Format) (c : ℕ) (X : Range) : Type 0 where
  pub sought : Sought F c X
  pub end : absorbs F X.low c ≡ false
  pub next : absorbs F (min (X.low + 1) X.high) c ≡ false

-- the same of the high end and the number before it
pub record HighMisses (F : Format) (c : ℕ) (X : Range) : Type 0 where
  pub sought : Sought F c X
  pub end : absorbs F X.high c ≡ false
  pub next : absorbs F (max (X.high - 1) X.low) c ≡ false

-- x and a with zero inside a
pub record Around (F : Format) (X A : Range) : Type 0 where
  pub ranges : BothFilled F X A
  pub below : A.low ≤ F.sign
  pub above : F.sign ≤ A.high

-- x and an a above zero
pub record Above (F : Format) (X A : Range) : Type 0 where
  pub ranges : BothFilled F X A
  pub above : F.sign < A.low

-- x and an a below zero
pub record Below (F : Format) (X A : Range) : Type 0 where
  pub ranges : BothFilled F X A
  pub below : A.high < F.sign
