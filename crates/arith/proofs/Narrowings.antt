-- What the ends of a narrowing are found within is finite. Rests on `ladder`'s Hull and Assembly.
use Rattle.ladder.proofs.Hull.{within_bounded, spans_within}
use Rattle.ladder.proofs.Assembly.{x_within}
use Rattle.arith.specs.declared.range.Range.{Range}
use Rattle.arith.specs.declared.ranges.Ranges.{Ranges}
use Rattle.arith.specs.Intervals.{Bounded, span}
use Rattle.arith.specs.Searches.{HasX, HasB, Spans}

module _ (R : Ranges) where
  pub x_bounded : (P : Range) → Spans (HasX R) P → Bounded R.format P
  x_bounded P s = within_bounded R.x_ends (x_within R.format.fraction R.format.exponent (span R.x) (span R.a) (span R.b) (span P) s)

  pub b_bounded : (P : Range) → Spans (HasB R) P → Bounded R.format P
  b_bounded P s = within_bounded R.b_ends (spans_within (HasB R) (span R.b) (span P) (λ y w. w.solution.b_in) s)
