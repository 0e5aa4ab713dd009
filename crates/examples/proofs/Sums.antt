-- 01's starred sums: the checker computes each from the definitions. Assumes nothing.
use mathlib.Core.Path.{refl}
use lib.Ieee.{size}
use Rattle.ladder.specs.Magnitude.{magnitude}
use Rattle.ladder.specs.Rounding.{excess, round}
use Rattle.ladder.specs.Ordinal.{sign, infinity, ordinal, pattern}
use Rattle.ladder.specs.Sum.{rounded, sum}
use Rattle.ladder.specs.Remainder.{remainder}
use Rattle.arith.specs.Sums.{is_finite_ordinal, is_exact, mark_of, in_range, add_in, add_of}
use Rattle.examples.specs.Starred.{Sums}

pub sums : Sums
unfolding add_of add_in in_range is_finite_ordinal mark_of is_exact sum remainder rounded round excess magnitude size sign infinity ordinal pattern
sums = record { tie = refl; past_tie = refl; smallest = refl; largest = refl; too_large = refl; tie_32 = refl }
