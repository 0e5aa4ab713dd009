-- The least operand without a search: what twice an operand must reach, as an exact difference in half units, and half of it rounded toward zero. For contracts inside the crate; no public one cites it. Assumes nothing.
use Rattle.std.specs.Prelude.{ℕ, ◌+◌, ◌*◌, ◌/◌, ◌==◌}
use Rattle.ladder.specs.Magnitude.{magnitude}
use Rattle.ladder.specs.Rounding.{truncated}
use Rattle.ladder.specs.Search.{crossing_up, crossing_down}
use Rattle.ladder.specs.Search as S
use Rattle.arith.specs.declared.format.Format.{Format}
use Rattle.arith.specs.declared.sum.Exact.{Exact}
use Rattle.arith.specs.declared.sum.Rounded.{Rounded}
use Rattle.arith.specs.declared.threshold.Difference.{Difference}
use Rattle.arith.specs.Exacts.{Amounts}

-- t is twice the midpoint of b and its lower neighbour, less twice a
abbrev pub Crosses : Format → ℕ → ℕ → Difference → Type 0
Crosses F a b t = Amounts F.fraction (F.fraction + 1) (crossing_up F.fraction F.exponent a b) (crossing_down F.fraction F.exponent a b) t.negative t.size

-- the larger significand doubled with i added, the smaller one with j
abbrev pub doubled_of : ℕ → ℕ → Exact → Exact
doubled_of i j t =
    record {
      opposite = t.opposite;
      larger = 2 * t.larger + i;
      smaller = 2 * t.smaller + j;
      gap = t.gap;
      shift = t.shift;
    }

-- half of n units, rounded toward zero, and whether nothing was lost
unfoldable pub halved_of : ℕ → ℕ → Rounded
halved_of f n = record { m = truncated f (n / 2); exact = (2 * magnitude f (truncated f (n / 2)) == n) }

-- the operands with a sum of at least b are those from x on
abbrev pub Threshold : Format → ℕ → ℕ → ℕ → Type 0
Threshold F a b x = S.Threshold F.fraction F.exponent a b x
