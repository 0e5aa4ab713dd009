-- Ranges with the operands exchanged: the same b stand in triples. Rests on `ladder`'s Solutions.
use Rattle.std.proofs.Common.{ℕ, ◌≤◌, subst}
use Rattle.ladder.specs.Search.{Least}
use Rattle.ladder.proofs.Sum.{sum_comm}
use Rattle.ladder.proofs.Solutions.{swap_b}
use Rattle.arith.specs.declared.ranges.Ranges.{Ranges}
use Rattle.arith.specs.Intervals.{span}
use Rattle.arith.specs.Searches.{HasB, Reaching, swapped}

module _ (R : Ranges) where
  pub swapped_b : (y : ℕ) → HasB R y → HasB (swapped R) y
  swapped_b = swap_b R.format.fraction R.format.exponent (span R.x) (span R.a) (span R.b)

  pub swapped_reaching : Reaching R → Reaching (swapped R)
  swapped_reaching r = record {
    low_high = subst (λ (s : ℕ). R.b.low ≤ s) (sum_comm R.format.fraction R.format.exponent _ _) r.high_low;
    high_low = subst (λ (s : ℕ). R.b.low ≤ s) (sum_comm R.format.fraction R.format.exponent _ _) r.low_high;
  }

pub swapped_least : (R : Ranges) (y : ℕ) → Least (HasB (swapped R)) y → Least (HasB R) y
swapped_least R y l = record { holds = swapped_b (swapped R) y l.holds; least = λ z w. l.least z (swapped_b R z w) }
