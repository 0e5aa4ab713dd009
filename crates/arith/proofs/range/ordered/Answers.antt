-- `arith::range::ordered` meets its contract. Assumes nothing.
use Rattle.std.proofs.Common.{refl}
use Rattle.arith.specs.Intervals.{is_ordered}
use Rattle.arith.proofs.range.ordered.Goals as goal

pub returns : goal.returns
unfolding is_ordered
returns c = refl
