-- `arith::sum::range_test` meets its contract. Assumes nothing.
use Rattle.std.proofs.Common.{arith}
use Rattle.arith.proofs.Sums.{test_over}
use Rattle.arith.proofs.sum.range_test.Goals as goal

pub returns-then-format-r : goal.returns-then-format-r
returns-then-format-r c = let a = c.args in test_over a.format a.sign a.r (omega arith)
