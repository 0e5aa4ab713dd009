-- `arith::sum::add` meets its contract: the answer as defined gives the sum. Assumes nothing.
use Rattle.std.proofs.Common.{rules}
use Rattle.arith.specs.Sums.{add_of}
use Rattle.arith.proofs.Additions.{gives_sum}
use Rattle.arith.proofs.sum.add.Goals as goal

pub returns : goal.returns
unfolding add_of
returns c = gives_sum c.args.width c.args.x c.args.a (search rules)
