-- `arith::sum::exact_sum` meets its contract. Assumes nothing.
use Rattle.arith.proofs.Decoding.{exact_x, exact_a}
use Rattle.arith.proofs.sum.exact_sum.Goals as goal

pub returns-then-a-x : goal.returns-then-a-x
returns-then-a-x c =
    exact_x c.args.format c.args.x c.args.a c.combine.result c.requires c.if-a-x.true c.combine.ensures

pub returns : goal.returns
returns c =
    exact_a c.args.format c.args.x c.args.a c.combine-2.result c.requires c.if-a-x.false c.combine-2.ensures
