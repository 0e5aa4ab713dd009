-- `arith::sum::add_signed` meets its contract: the three steps make the sum. Assumes nothing.
use Rattle.arith.proofs.Sums.{finite_ordinal, steps_sum}
use Rattle.arith.proofs.sum.add_signed.Goals as goal

pub returns : goal.returns
returns c =
    let F = c.args.format in
    let t = c.exact_sum-exact in
    let r = c.round_sum-rounding in
    let v = c.range_test-tested in
    steps_sum F _ _ t.result r.result c.args.format.sound t.ensures r.ensures v.result
    (finite_ordinal F c.args.format.sound c.args.x c.requires.x_finite) (finite_ordinal F c.args.format.sound c.args.a c.requires.a_finite) v.ensures.is
