-- `arith::sum::round_sum` meets its contract. Assumes nothing.
use Rattle.arith.proofs.Roundings.{rounds}
use Rattle.arith.proofs.sum.round_sum.Goals as goal

pub returns : goal.returns
returns c =
    rounds c.args.fraction c.args.t c.scale-s.result c.round_units.result c.requires.fraction.0 c.scale-s.ensures c.round_units.ensures
