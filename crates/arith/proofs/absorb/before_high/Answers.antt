-- `arith::absorb::before_high` meets its contract. Assumes nothing.
use Rattle.std.proofs.Common.{arith}
use Rattle.arith.proofs.Formats.{infinity_lt}
use Rattle.arith.proofs.absorb.before_high.Goals as goal

pub overflow_sub-x : goal.overflow_sub-x
overflow_sub-x c =
    let ok = c.args.format.sound in
    omega (arith, ok.sign, ok.infinity, c.requires.ends.high.low, infinity_lt c.args.format ok)
