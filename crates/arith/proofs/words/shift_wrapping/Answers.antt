-- `arith::words::shift_wrapping` meets its contract. Assumes nothing.
use Rattle.arith.proofs.Shifting.{past_low}
use Rattle.arith.proofs.words.shift_wrapping.Goals as goal

pub returns : goal.returns
returns c = past_low c.args.n c.args.k c.if-k-lt64.false
