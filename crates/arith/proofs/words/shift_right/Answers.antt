-- `arith::words::shift_right` meets its contract. Assumes nothing.
use Rattle.std.proofs.Common.{rules}
use Rattle.arith.proofs.Shifting.{past_div}
use Rattle.arith.proofs.words.shift_right.Goals as goal

pub returns : goal.returns
returns c = past_div c.args.n c.args.k (search rules) c.if-k-lt64.false
