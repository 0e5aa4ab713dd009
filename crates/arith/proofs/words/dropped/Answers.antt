-- `arith::words::dropped` meets its contract. Assumes nothing.
use Rattle.std.proofs.Common.{rules}
use Rattle.arith.proofs.Shifting.{past_mod}
use Rattle.arith.proofs.words.dropped.Goals as goal

pub returns : goal.returns
returns c = past_mod c.args.n c.args.k (search rules) c.if-k-lt64.false
