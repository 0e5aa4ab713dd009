-- `arith::words::digits` meets its contract. Assumes nothing.
use Rattle.std.proofs.Common.{arith}
use Rattle.arith.proofs.Shifting.{zeros_size}
use Rattle.arith.proofs.words.digits.Goals as goal

pub returns : goal.returns
returns c = omega (arith, zeros_size c.args.n c.ranges.n.fits)
