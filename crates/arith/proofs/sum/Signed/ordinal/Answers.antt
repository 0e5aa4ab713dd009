-- `arith::sum::Signed::ordinal` meets its contract. Assumes nothing.
use Rattle.std.proofs.Common.{arith}
use Rattle.arith.proofs.Formats.{infinity_lt}
use Rattle.arith.proofs.sum.Signed.ordinal.Goals as goal

pub overflow_add-result : goal.overflow_add-result
overflow_add-result c = omega (arith, c.args.format.sound.word, infinity_lt c.args.format c.args.format.sound)

pub overflow_sub-result : goal.overflow_sub-result
overflow_sub-result c = omega (arith, infinity_lt c.args.format c.args.format.sound)
