-- `arith::range::mirror_of` meets its contract. Assumes nothing.
use Rattle.std.proofs.Common.{arith}
use Rattle.arith.proofs.Formats.{infinity_lt}
use Rattle.arith.proofs.range.mirror_of.Goals as goal

pub overflow_add-result : goal.overflow_add-result
overflow_add-result c =
    omega (arith, c.args.format.sound.sign, c.args.format.sound.infinity, c.args.format.sound.word, c.requires.low, infinity_lt c.args.format c.args.format.sound)

pub overflow_sub-result-3 : goal.overflow_sub-result-3
overflow_sub-result-3 c =
    omega (arith, c.args.format.sound.sign, c.args.format.sound.infinity, c.requires.high, infinity_lt c.args.format c.args.format.sound)
