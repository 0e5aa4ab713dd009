-- `arith::pattern::pattern_of` meets its contract. Assumes nothing.
use Rattle.std.proofs.Common.{arith}
use Rattle.arith.proofs.Formats.{infinity_lt, pattern_low, pattern_high}
use Rattle.arith.proofs.pattern.pattern_of.Goals as goal

pub overflow_add-result : goal.overflow_add-result
overflow_add-result c =
    omega (arith, c.args.format.sound.sign, c.args.format.sound.infinity, c.args.format.sound.word, c.requires.low, infinity_lt c.args.format c.args.format.sound)

pub returns-then-r-format : goal.returns-then-r-format
returns-then-r-format c = pattern_low c.args.format c.args.format.sound _ c.if-r-format.true

pub returns : goal.returns
returns c = pattern_high c.args.format c.args.format.sound _ c.if-r-format.false
