-- `arith::pattern::ordinal_of` meets its contract. Assumes nothing.
use Rattle.arith.proofs.Formats.{ordinal_low, ordinal_high}
use Rattle.arith.proofs.pattern.ordinal_of.Goals as goal

pub returns-then-p-format : goal.returns-then-p-format
returns-then-p-format c = ordinal_low c.args.format c.args.format.sound _ c.if-p-format.true

pub returns : goal.returns
returns c = ordinal_high c.args.format c.args.format.sound _ c.if-p-format.false
