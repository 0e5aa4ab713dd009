-- `arith::sum::Signed::from_pattern` meets its contract. Assumes nothing.
use Rattle.arith.proofs.Signs.{positive_represents, negative_represents}
use Rattle.arith.proofs.sum.Signed.from_pattern.Goals as goal

pub returns-then-p-format : goal.returns-then-p-format
returns-then-p-format c = positive_represents c.args.format c.args.format.sound c.args.p c.requires c.if-p-format.true

pub returns : goal.returns
returns c = negative_represents c.args.format c.args.format.sound c.args.p c.requires c.if-p-format.false
