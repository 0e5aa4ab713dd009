-- `arith::pattern::negate` meets its contract. Assumes nothing.
use Rattle.std.proofs.Common.{le-ltb, lt-ltb, eq-eqb, ne_eqb}
use Rattle.arith.proofs.Formats.{negated_by}
use Rattle.arith.proofs.pattern.negate.Goals as goal

pub returns-then-p-eq0 : goal.returns-then-p-eq0
returns-then-p-eq0 c = rw (eq-eqb _ _ c.if-p-eq0.true) at (negated_by c.args.format c.args.format.sound c.args.p)

pub returns-then-p-format : goal.returns-then-p-format
returns-then-p-format c =
    rw (ne_eqb _ _ c.if-p-eq0.false, lt-ltb _ _ c.if-p-format.true) at (negated_by c.args.format c.args.format.sound c.args.p)

pub returns : goal.returns
returns c =
    rw (ne_eqb _ _ c.if-p-eq0.false, le-ltb _ _ c.if-p-format.false) at (negated_by c.args.format c.args.format.sound c.args.p)
