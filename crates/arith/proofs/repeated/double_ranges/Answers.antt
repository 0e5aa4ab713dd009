-- `arith::repeated::double_ranges` meets its contract: x cut to the halves of b, and their doubles. Assumes nothing.
use Rattle.arith.proofs.Repeating.{double_none, double_finite, double_ends}
use Rattle.arith.proofs.repeated.double_ranges.Goals as goal

pub returns-then-not-ordered : goal.returns-then-not-ordered
returns-then-not-ordered c =
    double_none c.args.format c.args.x c.args.b c.requires c.half_up.ensures c.half_down.ensures c.shared-cut.ensures c.ordered.ensures c.if-not-ordered.true

pub double-requires : goal.double-requires
double-requires c =
    record { finite = (double_finite c.args.format c.args.x c.args.b c.requires c.half_up.ensures c.half_down.ensures c.shared-cut.ensures c.ordered.ensures c.if-not-ordered.false).low }

pub double-requires-2 : goal.double-requires-2
double-requires-2 c =
    record { finite = (double_finite c.args.format c.args.x c.args.b c.requires c.half_up.ensures c.half_down.ensures c.shared-cut.ensures c.ordered.ensures c.if-not-ordered.false).high }

pub returns : goal.returns
returns c =
    double_ends c.args.format c.args.x c.args.b c.requires c.half_up.ensures c.half_down.ensures c.shared-cut.ensures c.ordered.ensures c.if-not-ordered.false c.double.ensures c.double-2.ensures
