-- `arith::interval::range_of` meets its contract. Assumes nothing.
use Rattle.std.proofs.Common.{rules}
use Rattle.arith.proofs.Formats.{finite_fits}
use Rattle.arith.proofs.Intervals.{ends_both, range_ends}
use Rattle.arith.proofs.interval.range_of.Goals as goal

pub ordinal_of-requires : goal.ordinal_of-requires
ordinal_of-requires c = (finite_fits c.args.format c.args.format.sound _ (ends_both _ _ c.requires).0)

pub ordinal_of-requires-2 : goal.ordinal_of-requires-2
ordinal_of-requires-2 c = (finite_fits c.args.format c.args.format.sound _ (ends_both _ _ c.requires).1)

pub returns-clause-ends : goal.returns-clause-ends
returns-clause-ends c = range_ends c.args.format c.args.i _ (search rules) c.requires
