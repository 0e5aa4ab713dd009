-- `arith::sum::round_leading` meets its contract. Assumes nothing.
use Rattle.std.proofs.Common.{◌^◌, ◌<◌, ◌≤◌, arith}
use Rattle.arith.proofs.Roundings.{significand_fits}
use Rattle.arith.proofs.sum.round_leading.Goals as goal
use Rattle.arith.proofs.sum.round_leading.Goals.{After-shift_right-significand, Joined-half-rest, then-half-rest, else-half-rest}

-- what is kept, and the digit that is added
kept : (c : After-shift_right-significand) → c.shift_right-significand.result < 2 ^ 53
kept c = significand_fits c.args.fraction c.args.leading _ c.requires.0 c.ranges.leading.fits c.shift_right-significand.ensures

one : (c : Joined-half-rest) → c.if-half-rest.up ≤ 1
one c = elim c.if-half-rest.branch [ then-half-rest w ↦ omega arith | else-half-rest w ↦ omega arith ]

pub overflow_add-result : goal.overflow_add-result
overflow_add-result c = omega (arith, kept (goal.at.overflow_add-result c).After-shift_right-significand, one (goal.at.overflow_add-result c).Joined-half-rest, c.requires.1)
