-- `machine::shortcut::half_gaps` meets its contract. Assumes nothing.
use mathlib.Core.Path.{ap₂}
use mathlib.Core.Bool.{◌&&◌}
use Rattle.arith.specs.Intervals.{ends_finite}
use Rattle.arith.proofs.Intervals.{ends_both}
use Rattle.machine.specs.Floats.{machine}
use Rattle.machine.proofs.Floats.{flag, number_of}
use Rattle.machine.proofs.shortcut.half_gaps.Goals as goal

pub half_gap_below-requires : goal.half_gap_below-requires
half_gap_below-requires g c = (ends_both _ _ c.requires).0

pub opposite-requires-2 : goal.opposite-requires-2
opposite-requires-2 g c = number_of (machine (flag g.row.WIDE)) _ (ends_both _ _ c.requires).1

pub half_gap_below-requires-2 : goal.half_gap_below-requires-2
half_gap_below-requires-2 g c = c.opposite-2.ensures.finite (ends_both _ _ c.requires).1

pub returns : goal.returns
unfolding ends_finite
returns g c = ap₂ ◌&&◌ (c.opposite.ensures.finite c.half_gap_below.ensures) (c.opposite-3.ensures.finite c.half_gap_below-2.ensures)
