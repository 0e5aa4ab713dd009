-- `machine::shortcut::ends_finite_at` meets its contract. Assumes nothing.
use mathlib.Core.Path.{ap₂}
use mathlib.Core.Bool.{◌&&◌}
use Rattle.arith.specs.Intervals.{ends_finite}
use Rattle.machine.proofs.shortcut.ends_finite_at.Goals as goal

pub returns : goal.returns
unfolding ends_finite
returns g c = ap₂ ◌&&◌ c.finite_at.ensures c.finite_at-2.ensures
