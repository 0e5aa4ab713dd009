-- `machine::float::size` meets its contract: the remainder by the sign's weight. Assumes nothing.
use mathlib.Core.Path.{ap}
use native.Mathlib.Omega.{arith}
use Rattle.arith.specs.declared.format.Format.{Format}
use Rattle.machine.proofs.Floats.{flag, sign_some, width_bound, size_rest}
use Rattle.machine.proofs.float.size.Goals as goal

pub nonzero_rem-result : goal.nonzero_rem-result
nonzero_rem-result g c = let e = ap (λ (F : Format). F.sign) c.format_at.ensures in omega (arith, sign_some (flag g.row.WIDE))

pub returns : goal.returns
returns g c = size_rest _ _ c.format_at.ensures _ (width_bound (flag g.row.WIDE) c.args.p c.requires c.ranges.p.fits)
