-- `machine::grid::least_ulp` meets its contract. Assumes nothing.
use mathlib.Core.Path.{◌≡◌, subst, sym}
use Prim.Native.Nat.{ℕ, ◌+◌, ◌-◌, ◌^◌, ◌<◌, min}
use native.Mathlib.Omega.{arith}
use Rattle.arith.specs.declared.format.Format.{Format}
use Rattle.machine.specs.Floats.{machine, HalfUlp}
use Rattle.machine.proofs.Floats.{flag, sound_machine}
use Rattle.machine.proofs.HalfUlps.{sign_at}
use Rattle.machine.proofs.grid.least_ulp.Given.{Over}
use Rattle.machine.proofs.grid.least_ulp.Goals as goal
use Rattle.machine.proofs.grid.least_ulp.Goals.{After-format_at-format, After-min}

-- from infinity's pattern to the sign bit it is one binade
binade : (g : Over) (c : After-format_at-format g) → let F = c.format_at-format.result in F.sign ≡ F.infinity + 2 ^ (machine (flag g.row.WIDE)).fraction
binade g c =
    let w = (flag g.row.WIDE) in
    subst (λ (F : Format). F.sign ≡ F.infinity + 2 ^ (machine w).fraction) (sym c.format_at-format.ensures) (sym (sign_at (machine w) (sound_machine w)))

pub overflow_sub-binade : goal.overflow_sub-binade
overflow_sub-binade g c = omega (arith, binade g (goal.at.overflow_sub-binade g c).After-format_at-format)

-- the smaller size, one binade up
raised : (g : Over) (c : After-min g) → let F = c.format_at-format.result in let a = c.args in c.min.result + (F.sign - F.infinity) ≡ min a.m a.n + 2 ^ (machine (flag g.row.WIDE)).fraction
raised g c = let a = c.args in omega (arith, binade g c.before.before, c.min.ensures)

fits : (g : Over) (c : After-min g) → let F = c.format_at-format.result in c.min.result + (F.sign - F.infinity) < (machine (flag g.row.WIDE)).sign
fits g c =
    let w = (flag g.row.WIDE) in
    omega (arith, raised g c, c.requires.0, sign_at (machine w) (sound_machine w))

pub half_ulp-requires : goal.half_ulp-requires
half_ulp-requires g c = fits g (goal.at.half_ulp-requires g c).After-min

pub returns : goal.returns
returns g c = subst (λ (n : ℕ). HalfUlp (machine (flag g.row.WIDE)) n c.half_ulp.result) (raised g (goal.at.returns g c).After-min) c.half_ulp.ensures
