-- `machine::half_ulp::half_ulp` meets its contract: by the exponent field, a subnormal half ulp or a normal one. Assumes nothing.
use mathlib.Core.Path.{refl, sym, subst}
use Prim.Native.Nat.{ℕ, ◌+◌, ◌-◌, ◌*◌, ◌/◌, ◌^◌, ◌<◌}
use native.Mathlib.Nat.{mod-eq_of_lt}
use native.Mathlib.Omega.{arith}
use Rattle.arith.specs.declared.format.Format.{Format}
use Rattle.arith.specs.Formats.{Sound}
use Rattle.arith.proofs.Formats.{infinity_lt}
use Rattle.machine.specs.Floats.{machine, HalfUlp}
use Rattle.machine.proofs.Floats.{flag, sound_machine, machine_some}
use Rattle.machine.proofs.HalfUlps.{half_small, half_large}
use Rattle.machine.proofs.half_ulp.half_ulp.Given.{Over}
use Rattle.machine.proofs.half_ulp.half_ulp.Goals as goal
use Rattle.machine.proofs.half_ulp.half_ulp.Goals.{After-format_at-format}

-- the format is the machine's
sounds : (g : Over) (c : After-format_at-format g) → Sound c.format_at-format.result
sounds g c = subst Sound (sym c.format_at-format.ensures) (sound_machine (flag g.row.WIDE))

fits : (g : Over) (c : After-format_at-format g) → c.args.m < c.format_at-format.result.sign
fits g c = subst (λ (F : Format). c.args.m < F.sign) (sym c.format_at-format.ensures) c.requires

returned : (g : Over) (c : After-format_at-format g) (r : ℕ) → HalfUlp c.format_at-format.result c.args.m r → HalfUlp (machine (flag g.row.WIDE)) c.args.m r
returned g c r = subst (λ (F : Format). HalfUlp F c.args.m r) c.format_at-format.ensures

pub returns-then-field-fraction : goal.returns-then-field-fraction
returns-then-field-fraction g c =
    let F = c.format_at-format.result in
    let some : 0 < F.infinity = subst (λ (G : Format). 0 < G.infinity) (sym c.format_at-format.ensures) (machine_some (flag g.row.WIDE)) in
    returned g (goal.at.returns-then-field-fraction g c).After-format_at-format _ (half_small F (sounds g (goal.at.returns-then-field-fraction g c).After-format_at-format) c.args.m _ (fits g (goal.at.returns-then-field-fraction g c).After-format_at-format) refl c.half_ulp_small.result some c.if-field-fraction.true c.half_ulp_small.ensures.0 c.half_ulp_small.ensures.1)

pub returns : goal.returns
returns g c =
    let F = c.format_at-format.result in
    let m = c.args.m in
    let r = (m / 2 ^ F.fraction - (F.fraction + 1)) * 2 ^ F.fraction in
    let h = half_large F (sounds g (goal.at.returns g c).After-format_at-format) m (m / 2 ^ F.fraction) (fits g (goal.at.returns g c).After-format_at-format) refl r c.if-field-fraction.false refl in
    let l : r < 2 ^ 64 = omega (arith, h.low, infinity_lt F (sounds g (goal.at.returns g c).After-format_at-format), (sounds g (goal.at.returns g c).After-format_at-format).word) in
    returned g (goal.at.returns g c).After-format_at-format _ (rw (mod-eq_of_lt l) h)
