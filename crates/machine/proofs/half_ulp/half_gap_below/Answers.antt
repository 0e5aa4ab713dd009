-- `machine::half_ulp::half_gap_below` meets its contract. Assumes nothing.
use mathlib.Core.Path.{sym, subst}
use mathlib.Core.Bool.{Bool, true, false}
use Prim.Native.Nat.{ℕ, ◌<◌, ◌≤◌}
use lib.Dec.{leb}
use mir.Val.{bool_byte}
use native.Mathlib.Omega.{arith}
use Rattle.arith.proofs.Formats.{infinity_lt}
use Rattle.machine.specs.Floats.{machine}
use Rattle.machine.proofs.Floats.{flag, sound_machine, finite_width}
use Rattle.machine.proofs.HalfUlps.{size_lt}
use Rattle.machine.proofs.half_ulp.half_gap_below.Goals as goal

byte_one : (b : Bool) → bool_byte b ≤ 1
byte_one true = omega arith
byte_one false = omega arith

pub size-requires : goal.size-requires
size-requires g c = finite_width _ _ c.requires

pub half_ulp-requires : goal.half_ulp-requires
half_ulp-requires g c =
    let F = machine (flag g.row.WIDE) in
    let ok = sound_machine (flag g.row.WIDE) in
    let l : c.size.result < F.infinity = subst (λ (n : ℕ). n < F.infinity) (sym c.size.ensures) (size_lt F ok c.args.q c.requires) in
    omega (arith, l, c.from.ensures, byte_one (leb c.format_at-format.result.sign c.args.q), infinity_lt F ok)
