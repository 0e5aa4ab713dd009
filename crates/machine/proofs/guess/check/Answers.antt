-- `machine::guess::check` meets its contract. Assumes nothing.
use mathlib.Core.Path.{◌≡◌, refl, ap}
use mathlib.Core.Bool.{true}
use Prim.Native.Nat.{ℕ}
use native.Mathlib.Omega.{arith}
use Rattle.arith.specs.declared.format.Format.{Format}
use Rattle.arith.specs.Formats.{is_finite}
use Rattle.machine.specs.Floats.{machine}
use Rattle.machine.proofs.Floats.{flag, sound_machine, machine_more, number_of, fits_width, chosen}
use Rattle.machine.proofs.Guesses.{Inner, Near, inner, inner_fits, near, checked}
use Rattle.machine.proofs.guess.check.Given.{Over}
use Rattle.machine.proofs.guess.check.Goals as goal
use Rattle.machine.proofs.guess.check.Goals.{After-select_unpredictable-d, After-select_unpredictable-before}

-- the number that the rest is about has one on each side
within : (g : Over) (c : After-select_unpredictable-d g) → Inner (machine (flag g.row.WIDE)) c.select_unpredictable-d.result
within g c =
    let w = flag g.row.WIDE in
    inner (machine w) (sound_machine w) c.format_at-format.result c.size-m.result c.args.c c.select_unpredictable-d.result _ (machine_more w) c.format_at-format.ensures c.size-m.ensures refl c.select_unpredictable-d.ensures

neighbours : (g : Over) (c : After-select_unpredictable-before g) → Near (machine (flag g.row.WIDE)) c.select_unpredictable-d.result c.select_unpredictable-after.result c.select_unpredictable-before.result
neighbours g c =
    let w = flag g.row.WIDE in
    near (machine w) (sound_machine w) c.format_at-format.result.sign c.select_unpredictable-d.result c.select_unpredictable-after.result c.select_unpredictable-before.result (within g c.before.before.before) (ap (λ (F : Format). F.sign) c.format_at-format.ensures) c.select_unpredictable-after.ensures c.select_unpredictable-before.ensures

pub size-m-requires : goal.size-m-requires
size-m-requires g c = fits_width _ _ c.requires.0

pub overflow_add-d : goal.overflow_add-d
overflow_add-d g c = let w = flag g.row.WIDE in omega (arith, inner_fits (machine w) (sound_machine w) c.select_unpredictable-d.result (within g (goal.at.overflow_add-d g c).After-select_unpredictable-d))

pub overflow_add-d-2 : goal.overflow_add-d-2
overflow_add-d-2 g c = let w = flag g.row.WIDE in omega (arith, inner_fits (machine w) (sound_machine w) c.select_unpredictable-d.result (within g (goal.at.overflow_add-d-2 g c).After-select_unpredictable-d))

pub add-requires-2 : goal.add-requires-2
add-requires-2 g c =
    let F = machine (flag g.row.WIDE) in
    let n = neighbours g (goal.at.add-requires-2 g c).After-select_unpredictable-before in
    (number_of F _ (chosen (λ (p : ℕ). is_finite F p ≡ true) c.at_most-enough.result _ _ _ c.select_unpredictable-other.ensures n.before_finite n.after_finite), c.requires.1)

pub returns : goal.returns
returns g c =
    let F = machine (flag g.row.WIDE) in
    checked F (sound_machine (flag g.row.WIDE)) c.args.p c.args.q c.select_unpredictable-d.result _ _ (neighbours g (goal.at.returns g c).After-select_unpredictable-before) c.add.result c.select_unpredictable-other.result c.add-2.result c.add-2.ensures
    c.args.c c.add.ensures
    _ c.at_most-enough.result c.at_most-reaches.result _ c.select_unpredictable.result
    c.select_unpredictable-d.ensures c.at_most-enough.ensures c.select_unpredictable-other.ensures c.at_most-reaches.ensures c.select_unpredictable.ensures refl
