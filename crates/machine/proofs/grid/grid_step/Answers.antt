-- `machine::grid::grid_step` meets its contract: an ulp of the operand nearest zero. Assumes nothing.
use mathlib.Core.Path.{ap, ◌∙◌}
use mathlib.Core.Bool.{Bool, cond, ◌&&◌}
use lib.Dec.{leb, ltb}
use Rattle.arith.specs.declared.format.Format.{Format}
use Rattle.machine.specs.Floats.{machine, FitsWidth}
use Rattle.machine.proofs.Floats.{flag, sound_machine, chosen, finite_width}
use Rattle.machine.proofs.Gridding.{gridded}
use Rattle.machine.proofs.grid.grid_step.Goals as goal

pub size-requires : goal.size-requires
size-requires g c =
    chosen (FitsWidth (flag g.row.WIDE)) (ltb c.args.p.low c.format_at-format.result.sign) _ _ _ c.select_unpredictable-plus.ensures (finite_width _ _ c.requires.0.low) (finite_width _ _ c.requires.1.low)

pub size-requires-2 : goal.size-requires-2
size-requires-2 g c =
    chosen (FitsWidth (flag g.row.WIDE)) (ltb c.args.p.low c.format_at-format.result.sign) _ _ _ c.select_unpredictable-minus.ensures (finite_width _ _ c.requires.0.high) (finite_width _ _ c.requires.1.high)

pub returns : goal.returns
returns g c =
    let w = (flag g.row.WIDE) in
    let plus = c.select_unpredictable-plus in
    let minus = c.select_unpredictable-minus in
    let u = c.least_ulp-u in
    gridded (machine w) (sound_machine w) c.args.p c.args.q c.requires.0.high c.requires.1.high plus.result minus.result u.result
    (rw (c.size.ensures, c.size-2.ensures) at u.ensures)
    (ltb c.args.p.low c.format_at-format.result.sign) c.select_unpredictable.result plus.ensures minus.ensures
    (c.select_unpredictable.ensures ∙ ap (λ (b : Bool). cond b u.result 0) (ap (λ (G : Format). ltb plus.result G.sign && leb G.sign minus.result) c.format_at-format.ensures))
