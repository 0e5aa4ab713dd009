-- `machine::end::least_end` meets its contract. Assumes nothing.
use mathlib.Core.Path.{refl}
use Rattle.machine.specs.Floats.{machine}
use Rattle.machine.proofs.Floats.{flag}
use Rattle.machine.proofs.KnownEnds.{known_end}
use Rattle.machine.proofs.end.least_end.Goals as goal

pub returns : goal.returns
returns g c =
    known_end (machine (flag g.row.WIDE)) c.args.low c.args.k c.args.u c.args.b c.requires.0 c.requires.1 c.requires.3 c.requires.4 c.requires.5
    c.opposite.result
    c.add.result
    c.opposite.ensures
    c.add.ensures
    c.at_most-gap.result
    c.at_most.result
    c.at_most-2.result
    _
    c.select_unpredictable.result
    c.greater-end.result
    c.at_most-gap.ensures
    c.at_most.ensures
    c.at_most-2.ensures
    refl
    c.select_unpredictable.ensures
    c.greater-end.ensures
