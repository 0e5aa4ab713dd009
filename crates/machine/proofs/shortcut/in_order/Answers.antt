-- `machine::shortcut::in_order` meets its contract. Assumes nothing.
use mathlib.Core.Path.{sym, ◌∙◌}
use Rattle.arith.specs.Intervals.{is_ordered}
use Rattle.arith.proofs.Formats.{both}
use Rattle.machine.proofs.Floats.{ends_numbers}
use Rattle.machine.proofs.shortcut.in_order.Goals as goal

pub at_most-requires : goal.at_most-requires
at_most-requires g c = ends_numbers _ _ c.requires.0

pub at_most-requires-2 : goal.at_most-requires-2
at_most-requires-2 g c = ends_numbers _ _ c.requires.1

pub at_most-requires-3 : goal.at_most-requires-3
at_most-requires-3 g c = ends_numbers _ _ c.requires.2

pub returns : goal.returns
unfolding is_ordered
returns g c h =
    let t = both _ _ h in
    let s = both _ _ t.0 in
    (sym c.at_most.ensures ∙ s.0, sym c.at_most-2.ensures ∙ s.1, sym c.at_most-3.ensures ∙ t.1)
