-- `machine::shortcut::within` meets its contract. Assumes nothing.
use Rattle.machine.proofs.Floats.{ends_numbers}
use Rattle.machine.proofs.shortcut.within.Goals as goal

pub at_most-requires : goal.at_most-requires
at_most-requires g c = ((ends_numbers _ _ c.requires.1).0, c.requires.0)

pub at_most-requires-2 : goal.at_most-requires-2
at_most-requires-2 g c = (c.requires.0, (ends_numbers _ _ c.requires.1).1)
