-- `machine::shortcut::canonical_ends` meets its contract. Assumes nothing.
use Rattle.arith.proofs.Intervals.{ends_both}
use Rattle.machine.proofs.shortcut.canonical_ends.Goals as goal

pub canonical-requires : goal.canonical-requires
canonical-requires g c = (ends_both _ _ c.requires).0

pub canonical-requires-2 : goal.canonical-requires-2
canonical-requires-2 g c = (ends_both _ _ c.requires).1
