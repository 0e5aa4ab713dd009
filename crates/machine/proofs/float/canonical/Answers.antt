-- `machine::float::canonical` meets its contract. Assumes nothing.
use Rattle.machine.proofs.Floats.{flag, sound_machine, canonical_zero, canonical_same}
use Rattle.machine.proofs.float.canonical.Goals as goal

pub returns-then-p-format : goal.returns-then-p-format
returns-then-p-format g c = canonical_zero _ _ c.format_at-format.ensures _ (sound_machine (flag g.row.WIDE)) c.requires c.if-p-format.true

pub returns : goal.returns
returns g c = canonical_same _ _ c.format_at-format.ensures _ (sound_machine (flag g.row.WIDE)) c.requires c.if-p-format.false
