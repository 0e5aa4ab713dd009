-- `machine::float::opposite` meets its contract: the sign bit is turned. Assumes nothing.
use Rattle.machine.proofs.Floats.{flag, sound_machine, negated}
use Rattle.machine.proofs.float.opposite.Goals as goal

pub returns : goal.returns
returns g c = negated _ _ (sound_machine (flag g.row.WIDE)) c.format_at.ensures _ c.requires
