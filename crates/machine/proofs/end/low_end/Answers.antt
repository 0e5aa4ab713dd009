-- `machine::end::low_end` meets its contract. Assumes nothing.
use lib.Dec.{leb}
use Rattle.arith.specs.Formats.{ordinal}
use Rattle.machine.specs.Floats.{machine}
use Rattle.machine.proofs.Floats.{flag, sound_machine}
use Rattle.machine.proofs.KnownEnds.{low_ready, low_end}
use Rattle.machine.proofs.end.low_end.Goals as goal

pub least_end-requires : goal.least_end-requires
least_end-requires g c =
    let p = c.args.p in
    let q = c.args.q in
    let F = machine (flag g.row.WIDE) in
    low_ready F (sound_machine (flag g.row.WIDE)) p q c.args.u c.args.b c.requires (leb (ordinal F p.sum) (ordinal F q.sum)) c.add.result c.lesser.result c.add.ensures c.lesser.ensures

pub returns : goal.returns
returns g c =
    let p = c.args.p in
    let q = c.args.q in
    let F = machine (flag g.row.WIDE) in
    low_end F (sound_machine (flag g.row.WIDE)) p q c.args.u c.args.b c.requires (leb (ordinal F p.sum) (ordinal F q.sum)) c.add.result c.lesser.result c.least_end.result c.add.ensures c.lesser.ensures c.least_end.ensures
