-- `machine::end::witness` meets its contract. Assumes nothing.
use Rattle.arith.proofs.Intervals.{ends_both}
use Rattle.machine.specs.Floats.{machine}
use Rattle.machine.proofs.KnownEnds.{low_made, swapped}
use Rattle.machine.proofs.Floats.{flag}
use Rattle.machine.proofs.end.witness.Goals as goal

pub reaches-requires : goal.reaches-requires
reaches-requires g c = ((ends_both (machine (flag g.row.WIDE)) c.args.x c.requires.0).0, c.requires.1, c.requires.2, c.requires.4)

pub returns-then-reaches : goal.returns-then-reaches
returns-then-reaches g c t =
    let F = machine (flag g.row.WIDE) in
    swapped F c.args.a c.args.x c.args.b (low_made F c.args.a c.args.x c.args.b c.requires.3 (c.reaches.ensures c.if-reaches.true))

pub reaches-requires-2 : goal.reaches-requires-2
reaches-requires-2 g c =
    ((ends_both (machine (flag g.row.WIDE)) c.args.a c.requires.1).0, c.requires.0, c.requires.2, c.requires.3)

pub returns : goal.returns
returns g c t =
    low_made (machine (flag g.row.WIDE)) c.args.x c.args.a c.args.b c.requires.4 (c.reaches-2.ensures t)
