-- `machine::end::mirror` meets its contract. Assumes nothing.
use Rattle.arith.proofs.Intervals.{ends_both}
use Rattle.machine.specs.Floats.{machine}
use Rattle.machine.proofs.Floats.{flag, number_of}
use Rattle.machine.proofs.KnownEnds.{ends_of_lem}
use Rattle.machine.proofs.end.mirror.Goals as goal

pub opposite-requires : goal.opposite-requires
opposite-requires g c = let F = machine (flag g.row.WIDE) in number_of F c.args.i.high (ends_both F c.args.i c.requires).1

pub opposite-requires-2 : goal.opposite-requires-2
opposite-requires-2 g c = let F = machine (flag g.row.WIDE) in number_of F c.args.i.low (ends_both F c.args.i c.requires).0

pub returns : goal.returns
returns g c =
    let F = machine (flag g.row.WIDE) in
    let e = ends_both F c.args.i c.requires in
    let l = c.opposite in
    let h = c.opposite-2 in
    (ends_of_lem F (record { low = l.result; high = h.result }) (l.ensures.finite e.1) (h.ensures.finite e.0), l.ensures.is, h.ensures.is)
