-- `machine::end::high_end` meets its contract. Assumes nothing.
use lib.Dec.{leb}
use Rattle.arith.specs.Formats.{ordinal}
use Rattle.arith.proofs.Intervals.{ends_both}
use Rattle.machine.specs.Floats.{machine}
use Rattle.machine.proofs.Floats.{flag, sound_machine, number_of}
use Rattle.machine.proofs.KnownEnds.{high_ready, high_end}
use Rattle.machine.proofs.end.high_end.Goals as goal

pub opposite-requires-3 : goal.opposite-requires-3
opposite-requires-3 g c =
    let F = machine (flag g.row.WIDE) in
    number_of F c.args.b.high (ends_both F c.args.b c.requires.finite).1

pub least_end-t-requires : goal.least_end-t-requires
least_end-t-requires g c =
    let p = c.args.p in
    let q = c.args.q in
    let F = machine (flag g.row.WIDE) in
    high_ready F (sound_machine (flag g.row.WIDE)) p q c.args.u c.args.b c.requires (leb (ordinal F q.sum) (ordinal F p.sum))
    c.add.result
    c.greater.result
    c.opposite.result
    c.opposite-2.result
    c.opposite-3.result
    c.add.ensures
    c.greater.ensures
    c.opposite.ensures
    c.opposite-2.ensures
    c.opposite-3.ensures

pub returns : goal.returns
returns g c =
    let p = c.args.p in
    let q = c.args.q in
    let F = machine (flag g.row.WIDE) in
    high_end F (sound_machine (flag g.row.WIDE)) p q c.args.u c.args.b c.requires (leb (ordinal F q.sum) (ordinal F p.sum))
    c.add.result
    c.greater.result
    c.opposite.result
    c.opposite-2.result
    c.opposite-3.result
    c.add.ensures
    c.greater.ensures
    c.opposite.ensures
    c.opposite-2.ensures
    c.opposite-3.ensures
    c.least_end-t.result
    c.opposite-4.result
    c.least_end-t.ensures
    c.opposite-4.ensures
