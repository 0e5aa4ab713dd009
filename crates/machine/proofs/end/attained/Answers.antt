-- `machine::end::attained` meets its contract. Assumes nothing.
use mathlib.Core.Path.{sym, ◌∙◌}
use mathlib.Core.Bool.{true≢false}
use Rattle.arith.proofs.Intervals.{ends_both}
use Rattle.machine.specs.Floats.{machine}
use Rattle.machine.proofs.Floats.{flag, sound_machine, number_of}
use Rattle.machine.proofs.KnownEnds.{mirror_order, mirror_made}
use Rattle.machine.proofs.end.attained.Goals as goal
use Rattle.machine.proofs.end.attained.Goals.{else-not-low-via-then-not-low+else-not-witness, else-not-low-via-else-not-low}

pub witness-requires : goal.witness-requires
witness-requires g c = (c.requires.0, c.requires.1, (ends_both _ _ c.requires.2).0, c.requires.3, c.requires.4)

pub opposite-requires : goal.opposite-requires
opposite-requires g c = number_of (machine (flag g.row.WIDE)) _ (ends_both _ _ c.requires.2).1

pub witness-requires-else-high : goal.witness-requires-else-high
witness-requires-else-high g c =
    let F = machine (flag g.row.WIDE) in
    let ok = sound_machine (flag g.row.WIDE) in
    let x = c.mirror in
    let a = c.mirror-else-high in (
      x.ensures.0,
      a.ensures.0,
      c.opposite.ensures.finite (ends_both F c.args.b c.requires.2).1,
      mirror_order F ok c.args.left.x x.result c.requires.0 x.ensures c.requires.3,
      mirror_order F ok c.args.left.a a.result c.requires.1 a.ensures c.requires.4,
    )

pub returns-else-high : goal.returns-else-high
returns-else-high g c t =
    let F = machine (flag g.row.WIDE) in
    let x = c.mirror in
    let a = c.mirror-else-high in (
      λ h. elim c.else-not-low.branch [
        | else-not-low-via-then-not-low+else-not-witness w ↦ w.witness.ensures w.if-not-witness.false
        | else-not-low-via-else-not-low w ↦ absurd (true≢false (sym w.if-not-low.false ∙ h))
      ],
      λ h. mirror_made F (sound_machine (flag g.row.WIDE)) c.args.left.x c.args.left.a x.result a.result c.args.b.high c.opposite.result c.requires.0 c.requires.1 (ends_both F c.args.b c.requires.2).1 x.ensures a.ensures c.opposite.ensures (c.witness-else-high.ensures t),
    )
