-- `arith::threshold::threshold` meets its contract: half the difference, rounded up. Assumes nothing.
use Rattle.std.proofs.Common.{inl, inr, arith}
use Rattle.arith.proofs.Thresholds.{below_fits, below_is, above_fits, above_is}
use Rattle.arith.proofs.threshold.threshold.Goals as goal
use Rattle.arith.proofs.threshold.threshold.Goals.{then-r, else-r, then-r-2, else-r-2}

pub overflow_sub-result : goal.overflow_sub-result
overflow_sub-result c =
    omega (arith, below_fits c.args.format c.args.a c.args.b c.crossing-t.result c.scale-s.result c.halve-r.result c.args.format.sound c.requires.0 c.requires.1 c.crossing-t.ensures c.scale-s.ensures c.halve-r.ensures c.if-r.up c.if-t.true)

pub returns-then-t : goal.returns-then-t
returns-then-t c =
    below_is c.args.format c.args.a c.args.b c.crossing-t.result c.scale-s.result c.halve-r.result c.args.format.sound c.requires.0 c.requires.1 c.crossing-t.ensures c.scale-s.ensures c.halve-r.ensures c.if-r.up c.if-t.true
    (elim c.if-r.branch [ then-r w ↦ inl (w.if-r.true, w.up-is) | else-r w ↦ inr (w.if-r.false, w.up-is) ])

pub overflow_add-result-2 : goal.overflow_add-result-2
overflow_add-result-2 c =
    omega (arith, c.args.format.sound.word, above_fits c.args.format c.args.a c.args.b c.crossing-t.result c.scale-s.result c.halve-r.result c.args.format.sound c.requires.0 c.requires.1 c.crossing-t.ensures c.scale-s.ensures c.halve-r.ensures c.if-r-2.up c.if-t.false)

pub overflow_add-result-3 : goal.overflow_add-result-3
overflow_add-result-3 c =
    let l = above_fits c.args.format c.args.a c.args.b c.crossing-t.result c.scale-s.result c.halve-r.result c.args.format.sound c.requires.0 c.requires.1 c.crossing-t.ensures c.scale-s.ensures c.halve-r.ensures c.if-r-2.up c.if-t.false in
    elim c.if-r-2.branch [ then-r-2 w ↦ omega (arith, l, c.args.format.sound.word) | else-r-2 w ↦ omega (arith, l, c.args.format.sound.word) ]

pub returns : goal.returns
returns c =
    above_is c.args.format c.args.a c.args.b c.crossing-t.result c.scale-s.result c.halve-r.result c.args.format.sound c.requires.0 c.requires.1 c.crossing-t.ensures c.scale-s.ensures c.halve-r.ensures c.if-r-2.up c.if-t.false
    (elim c.if-r-2.branch [ then-r-2 w ↦ inl (w.if-r-2.true, w.up-is) | else-r-2 w ↦ inr (w.if-r-2.false, w.up-is) ])
