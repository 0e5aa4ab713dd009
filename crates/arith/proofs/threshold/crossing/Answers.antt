-- `arith::threshold::crossing` meets its contract: the larger of the two parts goes first. Assumes nothing.
use Rattle.std.proofs.Common.{ap, ◌∙◌, inl, inr, arith}
use Rattle.arith.specs.Thresholds.{doubled_of}
use Rattle.arith.proofs.Crossing.{Nearer, crosses_first, crosses_second, combined_fits}
use Rattle.arith.proofs.threshold.crossing.Goals as goal
use Rattle.arith.proofs.threshold.crossing.Goals.{After-distance_from_zero-n, then-midpoint_negative, else-midpoint_negative}

-- what m is
nearer : (c : After-distance_from_zero-n) → let z = c.args in Nearer z.format z.b c.if-midpoint_negative.m
nearer c =
    let z = c.args in
    elim c.if-midpoint_negative.branch [ then-midpoint_negative w ↦ inl (w.if-midpoint_negative.true, w.m-is) | else-midpoint_negative w ↦ inr (w.if-midpoint_negative.false, w.m-is) ]

pub double-requires : goal.double-requires
double-requires c = let f = combined_fits c.args.format.fraction _ _ _ c.combine.result c.args.format.sound.few c.if-n-m.true c.combine.ensures in (f.0, f.1, omega arith, omega arith)

pub returns-then-n-m : goal.returns-then-n-m
returns-then-n-m c =
    crosses_first c.args.format c.args.a c.args.b _ _ c.args.format.sound c.requires.0 c.requires.1 (nearer (goal.at.returns-then-n-m c).After-distance_from_zero-n) c.distance_from_zero-n.ensures c.if-n-m.true c.double.result
    (c.double.ensures ∙ ap (doubled_of 1 0) c.combine.ensures)

pub double-requires-2 : goal.double-requires-2
double-requires-2 c = let f = combined_fits c.args.format.fraction _ _ _ c.combine-2.result c.args.format.sound.few (omega arith) c.combine-2.ensures in (f.0, f.1, omega arith, omega arith)

pub returns : goal.returns
returns c =
    crosses_second c.args.format c.args.a c.args.b _ _ c.args.format.sound c.requires.0 c.requires.1 (nearer (goal.at.returns c).After-distance_from_zero-n) c.distance_from_zero-n.ensures c.if-n-m.false c.double-2.result
    (c.double-2.ensures ∙ ap (doubled_of 0 1) c.combine-2.ensures)
