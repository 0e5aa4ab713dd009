-- `arith::extent::extent_b` meets its contract: the greatest b is read off in the mirror. Assumes nothing.
use Rattle.std.proofs.Common.{arith}
use Rattle.ladder.proofs.Extremes.{spans_of, min_holds, max_holds}
use Rattle.ladder.proofs.Solutions.{mirror_solution, mirror_b, mirror_b_greatest}
use Rattle.arith.specs.Intervals.{span}
use Rattle.arith.specs.Searches.{HasB}
use Rattle.arith.proofs.extent.extent_b.Goals as goal
use Rattle.arith.proofs.extent.extent_b.Goals.{After-least_b-m}

pub least_b-low-requires : goal.least_b-low-requires
least_b-low-requires c =
    let s = c.requires.0 in
    let t = c.requires.1 in
    let h = min_holds (HasB c.args.r.now) _ _ (record { x = _; a = _; solution = s }) (record { x = _; a = _; solution = t }) in
    (record { low_high = omega (arith, s.is, s.b_in.low); high_low = omega (arith, t.is, t.b_in.low) }, rw c.min.ensures h)

pub least_b-m-requires : goal.least_b-m-requires
least_b-m-requires c =
    let r = c.args.r.now in
    let F = r.format in
    let g = max_holds (HasB r) _ _ (record { x = _; a = _; solution = c.requires.0 }) (record { x = _; a = _; solution = c.requires.1 }) in
    let S = mirror_solution F.fraction F.exponent F.sound.some (span r.x) (span r.a) (span r.b) r.x_ends r.a_ends r.b_ends in
    let u = S _ _ _ c.requires.0 in
    let v = S _ _ _ c.requires.1 in
    let h = mirror_b F.fraction F.exponent F.sound.some (span r.x) (span r.a) (span r.b) r.x_ends r.a_ends r.b_ends _ g in
    rw (c.reflected.ensures.3, c.mirror_of.ensures, c.max.ensures) (record { low_high = omega (arith, v.is, v.b_in.low); high_low = omega (arith, u.is, u.b_in.low) }, h)

pub returns : goal.returns
returns c =
    let r = c.args.r.now in
    let F = r.format in
    rw c.mirror_of-2.ensures (spans_of c.least_b-low.ensures (mirror_b_greatest F.fraction F.exponent F.sound.some (span r.x) (span r.a) (span r.b) r.x_ends r.a_ends r.b_ends _ (rw c.reflected.ensures.3 at c.least_b-m.ensures)))
