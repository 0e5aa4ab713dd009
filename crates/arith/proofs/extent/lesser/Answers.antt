-- `arith::extent::lesser` meets its contract: the least sum with c stands in a triple where it is no more than one that does. Assumes nothing.
use Rattle.std.proofs.Common.{Some, arith}
use Rattle.ladder.specs.Search.{least}
use Rattle.ladder.proofs.LeastSum.{sums_nearer}
use Rattle.arith.specs.Searches.{Attains, LeastOf}
use Rattle.arith.specs.Intervals.{span}
use Rattle.arith.proofs.extent.lesser.Goals as goal
use Rattle.arith.proofs.extent.lesser.Goals.{In-Some}

-- the operand found
found : (c : In-Some) → let r = c.args.r.now in LeastOf (Attains r.format c.args.c r.b.low r.x) (Some c.in-Some.y)
found c = rw c.in-Some.is at c.least_operand.ensures

pub returns-in-Some : goal.returns-in-Some
returns-in-Some c =
    let r = c.args.r.now in
    let F = r.format in
    let l = found (goal.at.returns-in-Some c).In-Some in
    let m = c.min.ensures in
    let s = c.sum_of.ensures in
    (rw (m, s) (sums_nearer F.fraction F.exponent (span r.x) (span r.a) (span r.b) c.args.known _ c.args.c c.requires.2 l.holds.inside (record { low = c.requires.0; high = c.requires.1 }) l.holds.enough), omega (arith, m), least _ l (omega (arith, m, s)))
