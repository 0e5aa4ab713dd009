-- `arith::extent::least_b` meets its contract: no sum is smaller than that of the low ends. Assumes nothing.
use Rattle.std.proofs.Common.{arith}
use Rattle.ladder.proofs.LeastSum.{lows_least}
use Rattle.arith.specs.Intervals.{span}
use Rattle.arith.proofs.Swapping.{swapped_least}
use Rattle.arith.proofs.extent.least_b.Goals as goal

pub returns-then-r-least : goal.returns-then-r-least
returns-then-r-least c =
    let r = c.args.r.now in
    let F = r.format in
    let t = c.sum_of-least in
    lows_least F.fraction F.exponent F.sound.some (span r.x) (span r.a) (span r.b) t.result t.ensures c.args.known c.requires.1 (omega arith)

pub returns-then-distance_from_zero : goal.returns-then-distance_from_zero
returns-then-distance_from_zero c = swapped_least c.args.r.now _ (rw c.swapped.ensures at c.least_with.ensures)
