-- `arith::extent::least_with` meets its contract: no triple has a smaller b, or the sums that decide are compared. Assumes nothing.
use Rattle.std.proofs.Common.{◌≡◌, Option, Some, None, false, le_refl, arith, true≢false}
use Rattle.ladder.proofs.LeastSum.{floor_least, none_below}
use Rattle.ladder.proofs.Staircase.{at_most_less}
use Rattle.std.specs.Option.{is_some}
use Rattle.arith.specs.declared.ranges.Ranges.{Ranges}
use Rattle.arith.specs.declared.corner.Corner.{Corner}
use Rattle.arith.specs.Searches.{CornerOf, HasB, swapped}
use Rattle.arith.specs.Intervals.{span}
use Rattle.arith.proofs.Swapping.{swapped_b}
use Rattle.arith.proofs.extent.least_with.Goals as goal
use Rattle.arith.proofs.extent.least_with.Goals.{After-lesser-s}

-- the least sum with x's low end, or what was known
held : (c : After-lesser-s) → HasB c.args.r.now c.lesser-s.result
held c = swapped_b (swapped c.args.r.now) _ (rw c.swapped.ensures at c.lesser-s.ensures.0)

-- no corner is that of no triple
no_corner : (R : Ranges) (r : Option Corner) → CornerOf R r → is_some r ≡ false → CornerOf R None
no_corner R None h e = h
no_corner R (Some p) h e = absurd (true≢false e)

pub lesser-s-requires : goal.lesser-s-requires
lesser-s-requires c =
    let i = c.requires.1.solution.x_in in
    rw c.swapped.ensures (le_refl c.args.r.now.x.low, omega arith, swapped_b c.args.r.now _ c.requires.1)

pub returns-then-s-r : goal.returns-then-s-r
returns-then-s-r c =
    let r = c.args.r.now in
    floor_least r.format.fraction r.format.exponent (span r.x) (span r.a) (span r.b) _ c.if-s-r.true (held (goal.at.returns-then-s-r c).After-lesser-s)

pub returns-then-is_none : goal.returns-then-is_none
returns-then-is_none c =
    let r = c.args.r.now in
    let n = no_corner c.with_b.result _ c.clamped_corner.ensures c.if-is_none.ensures in
    none_below r.format.fraction r.format.exponent (span r.x) (span r.a) (span r.b) _ (held (goal.at.returns-then-is_none c).After-lesser-s) (rw c.with_b.ensures.1 at n)

pub lesser-t-requires : goal.lesser-t-requires
lesser-t-requires c =
    let i = c.requires.1.solution.a_in in
    (le_refl c.args.r.now.a.low, omega arith, held (goal.at.lesser-t-requires c).After-lesser-s)

pub least_above-requires : goal.least_above-requires
least_above-requires c =
    let p = c.lesser-s.ensures in
    let q = c.lesser-t.ensures in
    (c.requires.0, q.0, q.2, at_most_less q.1 (rw c.swapped.ensures at p.2))
