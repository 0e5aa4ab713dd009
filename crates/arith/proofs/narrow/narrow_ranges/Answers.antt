-- `arith::narrow::narrow_ranges` meets its contract: two corners are the narrowing of x and a, and b's is over these. Assumes nothing.
use Rattle.std.proofs.Common.{refl, Some, None}
use Rattle.ladder.proofs.Solutions.{swap, swap_never}
use Rattle.ladder.proofs.Corners.{corners_span}
use Rattle.ladder.proofs.Assembly.{never_x, narrowed_kept, assembled}
use Rattle.arith.specs.Searches.{CornerOf, swapped}
use Rattle.arith.specs.Intervals.{span}
use Rattle.arith.proofs.Narrowings.{x_bounded, b_bounded}
use Rattle.arith.proofs.narrow.narrow_ranges.Goals as goal
use Rattle.arith.proofs.narrow.narrow_ranges.Goals.{In_ok-p, In_ok-q}

-- the corner of x's low and a's high end
first : (c : In_ok-p) → CornerOf c.args.r.now (Some c.in_ok-p.p)
first c = rw c.in_ok-p.was at c.corner_of.ensures

-- and that of a's low and x's high end
second : (c : In_ok-q) → CornerOf (swapped c.args.r.now) (Some c.in_ok-q.q)
second c = rw (c.in_ok-q.was, c.swapped.ensures) at c.corner_of-2.ensures

pub returns-in_err-p : goal.returns-in_err-p
returns-in_err-p c =
    let r = c.args.r.now in
    let n : CornerOf r None = rw c.in_err-p.was at c.corner_of.ensures in
    rw c.from_residual.ensures (never_x r.format.fraction r.format.exponent (span r.x) (span r.a) (span r.b) n)

pub returns-in_err-q : goal.returns-in_err-q
returns-in_err-q c =
    let r = c.args.r.now in
    let n : CornerOf (swapped r) None = rw (c.in_err-q.was, c.swapped.ensures) at c.corner_of-2.ensures in
    rw c.from_residual-in_err-q.ensures (never_x r.format.fraction r.format.exponent (span r.x) (span r.a) (span r.b) (swap_never r.format.fraction r.format.exponent (span r.x) (span r.a) (span r.b) n))

pub with_operands-n-requires : goal.with_operands-n-requires
with_operands-n-requires c =
    let r = c.args.r.now in
    let p = first (goal.at.with_operands-n-requires c).In_ok-p in
    let q = second (goal.at.with_operands-n-requires c).In_ok-q in
    (x_bounded r _ (corners_span p q), x_bounded (swapped r) _ (corners_span q p))

pub extent_b-requires : goal.extent_b-requires
extent_b-requires c =
    let r = c.args.r.now in
    let p = first (goal.at.extent_b-requires c).In_ok-p in
    let q = second (goal.at.extent_b-requires c).In_ok-q in
    let k = narrowed_kept r.format.fraction r.format.exponent (span r.x) (span r.a) (span r.b) _ _ (corners_span p q) (corners_span q p) in
    rw c.with_operands-n.ensures.2 (k _ _ _ p.solution, k _ _ _ (swap q.solution))

pub with_b-requires : goal.with_b-requires
with_b-requires c = b_bounded c.with_operands-n.result _ c.extent_b.ensures

pub returns : goal.returns
returns c =
    let r = c.args.r.now in
    let p = first (goal.at.returns c).In_ok-p in
    let q = second (goal.at.returns c).In_ok-q in
    rw (c.with_b.ensures.1, c.with_operands-n.ensures.2) (refl, assembled r.format.fraction r.format.exponent (span r.x) (span r.a) (span r.b) _ _ (corners_span p q) (corners_span q p) _ (rw c.with_operands-n.ensures.2 at c.extent_b.ensures))
