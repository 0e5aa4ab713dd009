-- `arith::corner::clamp` meets its contract: the clamped operands make the same triples. Assumes nothing.
use Rattle.std.proofs.Common.{arith}
use Rattle.arith.proofs.Bounds.{raised_ends, same_raised, same_lowered}
use Rattle.arith.proofs.corner.clamp.Goals as goal

pub with_operands-requires : goal.with_operands-requires
with_operands-requires c =
    let r = c.args.r.now in
    (raised_ends r.format _ r.x _ r.x_ends c.raise.ensures, raised_ends r.format _ r.a _ r.a_ends c.raise-then-zero-r.ensures)

pub returns-then-zero-r : goal.returns-then-zero-r
returns-then-zero-r c =
    let k = c.granularity-k in
    rw c.with_operands.ensures.2 (same_raised c.args.r.now k.result _ _ _ _ (omega arith) k.ensures.0 k.ensures.1 c.raise.ensures c.raise-then-zero-r.ensures)

pub returns-then-r-zero : goal.returns-then-r-zero
returns-then-r-zero c =
    let k = c.granularity-k-then-r-zero in
    rw c.with_operands-then-r-zero.ensures.2 (same_lowered c.args.r.now k.result _ _ _ _ (omega arith) k.ensures.0 k.ensures.1 c.lower.ensures c.lower-then-r-zero.ensures)
