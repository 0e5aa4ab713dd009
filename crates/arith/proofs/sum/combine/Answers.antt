-- `arith::sum::combine` meets its contract. Assumes nothing.
use Rattle.std.proofs.Common.{rules}
use Rattle.arith.proofs.Decoding.{gap_le}
use Rattle.arith.proofs.sum.combine.Goals as goal

pub overflow_sub-result : goal.overflow_sub-result
overflow_sub-result c =
    let a = c.args in
    let p = c.decode-large in
    let q = c.decode-small in
    gap_le a.fraction a.m a.n p.result q.result p.ensures q.ensures (search rules)
