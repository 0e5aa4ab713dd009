-- `arith::sum::mark_for` meets its contract. Assumes nothing.
use Rattle.std.proofs.Common.{◌^◌, ◌<◌, ◌≤◌, arith, le-ltb, lt-ltb}
use Rattle.arith.proofs.Formats.{infinity_lt, smallest_normal}
use Rattle.arith.proofs.sum.mark_for.Goals as goal

pub overflow_sub-format : goal.overflow_sub-format
overflow_sub-format c = omega (arith, infinity_lt c.args.format c.args.format.sound)

pub returns-then-r-format : goal.returns-then-r-format
returns-then-r-format c =
    let l : c.args.r.m < 2 ^ c.args.format.fraction = omega (arith, smallest_normal c.args.format c.args.format.sound) in
    simp (c.if-r.false, lt-ltb _ _ l)

pub returns : goal.returns
returns c =
    let l : 2 ^ c.args.format.fraction ≤ c.args.r.m = omega (arith, smallest_normal c.args.format c.args.format.sound) in
    simp (c.if-r.false, le-ltb _ _ l)
