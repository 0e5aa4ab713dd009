-- `arith::sum::scale` meets its contract: a narrow gap by `scale_near`, a wide one by `scale_far`. Assumes nothing.
use Rattle.std.proofs.Common.{◌-◌, ◌≤◌, arith}
use lib.Pow.{shr_le}
use Rattle.arith.proofs.Jamming.{few, near_fits, scale_near, far_fits, far_order, scale_far}
use Rattle.arith.proofs.sum.scale.Goals as goal

pub shift_left-requires : goal.shift_left-requires
shift_left-requires c =
    (omega arith, omega (arith, near_fits c.args.d c.args.t c.requires.0 c.requires.1 c.if-gap-le3.true))

pub join-requires : goal.join-requires
join-requires c =
    omega (arith, near_fits c.args.d c.args.t c.requires.0 c.requires.1 c.if-gap-le3.true)

pub returns-then-gap-le3 : goal.returns-then-gap-le3
returns-then-gap-le3 c =
    scale_near c.args.d c.args.t c.requires.0 c.requires.1 c.shift_left.result c.join.result c.shift_left.ensures c.join.ensures

pub overflow_mul-jammed : goal.overflow_mul-jammed
overflow_mul-jammed c =
    omega (arith, few c.args.d c.args.t c.requires.0 c.requires.1, shr_le c.args.t.smaller (c.args.t.gap - 3))

pub overflow_add-jammed : goal.overflow_add-jammed
overflow_add-jammed c =
    omega (arith, few c.args.d c.args.t c.requires.0 c.requires.1, shr_le c.args.t.smaller (c.args.t.gap - 3))

pub overflow_mul-t : goal.overflow_mul-t
overflow_mul-t c =
    omega (arith, few c.args.d c.args.t c.requires.0 c.requires.1)

pub join-requires-2 : goal.join-requires-2
join-requires-2 c =
    let k = c.shift_right in
    let b = c.sticky in
    let one : b.result ≤ 1 = omega arith in
    let low : k.result ≤ c.args.t.smaller = omega (arith, shr_le c.args.t.smaller (c.args.t.gap - 3)) in (
      far_fits c.args.d c.args.t c.requires.0 c.requires.1 k.result b.result low one,
      far_order c.args.d c.args.t c.requires.0 c.requires.1 k.result b.result c.if-gap-le3.false k.ensures one,
    )

pub returns : goal.returns
returns c =
    let k = c.shift_right in
    let b = c.sticky in
    scale_far c.args.d c.args.t c.requires.0 c.requires.1 k.result b.result c.join-2.result c.if-gap-le3.false k.ensures b.ensures c.join-2.ensures
