-- `arith::sum::round_units` meets its contract. Assumes nothing.
use Rattle.std.proofs.Common.{◌^◌, ◌<◌, ◌≤◌, pos_of_ne-zero, arith}
use Rattle.ladder.proofs.Digits.{lt_size, shifted_lt}
use Rattle.arith.proofs.Roundings.{digits_fit, shift_fits, leading_fits, excess_fits, units_zero, units_few, units_many}
use Rattle.arith.proofs.sum.round_units.Goals as goal
use Rattle.arith.proofs.sum.round_units.Goals.{After-digits-size}

pub returns-then-n-eq0 : goal.returns-then-n-eq0
returns-then-n-eq0 c = units_zero c.args.fraction c.args.n c.args.shift c.requires.0 c.if-n-eq0.true c.keep.result c.keep.ensures

-- how many digits n has, and how far it is shifted
fits : (c : After-digits-size) → (0 < c.digits-size.result) × (c.digits-size.result ≤ 64) × (c.args.shift ≤ 2 ^ 62)
fits c =
    let a = c.args in (
      omega (arith, c.digits-size.ensures, lt_size a.n 0 (pos_of_ne-zero c.if-n-eq0.false)),
      omega (arith, c.digits-size.ensures, digits_fit a.fraction a.n a.shift c.requires.0 c.ranges.n.fits c.requires.1),
      shift_fits a.fraction a.n a.shift c.requires.0 c.ranges.n.fits c.requires.1,
    )

pub overflow_add-size : goal.overflow_add-size
overflow_add-size c = omega (arith, fits (goal.at.overflow_add-size c).After-digits-size)

pub shift_left-requires : goal.shift_left-requires
shift_left-requires c =
    (omega (arith, c.requires.0.1, fits (goal.at.shift_left-requires c).After-digits-size), shifted_lt c.args.n c.args.shift 64 (omega (arith, c.requires.0.1, c.digits-size.ensures)))

pub returns-then-size-shift : goal.returns-then-size-shift
returns-then-size-shift c =
    units_few c.args.fraction c.args.n c.args.shift c.requires.0 _ c.shift_left.ensures (omega arith) c.keep-then-size-shift.result c.keep-then-size-shift.ensures

pub overflow_sub-size : goal.overflow_sub-size
overflow_sub-size c = omega (arith, fits (goal.at.overflow_sub-size c).After-digits-size)

pub shift_left-leading-requires : goal.shift_left-leading-requires
shift_left-leading-requires c =
    (omega (arith, fits (goal.at.shift_left-leading-requires c).After-digits-size), rw c.digits-size.ensures (leading_fits c.args.fraction c.args.n c.args.shift c.requires.0 c.ranges.n.fits c.requires.1))

pub overflow_add-size-2 : goal.overflow_add-size-2
overflow_add-size-2 c = omega (arith, fits (goal.at.overflow_add-size-2 c).After-digits-size)

pub round_leading-requires : goal.round_leading-requires
round_leading-requires c =
    (c.requires.0, excess_fits c.args.fraction c.args.n c.args.shift c.requires.0 c.ranges.n.fits c.requires.1 _ (omega (arith, c.digits-size.ensures)))

pub returns : goal.returns
returns c =
    let d = c.digits-size in
    units_many c.args.fraction c.args.n c.args.shift c.requires.0 (pos_of_ne-zero c.if-n-eq0.false) c.ranges.n.fits
    (omega (arith, d.ensures, c.if-size-shift.false)) c.round_leading.result (rw (c.shift_left-leading.ensures, d.ensures) at c.round_leading.ensures)
