-- `arith::remainder::encode` meets its contract. Assumes nothing.
use Rattle.std.proofs.Common.{◌≡◌, ℕ, ◌+◌, ◌-◌, ◌*◌, ◌^◌, ◌<◌, ◌≤◌, ◌⊎◌, ◌∙◌, ap₂, inl, inr, le_trans, mul-le-mul_right, arith, pow_mono}
use lib.Ieee.{size}
use Rattle.ladder.specs.Magnitude.{magnitude}
use Rattle.ladder.proofs.Cases.{le_or_lt}
use Rattle.arith.proofs.Remainders.{digits_room, up_le, shifted_few, encode_is}
use Rattle.arith.proofs.remainder.encode.Goals as goal
use Rattle.arith.proofs.remainder.encode.Goals.{After-min-up}

pub overflow_sub-room : goal.overflow_sub-room
overflow_sub-room c = omega (arith, c.digits.ensures, digits_room c.args.fraction c.args.n c.args.shift c.requires)

-- how far n is shifted up
raised : (c : After-min-up) → let a = c.args in
    ((a.fraction + 1 - size a.n < a.shift) × (c.min-up.result ≡ a.fraction + 1 - size a.n)) ⊎ ((a.shift ≤ a.fraction + 1 - size a.n) × (c.min-up.result ≡ a.shift))
raised c =
    let e = c.digits.ensures in
    let m = c.min-up.ensures in
    elim (le_or_lt c.args.shift (c.args.fraction + 1 - size c.args.n)) [ inl l ↦ inr (l, omega (arith, e, m)) | inr l ↦ inl (l, omega (arith, e, m)) ]

-- what both shifts have room for
low_fits : (c : After-min-up) → let a = c.args in (a.shift - c.min-up.result) * 2 ^ a.fraction ≤ 2 ^ 63
low_fits c =
    let a = c.args in
    le_trans (mul-le-mul_right {m = a.shift - c.min-up.result} {n = a.shift} (2 ^ a.fraction) (omega arith)) c.requires.low

high_fits : (c : After-min-up) → let a = c.args in a.n * 2 ^ c.min-up.result < 2 ^ 53
high_fits c =
    let a = c.args in
    omega (arith, shifted_few a.fraction a.n a.shift c.requires c.min-up.result (raised c), pow_mono {j = 52} c.requires.fraction.1)

pub shift_left-requires-2 : goal.shift_left-requires-2
shift_left-requires-2 c =
    (omega (arith, c.requires.fraction.1, (up_le c.args.fraction c.args.n c.args.shift c.requires c.min-up.result (raised (goal.at.shift_left-requires-2 c).After-min-up)).1), omega (arith, high_fits (goal.at.shift_left-requires-2 c).After-min-up))

pub overflow_add-result : goal.overflow_add-result
overflow_add-result c = omega (arith, c.shift_left.ensures, c.shift_left-2.ensures, low_fits (goal.at.overflow_add-result c).After-min-up, high_fits (goal.at.overflow_add-result c).After-min-up)

pub returns : goal.returns
returns c =
    ap₂ (λ (x y : ℕ). magnitude c.args.fraction (x + y)) c.shift_left.ensures c.shift_left-2.ensures
    ∙ encode_is c.args.fraction c.args.n c.args.shift c.requires c.min-up.result (raised (goal.at.returns c).After-min-up)
