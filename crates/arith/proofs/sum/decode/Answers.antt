-- `arith::sum::decode` meets its contract. Assumes nothing.
use Rattle.std.proofs.Common.{◌≡◌, ◌-◌, arith}
use Rattle.arith.proofs.Decoding.{decode_is, decode_under}
use Rattle.arith.proofs.sum.decode.Goals as goal
use Rattle.arith.proofs.sum.decode.Goals.{Joined-field-eq0, then-field-eq0, else-field-eq0}

-- a subnormal is shifted as the smallest normal is
shift_is : (c : Joined-field-eq0) → c.if-field-eq0.shift ≡ c.shift_right-field.result - 1
shift_is c = elim c.if-field-eq0.branch [ then-field-eq0 w ↦ omega arith | else-field-eq0 w ↦ omega arith ]

pub shift_left-requires : goal.shift_left-requires
shift_left-requires c =
    let a = c.args in
    (omega arith, omega (arith, decode_under a.fraction a.m _ _ c.shift_right-field.ensures (shift_is (goal.at.shift_left-requires c).Joined-field-eq0), c.ranges.m))

pub returns : goal.returns
returns c = decode_is _ _ _ _ _ c.shift_right-field.ensures (shift_is (goal.at.returns c).Joined-field-eq0) c.shift_left.ensures
