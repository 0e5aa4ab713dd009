-- `arith::half::half_of` meets its contract. Assumes nothing.
use Rattle.std.proofs.Common.{arith, pow_mono}
use Rattle.arith.proofs.half.half_of.Goals as goal

pub overflow_mul-h : goal.overflow_mul-h
overflow_mul-h c = omega (arith, c.shift_left-h.ensures, pow_mono {j = 52} c.requires.0)

pub overflow_add-result : goal.overflow_add-result
overflow_add-result c =
    omega (arith, c.if-n-h.true, c.shift_left-h.ensures, pow_mono {j = 52} c.requires.0, c.requires.1)
