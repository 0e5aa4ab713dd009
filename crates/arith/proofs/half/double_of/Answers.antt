-- `arith::half::double_of` meets its contract. Assumes nothing.
use Rattle.std.proofs.Common.{arith, pow_mono}
use Rattle.arith.proofs.half.double_of.Goals as goal

pub overflow_add-result : goal.overflow_add-result
overflow_add-result c = omega (arith, c.shift_left-h.ensures, pow_mono {j = 52} c.requires.0, c.requires.1)
