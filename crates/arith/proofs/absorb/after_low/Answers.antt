-- `arith::absorb::after_low` meets its contract. Assumes nothing.
use Rattle.std.proofs.Common.{arith}
use Rattle.arith.proofs.Formats.{infinity_lt}
use Rattle.arith.proofs.absorb.after_low.Goals as goal

pub overflow_add-x : goal.overflow_add-x
overflow_add-x c =
    let ok = c.args.format.sound in
    omega (arith, ok.sign, ok.infinity, ok.word, c.requires.ends.low.high, infinity_lt c.args.format ok)
