-- `arith::remainder::low_word` meets its contract. Assumes nothing.
use Rattle.std.proofs.Common.{rules}
use Rattle.arith.specs.Exacts.{steps_of}
use Rattle.arith.proofs.Remainders.{low_more, low_less}
use Rattle.arith.proofs.remainder.low_word.Goals as goal

pub returns-then-t : goal.returns-then-t
unfolding steps_of
returns-then-t c =
    let l = c.shift_wrapping-larger.ensures in
    simp c.if-t.true (low_less _ c.args.t.smaller _ l c.requires (search rules))

pub returns : goal.returns
unfolding steps_of
returns c =
    let l = c.shift_wrapping-larger.ensures in
    simp c.if-t.false (low_more _ c.args.t.smaller _ l)
