-- `listing::digits::fill_digits` meets its contract. Assumes nothing.
use Rattle.std.proofs.Common.{◌-◌, sym, ◌∙◌, length-set}
use Rattle.listing.proofs.Filling.{one_filled, none_left}
use native.Mathlib.Omega.{arith}
use Rattle.listing.proofs.digits.fill_digits.Goals as goal

pub loop-j-preserved : goal.loop-j-preserved
loop-j-preserved c =
    let (size, filled) = c.loop-j.invariant in
    (length-set c.loop-j.places (c.loop-j.j - 1) c.digit_byte.result ∙ size, one_filled c.args.base c.loop-j.j c.loop-j.m c.digit_byte.result c.loop-j.places c.loop-j-test.true (omega (arith, c.loop-j.auto.j, size)) c.digit_byte.ensures ∙ filled)

pub returns : goal.returns
returns c =
    let (size, filled) = c.loop-j.invariant in
    sym (none_left c.args.base c.loop-j.j c.loop-j.m c.loop-j.places c.loop-j-test.false) ∙ filled
