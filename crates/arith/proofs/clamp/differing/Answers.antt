-- `arith::clamp::differing` meets its contract: no digit of the exclusive or is left where they agree. Assumes nothing.
use Rattle.std.proofs.Common.{arith}
use Rattle.arith.proofs.Clamping.{agree, differ, few_differ}
use Rattle.arith.proofs.clamp.differing.Goals as goal

pub returns : goal.returns
returns c =
    let z = c.args in
    let d = differ z.p z.q c.digits.result c.requires c.digits.ensures in
    (agree z.p z.q c.digits.result c.digits.ensures, d.0, d.1, omega (arith, few_differ z.p z.q (omega arith) (omega arith)))
