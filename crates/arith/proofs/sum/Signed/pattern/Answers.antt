-- `arith::sum::Signed::pattern` meets its contract. Assumes nothing.
use Rattle.std.proofs.Common.{arith}
use Rattle.arith.specs.Steps.{is_set, clear, set}
use Rattle.arith.proofs.Formats.{infinity_lt}
use Rattle.arith.proofs.Signs.{zero_pattern, signed_pattern}
use Rattle.arith.proofs.sum.Signed.pattern.Goals as goal

pub returns-then-self-eq0 : goal.returns-then-self-eq0
returns-then-self-eq0 c = zero_pattern c.args.format c.args.format.sound (is_set c.args.self.sign) c.args.self.m c.if-self-eq0.true

pub overflow_add-result : goal.overflow_add-result
overflow_add-result c =
    let ok = c.args.format.sound in
    let z = c.requires in
    elim z.sign [
      | clear e ↦ omega (arith, ok.word, infinity_lt c.args.format ok, z.m)
      | set e ↦ omega (arith, ok.word, infinity_lt c.args.format ok, z.m)
    ]

pub returns : goal.returns
returns c =
    let F = c.args.format in
    let ok = c.args.format.sound in
    let z = c.requires in
    signed_pattern F ok c.args.self z.sign c.if-self-eq0.false (omega (arith, infinity_lt F ok, z.m))
