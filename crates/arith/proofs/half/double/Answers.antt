-- `arith::half::double` meets its contract: by the side of zero that x lies on. Assumes nothing.
use Rattle.std.proofs.Common.{ℕ, ◌+◌, ◌-◌, ap, ◌∙◌, arith}
use Rattle.ladder.proofs.Doubling.{doubled_ge}
use Rattle.arith.proofs.Formats.{infinity_lt}
use Rattle.arith.proofs.Repeating.{double_above, double_below}
use Rattle.arith.proofs.half.double.Goals as goal

pub overflow_sub-result : goal.overflow_sub-result
overflow_sub-result c =
    let F = c.args.format in
    omega (arith, c.double_of.ensures, infinity_lt F c.args.format.sound, (double_below F c.args.format.sound c.args.x c.requires.finite c.if-x-format.true).0)

pub returns-then-x-format : goal.returns-then-x-format
returns-then-x-format c =
    let F = c.args.format in
    ap (λ (m : ℕ). F.sign - m) c.double_of.ensures ∙ (double_below F c.args.format.sound c.args.x c.requires.finite c.if-x-format.true).1

pub double_of-requires-2 : goal.double_of-requires-2
double_of-requires-2 c =
    let F = c.args.format in
    let ok = c.args.format.sound in
    (ok.few, omega (arith, ok.word, infinity_lt F ok, doubled_ge F.fraction (c.args.x - F.sign), (double_above F ok c.args.x c.requires.finite c.if-x-format.false).0))

pub overflow_add-result : goal.overflow_add-result
overflow_add-result c =
    let F = c.args.format in
    omega (arith, c.double_of-2.ensures, c.args.format.sound.word, infinity_lt F c.args.format.sound, (double_above F c.args.format.sound c.args.x c.requires.finite c.if-x-format.false).0)

pub returns : goal.returns
returns c =
    let F = c.args.format in
    ap (λ (m : ℕ). F.sign + m) c.double_of-2.ensures ∙ (double_above F c.args.format.sound c.args.x c.requires.finite c.if-x-format.false).1
