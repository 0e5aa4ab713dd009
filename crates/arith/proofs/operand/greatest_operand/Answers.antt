-- `arith::operand::greatest_operand` meets its contract: the greatest operand is read off in the mirror. Assumes nothing.
use Rattle.ladder.proofs.Operand.{greatest_operand, greatest_never}
use Rattle.std.proofs.Common.{Some, None}
use Rattle.arith.specs.Formats.{mirrored}
use Rattle.arith.specs.Intervals.{reflected, span}
use Rattle.arith.specs.Searches.{Attains, LeastOf}
use Rattle.arith.proofs.operand.greatest_operand.Goals as goal
use Rattle.arith.proofs.operand.greatest_operand.Goals.{In_ok-m}

-- the least operand of the mirrored range
mirrored-least : (c : In_ok-m) → let z = c.args in LeastOf (Attains z.format (mirrored z.format z.a) (mirrored z.format z.b) (reflected z.format z.r)) (Some c.in_ok-m.m)
mirrored-least c = rw (c.in_ok-m.was, c.mirror_of.ensures, c.mirror_of-2.ensures, c.reflect.ensures) at c.least_operand.ensures

pub returns : goal.returns
returns c =
    let F = c.args.format in
    rw c.mirror_of-3.ensures (greatest_operand F.fraction F.exponent c.args.format.sound.some c.args.a c.args.b (span c.args.r) c.requires.0 c.requires.1 c.requires.2 _ (mirrored-least (goal.at.returns c).In_ok-m))

pub returns-in_err-m : goal.returns-in_err-m
returns-in_err-m c =
    let F = c.args.format in
    let n : LeastOf (Attains F (mirrored F c.args.a) (mirrored F c.args.b) (reflected F c.args.r)) None = rw (c.in_err-m.was, c.mirror_of.ensures, c.mirror_of-2.ensures, c.reflect.ensures) at c.least_operand.ensures in
    rw c.from_residual.ensures (greatest_never F.fraction F.exponent c.args.format.sound.some c.args.a c.args.b (span c.args.r) c.requires.0 c.requires.1 c.requires.2 n)
