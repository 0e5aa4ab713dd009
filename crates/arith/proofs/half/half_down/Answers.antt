-- `arith::half::half_down` meets its contract: in the mirror. Assumes nothing.
use Rattle.std.proofs.Common.{ℕ, sym, subst}
use Rattle.ladder.proofs.Halves.{greatest_half}
use Rattle.arith.specs.PairSearches.{LeastHalf, GreatestHalf}
use Rattle.arith.proofs.half.half_down.Goals as goal

pub returns : goal.returns
returns c =
    let F = c.args.format in
    let b = c.args.b in
    subst (GreatestHalf F b) (sym c.mirror_of-2.ensures)
    (greatest_half F.fraction F.exponent c.args.format.sound.some b c.requires.finite _ (subst (λ (m : ℕ). LeastHalf F m c.half_up-m.result) c.mirror_of.ensures c.half_up-m.ensures))
