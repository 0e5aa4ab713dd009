-- `arith::absorb::absorbed_above` meets its contract. Assumes nothing.
use Rattle.std.proofs.Common.{ℕ, subst, arith}
use Rattle.ladder.proofs.Absorption.{above_absorbed}
use Rattle.arith.specs.Intervals.{span}
use Rattle.arith.specs.PairSearches.{AbsorbsTo}
use Rattle.arith.proofs.absorb.absorbed_above.Goals as goal

pub returns : goal.returns
returns c =
    let F = c.args.format in
    let g = c.requires.0 in
    above_absorbed F.fraction F.exponent F.sound.some (span c.args.x) g.ends g.order (omega (arith, c.requires.1, F.sound.sign)) _
    (subst (λ (y : ℕ). AbsorbsTo F y c.absorbs_to.result) c.max.ensures c.absorbs_to.ensures)
