-- `arith::absorb::absorbed_below` meets its contract. Assumes nothing.
use Rattle.std.proofs.Common.{ℕ, sym, subst, arith}
use Rattle.ladder.proofs.Absorption.{below_absorbed}
use Rattle.arith.specs.Intervals.{span}
use Rattle.arith.specs.PairSearches.{AbsorbsTo, AbsorbedTo}
use Rattle.arith.proofs.absorb.absorbed_below.Goals as goal

pub returns : goal.returns
returns c =
    let F = c.args.format in
    let X = c.args.x in
    let g = c.requires.0 in
    subst (AbsorbedTo F X) (sym c.max.ensures)
    (below_absorbed F.fraction F.exponent F.sound.some (span X) g.ends g.order (omega (arith, c.requires.1, F.sound.sign)) _ _
    c.absorbs_to-first.ensures
    (subst (λ (y : ℕ). AbsorbsTo F y c.absorbs_to.result) c.after_low.ensures c.absorbs_to.ensures))
