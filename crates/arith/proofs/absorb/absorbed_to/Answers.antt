-- `arith::absorb::absorbed_to` meets its contract: by the side of zero, or by both parts. Assumes nothing.
use Rattle.std.proofs.Common.{sym, subst}
use Rattle.arith.specs.PairSearches.{AbsorbedTo}
use Rattle.arith.proofs.Absorbers.{around_absorbs}
use Rattle.arith.proofs.absorb.absorbed_to.Goals as goal

pub returns : goal.returns
returns c =
    let F = c.args.format in
    let X = c.args.x in
    subst (AbsorbedTo F X) (sym c.max.ensures)
    (around_absorbs F X c.requires c.if-zero-x.false c.if-x-zero.false c.absorbed_below-2.ensures c.absorbed_above-2.ensures)
