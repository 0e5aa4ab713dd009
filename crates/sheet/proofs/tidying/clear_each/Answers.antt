-- `clear_each` meets its contract: each place gets the value of an unused one.
-- Assumes nothing.
use Rattle.std.proofs.Common.{◌∙◌}
use Rattle.std.proofs.lemmas.List.Edits.{map_over_more}
use Rattle.sheet.proofs.Filling.{over_all, one_value}
use Rattle.sheet.proofs.tidying.clear_each.Goals as goal

pub loop-place-preserved : goal.loop-place-preserved
loop-place-preserved g c =
    let l = c.loop-place in
    let v = c.place-item.result in
    rw c.UNUSED.ensures (map_over_more (λ _. g.T.Item.UNUSED) c.args.places.now l.places l.place-index v c.loop-place-test.true l.invariant c.place-item.is)

pub returns : goal.returns
returns g c =
    let l = c.loop-place in
    over_all (λ _. g.T.Item.UNUSED) c.args.places.now l.places l.place-index l.invariant c.loop-place-test.false ∙ one_value g.T.Item.UNUSED c.args.places.now
