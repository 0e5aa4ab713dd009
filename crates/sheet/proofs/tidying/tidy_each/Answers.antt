-- `tidy_each` meets its contract: each item was faultless, and is then tidied.
-- Assumes nothing.
use Rattle.std.proofs.Common.{ap, sym, ◌∙◌, refl}
use Rattle.std.proofs.lemmas.List.Edits.{map_over_more}
use Rattle.sheet.proofs.Firsts.{faultless}
use Rattle.sheet.proofs.Filling.{not_yet, over_all}
use Rattle.sheet.proofs.tidying.tidy_each.Goals as goal

pub loop-item-init : goal.loop-item-init
loop-item-init g c = refl

pub tidied-requires : goal.tidied-requires
tidied-requires g c =
    let l = c.loop-item in
    let v = c.item-item.result in
    let fault = g.T.Item.fault c.args.bound in
    let given = c.args.items.now in
    ap fault (not_yet (g.T.Item.tidied c.args.bound) given l.items l.item-index l.invariant v l.auto.item-index-end) ∙ faultless fault v 0 given c.requires l.item-index c.loop-item-test.true

pub loop-item-preserved : goal.loop-item-preserved
loop-item-preserved g c =
    let l = c.loop-item in
    let v = c.item-item.result in
    let f = g.T.Item.tidied c.args.bound in
    rw (c.tidied.ensures ∙ ap f (sym c.item-item.is)) (map_over_more f c.args.items.now l.items l.item-index v c.loop-item-test.true l.invariant c.item-item.is)

pub returns : goal.returns
returns g c =
    let l = c.loop-item in
    over_all (g.T.Item.tidied c.args.bound) c.args.items.now l.items l.item-index l.invariant c.loop-item-test.false
