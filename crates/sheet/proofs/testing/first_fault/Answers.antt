-- `first_fault` meets its contract. The invariant: no item passed has a fault, so that the first fault is among those left.
-- Assumes nothing.
use mathlib.Core.Path.{sym, ap, ◌∙◌}
use Rattle.std.specs.Prelude.{Err}
use Rattle.sheet.proofs.Firsts.{found, passed, none_left}
use Rattle.sheet.proofs.testing.first_fault.Goals as goal

pub returns-in-Err : goal.returns-in-Err
returns-in-Err g c =
    let l = c.loop-i in
    let v = c.index-items-i in
    ap Err c.at.ensures ∙ found (g.T.Item.fault c.args.bound) c.args.items.now l.i l.invariant v.result c.loop-i-test.true (sym v.is) c.fault.ensures c.in-Err.is

pub loop-i-preserved : goal.loop-i-preserved
loop-i-preserved g c =
    let l = c.loop-i in
    let v = c.index-items-i in
    passed (g.T.Item.fault c.args.bound) c.args.items.now l.i l.invariant v.result c.loop-i-test.true (sym v.is) c.fault.ensures c.in_default.is

pub returns : goal.returns
returns g c =
    let l = c.loop-i in
    none_left (g.T.Item.fault c.args.bound) c.args.items.now l.i l.invariant c.loop-i-test.false
