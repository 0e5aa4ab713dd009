-- `tidy_each` meets its contract. The invariant: the items passed are tidied, and the others as they were.
-- Assumes nothing.
use Rattle.std.proofs.Common.{◌≡◌, ◌++◌, map, take, drop}
use Rattle.sheet.proofs.tidying.tidy_each.Given as goal

abbrev pub invariant-loop-item : goal.invariant-loop-item
invariant-loop-item g l = l.items ≡ map (g.T.Item.tidied l.bound) (take l.item-index l.initial.items) ++ drop l.item-index l.initial.items
