-- `clear_each` meets its contract. The invariant: the places passed are unused, and the others as they were.
-- Assumes nothing.
use Rattle.std.proofs.Common.{◌≡◌, ◌++◌, map, take, drop}
use Rattle.sheet.proofs.tidying.clear_each.Given as goal

abbrev pub invariant-loop-place : goal.invariant-loop-place
invariant-loop-place g l = l.places ≡ map (λ _. g.T.Item.UNUSED) (take l.place-index l.initial.places) ++ drop l.place-index l.initial.places
