-- `first_fault` meets its contract. The invariant: no item passed has a fault, so that the first fault is among those left.
-- Assumes nothing.
use Rattle.sheet.proofs.Firsts.{Passed}
use Rattle.sheet.proofs.testing.first_fault.Given as goal

abbrev pub invariant-loop-i : goal.invariant-loop-i
invariant-loop-i g l = Passed (g.T.Item.fault l.bound) l.items l.i
