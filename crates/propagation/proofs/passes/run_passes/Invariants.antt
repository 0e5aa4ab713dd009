-- `run_passes` meets its contract. The invariants: what is left of a pass, and of the run, gives the same end as the whole; and the cells stand for a box. Each exit is a law of Runs.
-- Assumes nothing.
use Rattle.sheet.specs.Cells.{rules_of}
use Rattle.propagation.specs.Loops.{box_in, Shows}
use Rattle.propagation.specs.Runs.{pass_from, run_from}
use lib.ListN.{take, drop}
use Prim.Native.Nat.{◌-◌, ◌≤◌}
use mathlib.Core.Path.{◌≡◌}
use Rattle.propagation.proofs.passes.run_passes.Given as goal

abbrev pub invariant-records : goal.invariant-records
invariant-records l =
    (l.k ≤ l.n)
    × (pass_from (rules_of l.width) (drop l.k (take l.n l.records)) l.k (box_in l.width l.count l.cells) ≡ pass_from (rules_of l.width) (take l.n l.records) 0 (box_in l.width l.count l.before))
    × Shows l.width l.count l.cells

abbrev pub decreases-records : goal.decreases-records
decreases-records l = l.n - l.k

abbrev pub invariant-passes : goal.invariant-passes
invariant-passes l =
    (run_from (rules_of l.width) (take l.n l.records) (l.limit - l.pass) l.pass (box_in l.width l.count l.cells) ≡ run_from (rules_of l.width) (take l.n l.records) (l.limit - 1) 1 (box_in l.width l.count l.initial.cells)) × Shows l.width l.count l.cells

abbrev pub decreases-passes : goal.decreases-passes
decreases-passes l = l.limit - l.pass
