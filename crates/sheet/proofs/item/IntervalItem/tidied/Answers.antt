-- A cell is tidied as its contract says: one without a fault is not refused.
-- Assumes nothing.
use mathlib.Core.Path.{ap, ◌∙◌}
use Rattle.std.specs.Prelude.{Result}
use Rattle.std.specs.Result.{result_unwrap_or}
use Rattle.arith.specs.declared.interval.Interval.{Interval}
use Rattle.arith.specs.declared.refusal.Refusal.{Refusal}
use Rattle.arith.proofs.Valid.{canonical_is}
use Rattle.sheet.proofs.Cells.{fault_free}
use Rattle.sheet.proofs.item.IntervalItem.tidied.Goals as goal

pub returns : goal.returns
returns c =
    let s = c.args in
    c.unwrap_or.ensures ∙ ap (λ (r : Result Interval Refusal). result_unwrap_or r s.self) (c.canonical.ensures.value ∙ canonical_is s.bound s.self (fault_free s.bound s.self c.requires))
