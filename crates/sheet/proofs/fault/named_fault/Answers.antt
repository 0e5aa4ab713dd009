-- `named_fault` meets its contract: what `all` answers is whether each cell is there.
-- Assumes nothing.
use Rattle.std.proofs.Common.{◌≡◌, ap, ◌∙◌, sym, cond, rules, tests, Bool}
use Rattle.std.proofs.lemmas.Iterator.{YieldsList-from_slice}
use Rattle.std.proofs.lemmas.Iterator.Search.{all_from_yields_List}
use Rattle.std.specs.List.{list_all}
use lib.Dec.{ltb}
use Rattle.arith.specs.declared.refusal.Reason.{Reason}
use Rattle.arith.specs.Refusals.{tested}
use Rattle.sheet.proofs.Records.{named_all}
use Rattle.sheet.proofs.fault.named_fault.Goals as goal
use Rattle.sheet.proofs.fault.named_fault.Goals.{After-all}

-- whether each cell is there
answered : (c : After-all) → c.all.result ≡ list_all (λ i. ltb i c.args.cell_count) c.args.names.now
answered c = all_from_yields_List (λ i. ltb i c.args.cell_count) _ _ _ c.all.ensures.ran (YieldsList-from_slice c.args.names.now cc) (λ x b q k. search (rules, tests))

pub returns : goal.returns
returns c = c.unless.ensures ∙ ap (λ (t : Bool). tested t Reason.NoCell) (answered (goal.at.returns c).After-all) ∙ named_all c.args.cell_count c.args.names.now
