-- `narrow_lists` meets its contract: the lists make a sheet, and its run is theirs (Alike). Assumes nothing.
use Rattle.std.proofs.Common.{subst}
use Rattle.sheet.specs.declared.kept.Sheet.{Sheet}
use Rattle.propagation.specs.Narrowings.{NarrowsSheet}
use Rattle.lent.proofs.Alike.{lists_narrow}
use Rattle.lent.proofs.lists.narrow_lists.Goals as goal

pub returns : goal.returns
returns c =
    let a = c.args in
    let r = c.narrow_sheet-run in
    rw c.store.ensures (lists_narrow a.width a.limit a.cells.now a.records.now r.result (subst (λ (s : Sheet). NarrowsSheet s r.result) c.load.ensures r.ensures))
