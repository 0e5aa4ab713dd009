-- `tidy` meets its contract: what the test has seen is what tidying asks.
-- Assumes nothing.
use borrow.Author.Rules.{rules}
use native.Mathlib.Omega.{arith}
use mathlib.Core.Path.{◌≡◌, ap, ◌∙◌}
use mathlib.Core.List.{map, map-id}
use Prim.Native.Nat.{ℕ}
use lib.ListN.{length}
use Rattle.sheet.proofs.Answers.{all_good}
use Rattle.sheet.specs.declared.kept.Record.{Record}
use Rattle.sheet.specs.Cells.{canonical_cell}
use Rattle.sheet.specs.Sheets.{no_cell, no_record, filled, used_cells, used_records, tidied}
use Rattle.sheet.proofs.tidying.tidy.Goals as goal

pub tidy_items-requires : goal.tidy_items-requires
tidy_items-requires c =
    let s = c.args.sheet.now in
    let n : length s.cells ≡ 64 = search rules in
    let p = all_good s.width s.limit s.cell_count s.record_count (used_cells s) (used_records s) c.requires in
    (omega (arith, p.few_cells), p.cells_good)

pub tidy_items-requires-2 : goal.tidy_items-requires-2
tidy_items-requires-2 c =
    let s = c.args.sheet.now in
    let n : length s.records ≡ 128 = search rules in
    let p = all_good s.width s.limit s.cell_count s.record_count (used_cells s) (used_records s) c.requires in
    (omega (arith, p.few_records), p.records_good)

pub returns : goal.returns
unfolding tidied
returns c =
    let s = c.args.sheet.now in
    let m : length s.cells ≡ 64 = search rules in
    let n : length s.records ≡ 128 = search rules in
    let cells = c.tidy_items.ensures ∙ ap (λ (places : ℕ). filled places no_cell (map (canonical_cell s.width) (used_cells s)) s.cell_count) m in
    let records = c.tidy_items-2.ensures ∙ ap (λ (places : ℕ). filled places no_record (map (λ (r : Record). r) (used_records s)) s.record_count) n in
    rw (cells, records, map-id)
