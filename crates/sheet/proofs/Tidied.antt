-- A sheet that the test lets pass: what is in use is as long as the counts say, and tidied it has the same records.
-- Assumes nothing.
use Rattle.std.specs.Prelude.{Ok, Err}
use mathlib.Core.Path.{◌≡◌, sym, ap, ◌∙◌}
use mathlib.Core.List.{List}
use Prim.Native.Nat.{ℕ, ◌-◌, ◌<◌}
use native.Mathlib.Omega.{arith}
use lib.ListN.{length, get_or, replicate}
use lib.Seq.{take_at, length-take-le, get_or-take}
use Rattle.sheet.specs.declared.kept.Record.{Record}
use Rattle.sheet.specs.declared.kept.Sheet.{Sheet}
use Rattle.sheet.specs.Sheets.{no_record, used_cells, used_records, tidied, test_of}
use Rattle.sheet.proofs.Tested.{LetPass, tested}

-- ---- in use
module _ (s : Sheet) (t : test_of s ≡ Ok tt) where
  pub sheet_tested : LetPass s.width s.limit s.cell_count s.record_count (used_cells s) (used_records s)
  sheet_tested = tested s.width s.limit s.cell_count s.record_count (used_cells s) (used_records s) t

  pub cells_counted : length s.cells ≡ 64 → length (used_cells s) ≡ s.cell_count
  cells_counted long =
      let l = sheet_tested.few_cells in
      length-take-le s.cell_count s.cells (omega arith)

  pub records_counted : length s.records ≡ 128 → length (used_records s) ≡ s.record_count
  records_counted long =
      let l = sheet_tested.few_records in
      length-take-le s.record_count s.records (omega arith)

-- ---- tidied
module _ (s : Sheet) (long : length s.records ≡ 128) (t : test_of s ≡ Ok tt) where
  pub tidied_records : used_records (tidied s) ≡ used_records s
  unfolding tidied
  tidied_records = take_at (used_records s) (replicate (128 - s.record_count) no_record) s.record_count (records_counted s t long)

  pub tidied_record : (k : ℕ) → k < s.record_count → get_or (tidied s).records k no_record ≡ get_or s.records k no_record
  unfolding tidied
  tidied_record k l = sym (get_or-take s.record_count (tidied s).records k no_record l) ∙ ap (λ (r : List Record). get_or r k no_record) tidied_records ∙ get_or-take s.record_count s.records k no_record l
