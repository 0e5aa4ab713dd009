-- What a run starts from, of lists and of a sheet that the test lets pass: the cells stand for a box, the records name cells of it, and the tidied sheet has the same run.
-- Assumes nothing.
use mathlib.Core.Path.{◌≡◌, sym, ap, ap₂, subst, ◌∙◌}
use mathlib.Core.List.{List, map-map}
use Prim.Native.Nat.{ℕ, ◌<◌}
use native.Mathlib.Omega.{arith}
use lib.ListN.{length, get_or, take}
use lib.Seq.{get_or-take}
use Rattle.arith.specs.declared.interval.Interval.{Interval}
use Rattle.sheet.specs.declared.kept.Record.{Record}
use Rattle.sheet.specs.declared.kept.Sheet.{Sheet}
use Rattle.std.specs.Prelude.{Ok}
use Rattle.sheet.specs.Members.{Each}
use Rattle.sheet.specs.Records.{named, Names}
use Rattle.sheet.specs.Boxes.{Box, IsBox}
use Rattle.sheet.specs.Cells.{fraction_of, exponent_of, rules_of, ordinals_of, patterns_of, box_of}
use Rattle.sheet.specs.Sheets.{no_cell, no_record, filled, places, used_cells, tidied, test_lists, test_of}
use Rattle.sheet.proofs.Members.{each_at}
use Rattle.sheet.proofs.Tested.{tested}
use Rattle.sheet.proofs.Tidied.{sheet_tested, cells_counted, records_counted, tidied_records, tidied_record}
use Rattle.propagation.specs.Runs.{run}
use Rattle.propagation.specs.Consistency.{AllNames}
use Rattle.propagation.specs.Loops.{box_in, Shows, Ready}
use Rattle.propagation.specs.Narrowings.{end_of}
use Rattle.propagation.proofs.Places.{box_found, places_show}

-- ---- lists; m and n are their counts
module _ (width limit m n : ℕ) (cells : List Interval) (records : List Record) (t : test_lists width limit m n cells records ≡ Ok tt) (size : length cells ≡ m) where
  pub first_box : IsBox (fraction_of width) (exponent_of width) (length (box_of width cells)) (box_of width cells)
  first_box = let b = (tested width limit m n cells records t).box size in rw b.cells b

  pub first_names : AllNames (length (box_of width cells)) records
  first_names =
      let p = tested width limit m n cells records t in
      rw (p.box size).cells (each_at (λ r. Each (λ i. i < m) (named r)) no_record records (λ k l. (p.names k l).cells))

-- ---- a sheet, tidied
module _ (s : Sheet) (cells_long : length s.cells ≡ 64) (records_long : length s.records ≡ 128) (t : test_of s ≡ Ok tt) where
  used_box : IsBox (fraction_of s.width) (exponent_of s.width) s.cell_count (box_of s.width (used_cells s))
  used_box = (sheet_tested s t).box (cells_counted s t cells_long)

  tidied_cells : (tidied s).cells ≡ places s.width s.cell_count (box_of s.width (used_cells s))
  unfolding tidied
  tidied_cells = ap (λ (l : List Interval). filled 64 no_cell l s.cell_count) (sym (map-map (patterns_of s.width) (ordinals_of s.width) (used_cells s)))

  tidied_box : box_of s.width (take s.cell_count (tidied s).cells) ≡ box_of s.width (used_cells s)
  tidied_box = ap (λ (l : List Interval). box_in s.width s.cell_count l) tidied_cells ∙ box_found s.width s.cell_count (box_of s.width (used_cells s)) used_box

  tidied_names : (k : ℕ) → k < s.record_count → Names s.cell_count (get_or (tidied s).records k no_record)
  tidied_names k l =
      let u = records_counted s t records_long in
      rw (tidied_record s records_long t k l, ← (get_or-take s.record_count s.records k no_record l)) ((sheet_tested s t).names k (omega arith))

  -- the run is the same
  pub tidied_end : end_of (tidied s) ≡ end_of s
  unfolding tidied
  tidied_end = ap₂ (λ (l : List Record) (b : Box). run (rules_of s.width) l s.limit b) (tidied_records s records_long t) tidied_box

  -- and may start
  pub tidied_ready : Ready (tidied s)
  unfolding tidied
  tidied_ready =
      let p = sheet_tested s t in
      record {
        known = p.head.known;
        some = p.head.some;
        passes = p.head.few;
        few_cells = p.few_cells;
        few_records = p.few_records;
        names = tidied_names;
        shows = subst (Shows s.width s.cell_count) (sym tidied_cells) (places_show s.width s.cell_count (box_of s.width (used_cells s)) used_box);
      }
