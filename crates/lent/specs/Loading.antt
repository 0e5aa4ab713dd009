-- The walk between lent lists and a sheet: cells and records put into its places, cells stored back. Assumes nothing.
use Rattle.std.specs.Prelude.{List, ℕ, ◌++◌, min, length, take, drop}
use Rattle.arith.specs.declared.interval.Interval.{Interval}
use Rattle.sheet.specs.declared.kept.Record.{Record}
use Rattle.sheet.specs.declared.kept.Sheet.{Sheet}
use Rattle.propagation.specs.declared.passes.Outcome.{Outcome}
use Rattle.propagation.specs.declared.passes.Outcome.TheVariants.{Settled, NoTriple, Stopped, Refused}
use Rattle.sheet.specs.Sheets.{blank, with_cells}

-- a list with the first n members of another in its first places
abbrev pub puts : {A : Type 0} → List A → ℕ → List A → List A
puts from n to = take n from ++ drop n to

-- a sheet with other records
abbrev pub with_records : Sheet → List Record → Sheet
with_records s records =
    record {
      width = s.width;
      limit = s.limit;
      cell_count = s.cell_count;
      record_count = s.record_count;
      cells = s.cells;
      records = records;
    }

-- a sheet with other counts
abbrev pub with_counts : Sheet → ℕ → ℕ → Sheet
with_counts s n m =
    record {
      width = s.width;
      limit = s.limit;
      cell_count = n;
      record_count = m;
      cells = s.cells;
      records = s.records;
    }

-- the sheet with the first n cells of a list
abbrev pub loaded_cells : List Interval → ℕ → Sheet → Sheet
loaded_cells cells n s = with_cells s (puts cells n s.cells)

-- the sheet with the first n records of a list
abbrev pub loaded_records : List Record → ℕ → Sheet → Sheet
loaded_records records n s = with_records s (puts records n s.records)

-- the list with the first n cells of a sheet
abbrev pub stored_cells : List Interval → ℕ → Sheet → List Interval
stored_cells cells n s = puts s.cells n cells

-- how many of n cells are stored back: all where the run settled or stopped, else none
abbrev pub stored_count : Outcome → ℕ → ℕ
stored_count (Settled passes) n = n
stored_count (NoTriple pass k) n = 0
stored_count (Stopped passes) n = n
stored_count (Refused r) n = 0

-- the sheet that two lists make: their lengths as its counts, and as many cells and records as it has places for
unfoldable pub sheet_of : ℕ → ℕ → List Interval → List Record → Sheet
sheet_of width limit cells records =
    loaded_records records (min (length records) 128)
    (loaded_cells cells (min (length cells) 64)
    (with_counts (blank width limit) (length cells) (length records)))
