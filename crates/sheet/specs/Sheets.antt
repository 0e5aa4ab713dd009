-- The kept sheet: what is in use, its one written form, its test in the order of lists, and the whole answers of opening, accepting and adding. Assumes nothing.
use Rattle.std.specs.Prelude.{◌≡◌, Bool, cond, List, [], ◌∷◌, ◌++◌, map, ℕ, ◌+◌, ◌-◌, leb, ltb, length, replicate, take, set, Result, Ok, Err, is_ok}
use Rattle.arith.specs.declared.interval.Interval.{Interval}
use Rattle.arith.specs.declared.refusal.Reason.{Reason}
use Rattle.arith.specs.declared.refusal.Refusal.{Refusal}
use Rattle.arith.specs.Refusals.{refusal_at}
use Rattle.sheet.specs.declared.kept.Record.{Record}
use Rattle.sheet.specs.declared.kept.Sheet.{Sheet}
use Rattle.sheet.specs.declared.kept.Kept.{Kept}
use Rattle.sheet.specs.Boxes.{Box}
use Rattle.sheet.specs.Cells.{canonical_cell, cells_of}
use Rattle.sheet.specs.Faults.{Fault, head_fault, cell_fault, record_fault}

-- ---- places
-- what an unused place of a cell holds
abbrev pub no_cell : Interval
no_cell = record { low = 0; high = 0 }

-- and of a record
abbrev pub no_record : Record
no_record = record { kind = 0; x = 0; a = 0; b = 0 }

-- so many places, of which the first n hold a list, n its length, and the others v
abbrev pub filled : {A : Type 0} → ℕ → A → List A → ℕ → List A
filled places v l n = l ++ replicate (places - n) v

-- the 64 places with the n cells of a box, the others zero
abbrev pub places : ℕ → ℕ → Box → List Interval
places width n box = filled 64 no_cell (cells_of width box) n

-- a sheet with nothing in use
abbrev pub blank : ℕ → ℕ → Sheet
blank width limit =
    record {
      width = width;
      limit = limit;
      cell_count = 0;
      record_count = 0;
      cells = replicate 64 no_cell;
      records = replicate 128 no_record;
    }

-- the cells in use
abbrev pub used_cells : Sheet → List Interval
used_cells s = take s.cell_count s.cells

-- the records in use
abbrev pub used_records : Sheet → List Record
used_records s = take s.record_count s.records

-- the sheet as a result has it: each end in its one pattern, unused places zero
unfoldable pub tidied : Sheet → Sheet
tidied s =
    record {
      width = s.width;
      limit = s.limit;
      cell_count = s.cell_count;
      record_count = s.record_count;
      cells = filled 64 no_cell (map (canonical_cell s.width) (used_cells s)) s.cell_count;
      records = filled 128 no_record (used_records s) s.record_count;
    }

-- the sheet with other cells
abbrev pub with_cells : Sheet → List Interval → Sheet
with_cells s cells =
    record {
      width = s.width;
      limit = s.limit;
      cell_count = s.cell_count;
      record_count = s.record_count;
      cells = cells;
      records = s.records;
    }

-- ---- answers
-- how a call on a sheet went
abbrev pub Answer : Type 0
Answer = Result Unit Refusal

-- the second test where the first passed
abbrev pub and_then : Answer → Answer → Answer
and_then (Ok u) next = next
and_then (Err r) next = Err r

-- passed where the test holds, else the refusal of the reason at the place
abbrev pub require : Bool → Reason → ℕ → Answer
require ok reason place = cond ok (Ok tt) (Err (refusal_at reason place))

-- a fault's reason; where there is no fault, one that nothing reads
abbrev pub reason_of : Fault → Reason
reason_of (Ok u) = Reason.Malformed
reason_of (Err reason) = reason

-- a fault, at a place
abbrev pub fault_at : Fault → ℕ → Answer
fault_at fault place = require (is_ok fault) (reason_of fault) place

-- the new sheet where nothing is refused, else the old one
abbrev pub kept_by : Answer → Sheet → Sheet → Kept
kept_by (Ok u) old new = record { sheet = new; answer = Ok tt }
kept_by (Err r) old new = record { sheet = old; answer = Err r }

-- ---- opening
-- 1, 7; a refusal gives the sheet that is zero throughout
unfoldable pub open_of : ℕ → ℕ → Kept
open_of width limit = kept_by (fault_at (head_fault width limit) 0) (blank 0 0) (blank width limit)

-- ---- the test of a sheet handed in, in the order of lists
-- the first of a list's members with a fault; its place is its index, counted from i on
unfoldable pub first_fault : {A : Type 0} → (A → Fault) → ℕ → List A → Answer
first_fault fault i [] = Ok tt
first_fault fault i (v ∷ vs) = and_then (fault_at (fault v) i) (first_fault fault (i + 1) vs)

-- 1; 7; 10 for the cells, then for the records, at the first index too many; 2 and 3 cell by cell; 4 and 5 record by record
unfoldable pub test_lists : ℕ → ℕ → ℕ → ℕ → List Interval → List Record → Answer
test_lists width limit cell_count record_count cells records =
    and_then (fault_at (head_fault width limit) 0)
    (and_then (require (leb cell_count 64) Reason.Full 64)
    (and_then (require (leb record_count 128) Reason.Full 128)
    (and_then (first_fault (cell_fault width) 0 cells)
    (first_fault (record_fault cell_count) 0 records))))

-- the test of two lists, whose counts are their lengths
abbrev pub test_of_lists : ℕ → ℕ → List Interval → List Record → Answer
test_of_lists width limit cells records = test_lists width limit (length cells) (length records) cells records

-- the test of a kept sheet
abbrev pub test_of : Sheet → Answer
test_of s = test_lists s.width s.limit s.cell_count s.record_count (used_cells s) (used_records s)

-- a sheet with all its places that passes the test
pub record Sound (s : Sheet) : Type 0 where
  pub cells_long : length s.cells ≡ 64
  pub records_long : length s.records ≡ 128
  pub passes : test_of s ≡ Ok tt

-- ---- accepting a sheet that is handed in: its test, then its written form
unfoldable pub accept_of : Sheet → Kept
accept_of s = kept_by (test_of s) s (tidied s)

-- ---- adding
-- the sheet's own test, then the fault, then 10 where there is no room; place 0 for what is being added
abbrev pub add_test : Answer → Fault → Bool → Answer
add_test tested fault room = and_then tested (and_then (fault_at fault 0) (require room Reason.Full 0))

-- the sheet with a cell more
abbrev pub with_cell : Sheet → Interval → Sheet
with_cell s cell =
    record {
      width = s.width;
      limit = s.limit;
      cell_count = s.cell_count + 1;
      record_count = s.record_count;
      cells = set s.cells s.cell_count cell;
      records = s.records;
    }

-- the sheet with a record more
abbrev pub with_record : Sheet → Record → Sheet
with_record s r =
    record {
      width = s.width;
      limit = s.limit;
      cell_count = s.cell_count;
      record_count = s.record_count + 1;
      cells = s.cells;
      records = set s.records s.record_count r;
    }

-- adding a cell: 2, 3, 10
unfoldable pub add_cell_of : Sheet → Interval → Kept
add_cell_of s cell =
    kept_by (add_test (test_of s) (cell_fault s.width cell) (ltb s.cell_count 64))
    s
    (with_cell (tidied s) (canonical_cell s.width cell))

-- adding a record: 4, 5, 10
unfoldable pub add_record_of : Sheet → Record → Kept
add_record_of s r =
    kept_by (add_test (test_of s) (record_fault s.cell_count r) (ltb s.record_count 128))
    s
    (with_record (tidied s) r)
