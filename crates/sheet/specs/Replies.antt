-- 01's replies that are due from a kept sheet: its tests in their order, each with the place of its refusal, then the new sheet. Assumes nothing.
use Rattle.std.specs.Prelude.{◌≡◌, Bool, List, [], ◌∷◌, ◌++◌, ℕ, ◌+◌, leb, ltb, is_ok}
use Rattle.arith.specs.declared.refusal.Reason.{Reason}
use Rattle.arith.specs.declared.interval.Interval.{Interval}
use Rattle.arith.specs.Refusals.{refusal_at}
use Rattle.arith.specs.Answers.{Reply, told}
use Rattle.arith.specs.Replies.{Test, reply_after}
use Rattle.sheet.specs.declared.kept.Record.{Record}
use Rattle.sheet.specs.declared.kept.Sheet.{Sheet}
use Rattle.sheet.specs.declared.kept.Kept.{Kept}
use Rattle.sheet.specs.Faults.{Fault, head_fault, cell_fault, record_fault}
use Rattle.sheet.specs.Sheets.{reason_of, used_cells, used_records}

-- ---- tests
-- a condition, with the reason and the place of its refusal
abbrev pub test_at : Bool → Reason → ℕ → Test
test_at ok reason place = (ok, refusal_at reason place)

-- that there is no fault
abbrev pub faultless : Fault → ℕ → Test
faultless fault place = test_at (is_ok fault) (reason_of fault) place

-- the same of a list's members, one by one; the place is the index, counted from i on
unfoldable pub all_faultless : {A : Type 0} → (A → Fault) → ℕ → List A → List Test
all_faultless fault i [] = []
all_faultless fault i (v ∷ vs) = faultless (fault v) i ∷ all_faultless fault (i + 1) vs

-- opening: 1, 7
abbrev pub open_tests : ℕ → ℕ → List Test
open_tests width limit = faultless (head_fault width limit) 0 ∷ []

-- lists: 1; 7; 10 for the cells, then for the records, at the first index too many; 2 and 3 cell by cell; 4 and 5 record by record
abbrev pub list_tests : ℕ → ℕ → ℕ → ℕ → List Interval → List Record → List Test
list_tests width limit cell_count record_count cells records =
    open_tests width limit ++
    test_at (leb cell_count 64) Reason.Full 64 ∷
    test_at (leb record_count 128) Reason.Full 128 ∷
    (all_faultless (cell_fault width) 0 cells ++ all_faultless (record_fault cell_count) 0 records)

-- a kept sheet handed in, in the order of lists
abbrev pub sheet_tests : Sheet → List Test
sheet_tests s = list_tests s.width s.limit s.cell_count s.record_count (used_cells s) (used_records s)

-- adding a cell: the sheet's own tests; 2, 3, 10 at place 0
abbrev pub add_cell_tests : Sheet → Interval → List Test
add_cell_tests s cell = sheet_tests s ++ faultless (cell_fault s.width cell) 0 ∷ test_at (ltb s.cell_count 64) Reason.Full 0 ∷ []

-- adding a record: the sheet's own tests; 4, 5, 10 at place 0
abbrev pub add_record_tests : Sheet → Record → List Test
add_record_tests s r = sheet_tests s ++ faultless (record_fault s.cell_count r) 0 ∷ test_at (ltb s.record_count 128) Reason.Full 0 ∷ []

-- ---- what each case tells
-- a call on a sheet: the sheet after it
abbrev pub kept_told : Kept → Reply Sheet
kept_told k = told (λ _. k.sheet ∷ []) k.answer

-- ---- what a call promises: the new sheet after these tests, and that a refusal hands the old one back
pub record Keeps (old new : Sheet) (tests : List Test) (r : Kept) : Type 0 where
  pub told : kept_told r ≡ reply_after tests (new ∷ [])
  pub kept : ((kept_told r).number ≡ 0 → ⊥) → r.sheet ≡ old
