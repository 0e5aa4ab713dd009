-- What a C program gets of one record over three cells, narrowed in one pass: the outcome's number and the cells' ends in its six words. Assumes nothing.
use Rattle.std.specs.Prelude.{◌≡◌, List, [], ◌∷◌, ℕ, get_or}
use Rattle.arith.specs.declared.interval.Interval.{Interval}
use Rattle.sheet.specs.declared.kept.Record.{Record}
use Rattle.sheet.specs.declared.kept.Sheet.{Sheet}
use Rattle.sheet.specs.Sheets.{no_cell, blank, with_cell, with_record}
use Rattle.propagation.specs.Calls.{outcome_number}
use Rattle.propagation.specs.Narrowings.{narrow_sheet_of}

-- the cell whose low end is word i, and its high end word j
abbrev pub cell_at : List ℕ → ℕ → ℕ → Interval
cell_at ends i j = record { low = get_or ends i 0; high = get_or ends j 0 }

-- three cells by their ends, low and high in turn, and one record; pass limit 1
abbrev pub sheet_with : ℕ → List ℕ → Record → Sheet
sheet_with width ends r = with_record (with_cell (with_cell (with_cell (blank width 1) (cell_at ends 0 1)) (cell_at ends 2 3)) (cell_at ends 4 5)) r

-- cell i of a sheet
abbrev pub cell_of : Sheet → ℕ → Interval
cell_of s i = get_or s.cells i no_cell

-- the ends of its first three cells, low and high in turn
abbrev pub ends_of : Sheet → List ℕ
ends_of s = (cell_of s 0).low ∷ (cell_of s 0).high ∷ (cell_of s 1).low ∷ (cell_of s 1).high ∷ (cell_of s 2).low ∷ (cell_of s 2).high ∷ []

-- what the export promises of the sheet s: the number r, and the words before and after
pub record NarrowsRecord (s : Sheet) (before : List ℕ) (r : ℕ) (after : List ℕ) : Type 0 where
  pub number : r ≡ outcome_number (narrow_sheet_of s).outcome
  pub ends : after ≡ ends_of (narrow_sheet_of s).sheet
  -- every refusal but 12 leaves the words as they were
  pub kept : (r ≡ 0 → ⊥) → (r ≡ 12 → ⊥) → after ≡ before
