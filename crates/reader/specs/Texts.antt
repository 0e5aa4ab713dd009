-- 01's text of a kept sheet: its head, then its cells and its records, a line each; and the sheet of such lists. Assumes nothing.
use Rattle.std.specs.Prelude.{ℕ, List, [], ◌∷◌, ◌++◌, map, length}
use Rattle.arith.specs.declared.interval.Interval.{Interval}
use Rattle.sheet.specs.declared.kept.Record.{Record}
use Rattle.sheet.specs.declared.kept.Sheet.{Sheet}
use Rattle.sheet.specs.declared.kind.Kind.{Kind}
use Rattle.sheet.specs.declared.kind.Kind.TheVariants.{Sum, Diff, Neg}
use Rattle.sheet.specs.Kinds.{kind_of}
use Rattle.sheet.specs.Cells.{canonical_cell}
use Rattle.sheet.specs.Sheets.{no_cell, no_record, filled, used_cells, used_records}
use Rattle.reader.specs.Lines.{tab, feed, sheet_word, cell_word, sum_word, diff_word, neg_word}
use Rattle.reader.specs.Digits.{decimal_of, hex_of}

-- ---- the lines, without their line feeds
-- `sheet`, width, pass limit
unfoldable pub head_text : ℕ → ℕ → List ℕ
head_text w m = sheet_word ++ (tab ∷ (decimal_of w ++ (tab ∷ decimal_of m)))

-- `cell`, low, high
unfoldable pub cell_text : ℕ → Interval → List ℕ
cell_text w I = cell_word ++ (tab ∷ (hex_of w I.low ++ (tab ∷ hex_of w I.high)))

-- two cell numbers
abbrev pub pair_text : ℕ → ℕ → List ℕ
pair_text x a = decimal_of x ++ (tab ∷ decimal_of a)

-- the three of a record
abbrev pub triple_text : Record → List ℕ
triple_text t = decimal_of t.x ++ (tab ∷ pair_text t.a t.b)

-- `sum` or `diff`, x, a, b; `neg`, x, y
abbrev pub kind_text : Kind → Record → List ℕ
kind_text Sum t = sum_word ++ (tab ∷ triple_text t)
kind_text Diff t = diff_word ++ (tab ∷ triple_text t)
kind_text Neg t = neg_word ++ (tab ∷ pair_text t.x t.a)

-- a record over cells
unfoldable pub record_text : Record → List ℕ
record_text t = kind_text (kind_of t.kind) t

-- ---- the text
-- a line for each member of a list
unfoldable pub text_lines : {A : Type 0} → (A → List ℕ) → List A → List ℕ
text_lines line [] = []
text_lines line (v ∷ vs) = line v ++ (feed ∷ text_lines line vs)

-- the text of a head, cells and records
abbrev pub text_for : ℕ → ℕ → List Interval → List Record → List ℕ
text_for w m cells records = head_text w m ++ (feed ∷ (text_lines (cell_text w) cells ++ text_lines record_text records))

-- the kept sheet with these cells and records in use: each end in its one pattern, unused places zero
abbrev pub built : ℕ → ℕ → List Interval → List Record → Sheet
built w m cells records =
    record {
      width = w;
      limit = m;
      cell_count = length cells;
      record_count = length records;
      cells = filled 64 no_cell (map (canonical_cell w) cells) (length cells);
      records = filled 128 no_record records (length records);
    }

-- the whole text of a sheet
unfoldable pub text_of : Sheet → List ℕ
text_of s = text_for s.width s.limit (used_cells s) (used_records s)
