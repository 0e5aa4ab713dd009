-- 01's replies that are due from a text at a cursor: its tests in their order, then the fields of the record. Assumes nothing.
use Rattle.std.specs.Prelude.{◌≡◌, false, not, cond, List, [], ◌∷◌, ℕ, eqb, ltb, length, drop, Option, Some, None, Ok}
use Rattle.arith.specs.declared.refusal.Reason.{Reason}
use Rattle.arith.specs.Refusals.{refusal}
use Rattle.arith.specs.Answers.{Reply, refuses, two_ends, told}
use Rattle.arith.specs.Replies.{Test, reply_after}
use Rattle.sheet.specs.Faults.{head_fault, cell_fault, record_fault}
use Rattle.sheet.specs.Replies.{test_at, faultless}
use Rattle.reader.specs.Bytes.{index_of, before}
use Rattle.reader.specs.Lines.{feed, line_of}
use Rattle.reader.specs.Steps.{Step}
use Rattle.reader.specs.declared.entry.Entry.{Entry}
use Rattle.reader.specs.declared.entry.Entry.TheVariants.{Head, Cell, Record}
use Rattle.reader.specs.declared.cursor.Cursor.{Cursor}
use Rattle.reader.specs.declared.cursor.Read.{Read}

-- the fields of a record
abbrev pub entry_values : Entry → List ℕ
entry_values (Head w m) = w ∷ m ∷ []
entry_values (Cell I) = two_ends I
entry_values (Record t) = t.kind ∷ t.x ∷ t.a ∷ t.b ∷ []

-- what stands at a cursor: the fields of a record, or nothing at the end
abbrev pub read_values : Option Read → List ℕ
read_values (Some r) = entry_values r.entry
read_values None = []

-- what each case tells: these, or the refusal
abbrev pub step_told : Step → Reply ℕ
step_told = told read_values

-- ---- a line at the cursor; a refusal's place is the cursor's line
-- 4; and after it 1, 7 for a head, 2, 3, 10 for a cell, 5, 10 for a record over cells
abbrev pub line_tests : Option Entry → Cursor → List Test
line_tests (Some (Head w m)) c = faultless (head_fault w m) c.line ∷ []
line_tests (Some (Cell I)) c = faultless (cell_fault c.width I) c.line ∷ test_at (ltb c.cell_count 64) Reason.Full c.line ∷ []
line_tests (Some (Record t)) c = faultless (record_fault c.cell_count t) c.line ∷ test_at (ltb c.record_count 128) Reason.Full c.line ∷ []
line_tests None c = test_at false Reason.Malformed c.line ∷ []

-- its fields
abbrev pub line_values : Option Entry → List ℕ
line_values (Some e) = entry_values e
line_values None = []

-- ---- a text
-- with `ahead` still to be read: a line, or where no line feed is left, the end: 4 for bytes without a line feed and for a text without a head
unfoldable pub reply_at : List ℕ → Cursor → Reply ℕ
reply_at ahead c =
    let line = line_of c.at c.width (before feed ahead) in
    cond (ltb (index_of feed ahead) (length ahead))
    (reply_after (line_tests line c) (line_values line))
    (reply_after (test_at (eqb (length ahead) 0) Reason.Malformed c.line ∷ test_at (not (eqb c.at 0)) Reason.Malformed c.line ∷ []) [])

-- what is due at the cursor: 8, then the line there
unfoldable pub reply_next : List ℕ → Cursor → Reply ℕ
reply_next text c = cond (ltb 8192 (length text)) (refuses (refusal Reason.TooLong)) (reply_at (drop c.at text) c)

-- ---- what a step from a cursor promises: the reply due, and that a refused record and the end are stayed at
pub record Tells (text : List ℕ) (c : Cursor) (step : Step) (after : Cursor) : Type 0 where
  pub told : step_told step ≡ reply_next text c
  pub refused : ((step_told step).number ≡ 0 → ⊥) → after ≡ c
  pub ended : step ≡ Ok None → after ≡ c
