-- What 01's reader gives at a cursor: the record there, the end of the text, or a refusal with its line. Assumes nothing.
use Rattle.std.specs.Prelude.{ℕ, zero, suc, ◌+◌, min, cond, List, [], length, take, drop, eqb, ltb, Option, Some, None, Result, Ok, Err}
use Rattle.arith.specs.declared.interval.Interval.{Interval}
use Rattle.std.specs.Result.{result_and}
use Rattle.arith.specs.declared.refusal.Reason.{Reason}
use Rattle.arith.specs.declared.refusal.Refusal.{Refusal}
use Rattle.arith.specs.Refusals.{refusal_at, tested}
use Rattle.sheet.specs.declared.kept.Record.{Record}
use Rattle.sheet.specs.Faults.{head_fault, cell_fault, record_fault}
use Rattle.reader.specs.Bytes.{index_of, before, count_of}
use Rattle.reader.specs.Lines.{feed, line_of}
use Rattle.reader.specs.declared.entry.Entry.{Entry}
use Rattle.reader.specs.declared.cursor.Cursor.{Cursor}
use Rattle.reader.specs.declared.cursor.Read.{Read}
use Rattle.reader.specs.declared.cursor.Moved.{Moved}

-- what stands at a cursor: a record, none at the end of the text, or a refusal
abbrev pub Step : Type 0
Step = Result (Option Read) Refusal

-- the cursor at the start of a text
abbrev pub start : Cursor
start = record { at = 0; line = 1; width = 0; cell_count = 0; record_count = 0 }

-- a refusal, with the line as its place
abbrev pub refused_at : Reason → ℕ → Step
refused_at reason line = Err (refusal_at reason line)

-- ---- the cursor after a record whose line is well formed; the cursor c stands past the line, with the record not yet counted
-- a head, in the order of opening: 1, 7. Cells and records are counted from it on
unfoldable pub head_step : ℕ → ℕ → Cursor → Result Cursor Reason
head_step w m c =
    result_and (head_fault w m)
    (Ok (record { at = c.at; line = c.line; width = w; cell_count = 0; record_count = 0 }))

-- a cell, in the order of adding: 2, 3, 10
unfoldable pub cell_step : Interval → Cursor → Result Cursor Reason
cell_step I c =
    result_and (cell_fault c.width I)
    (result_and (tested (ltb c.cell_count 64) Reason.Full)
    (Ok (record { at = c.at; line = c.line; width = c.width; cell_count = c.cell_count + 1; record_count = c.record_count })))

-- a record over cells, in the order of adding: 5, 10; its kind is that of its word, so there is no 4
unfoldable pub record_step : Record → Cursor → Result Cursor Reason
record_step t c =
    result_and (record_fault c.cell_count t)
    (result_and (tested (ltb c.record_count 128) Reason.Full)
    (Ok (record { at = c.at; line = c.line; width = c.width; cell_count = c.cell_count; record_count = c.record_count + 1 })))

-- each entry by its own
unfoldable pub counted : Entry → Cursor → Result Cursor Reason
counted (Entry.Head w m) c = head_step w m c
counted (Entry.Cell I) c = cell_step I c
counted (Entry.Record t) c = record_step t c

-- ---- a line: 4, and after it the refusals of its record
-- an entry with the cursor after it
abbrev pub read_step : Entry → Cursor → Step
read_step e d = Ok (Some (record { entry = e; next = d }))

-- the same, or the refusal of the reason at the line
abbrev pub step_by : Entry → ℕ → Result Cursor Reason → Step
step_by e line (Ok d) = read_step e d
step_by e line (Err reason) = refused_at reason line

-- what a line gives: 4 where it is malformed, else its entry, counted
unfoldable pub admitted : Option Entry → ℕ → Cursor → Step
admitted (Some e) line c = step_by e line (counted e c)
admitted None line c = refused_at Reason.Malformed line

-- the line after a line; the greatest number that a cursor can keep is stayed at
unfoldable pub line_after : ℕ → ℕ
line_after line = cond (eqb line 18446744073709551615) line (line + 1)

-- the cursor past a line of n bytes and its line feed
abbrev pub past_line : ℕ → Cursor → Cursor
past_line n c = record { at = c.at + n + 1; line = line_after c.line; width = c.width; cell_count = c.cell_count; record_count = c.record_count }

-- ---- a text
-- with `ahead` still to be read: a line, or where no line feed is left, the end: 4 for bytes without a line feed and for a text without a head. A refusal's line is the one that the cursor keeps
unfoldable pub step_at : List ℕ → Cursor → Step
step_at ahead c =
    cond (ltb (index_of feed ahead) (length ahead))
    (admitted (line_of c.at c.width (before feed ahead)) c.line (past_line (index_of feed ahead) c))
    (cond (eqb (length ahead) 0) (cond (eqb c.at 0) (refused_at Reason.Malformed c.line) (Ok None)) (refused_at Reason.Malformed c.line))

-- what stands at the cursor: 8, then the line there
unfoldable pub next_of : List ℕ → Cursor → Step
next_of text c = cond (ltb 8192 (length text)) (refused_at Reason.TooLong 0) (step_at (drop c.at text) c)

-- the cursor after a step: a refused record and the end are stayed at
abbrev pub past : Step → Cursor → Cursor
past (Ok (Some r)) c = r.next
past (Ok None) c = c
past (Err r) c = c

-- the cursor after the record at the cursor
unfoldable pub after_of : List ℕ → Cursor → Cursor
after_of text c = past (next_of text c) c

-- the step from a cursor, and the cursor after it
unfoldable pub advance_of : List ℕ → Cursor → Moved
advance_of text c = record { cursor = after_of text c; step = next_of text c }

-- the cursor after the first n records
unfoldable pub cursor_after : ℕ → List ℕ → Cursor
cursor_after zero text = start
cursor_after (suc n) text = after_of text (cursor_after n text)

-- the part of the text that the record at the cursor occupies, without its line feed; empty for refusal 8
unfoldable pub record_at : List ℕ → Cursor → List ℕ
record_at text c = cond (ltb 8192 (length text)) [] (before feed (drop c.at text))

-- where this part begins in the text: at the cursor's position, or at the end of the text where that lies past it; for refusal 8 at the start
unfoldable pub record_start : List ℕ → Cursor → ℕ
record_start text c = cond (ltb 8192 (length text)) 0 (min c.at (length text))

-- 01's line at a position, from 1: one more than the line feeds before it. A cursor reached from the start keeps it (`kept_line`, proofs/Placing)
unfoldable pub line_number : List ℕ → ℕ → ℕ
line_number text at = count_of feed (take at text) + 1
