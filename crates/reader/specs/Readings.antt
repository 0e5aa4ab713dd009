-- A whole text read as a kept sheet: each record takes the next place, and at the end the sheet is written in its one form. Assumes nothing.
use Rattle.std.specs.Prelude.{◌≡◌, ℕ, zero, suc, ◌<◌, ◌≤◌, List, length, Some, None, Ok, Err}
use Rattle.arith.specs.declared.refusal.Refusal.{Refusal}
use Rattle.sheet.specs.declared.kept.Sheet.{Sheet}
use Rattle.sheet.specs.declared.kept.Kept.{Kept}
use Rattle.sheet.specs.Sheets.{blank, tidied, with_cell, with_record}
use Rattle.sheet.specs.Replies.{kept_told}
use Rattle.reader.specs.Steps.{Step, next_of, cursor_after, line_number}
use Rattle.reader.specs.Replies.{reply_next}
use Rattle.reader.specs.declared.cursor.Cursor.{Cursor}
use Rattle.reader.specs.declared.entry.Entry.{Entry}
use Rattle.reader.specs.declared.entry.Entry.TheVariants.{Head, Cell, Record}

-- ---- the sheet that the records fill; the cursor has tested each (`read_passes`, proofs/Tested)
-- with one record more: a head gives the width and the limit, a cell and a record over cells take the next place
abbrev pub with_entry : Entry → Sheet → Sheet
with_entry (Head w m) s = blank w m
with_entry (Cell I) s = with_cell s I
with_entry (Record t) s = with_record s t

-- there is a place for the record that comes next
abbrev pub HasPlace : Sheet → Entry → Type 0
HasPlace s (Head w m) = Unit {0}
HasPlace s (Cell I) = s.cell_count < 64
HasPlace s (Record t) = s.record_count < 128

-- with one step more
abbrev pub filled_by : Step → Sheet → Sheet
filled_by (Ok (Some r)) s = with_entry r.entry s
filled_by (Ok None) s = s
filled_by (Err r) s = s

-- after the first n records
unfoldable pub sheet_after : ℕ → List ℕ → Sheet
sheet_after zero text = blank 0 0
sheet_after (suc n) text = filled_by (next_of text (cursor_after n text)) (sheet_after n text)

-- ---- the whole text
-- a refused text leaves the blank sheet; its place is 01's line of the record refused (`refused_line`, proofs/Placing)
abbrev pub refused_text : Refusal → Kept
refused_text r = record { sheet = blank 0 0; answer = Err r }

-- each end in its one pattern
abbrev pub read_sheet : Sheet → Kept
read_sheet s = record { sheet = tidied s; answer = Ok tt }

-- at a refused record the refusal, else the sheet
abbrev pub read_by : Step → Sheet → Kept
read_by (Ok r) s = read_sheet s
read_by (Err r) s = refused_text r

-- where the reader stops: a record takes at least a byte, so after as many records as the text has bytes it stands at the end or at the refused one (`read_stops`, proofs/Following), where it stays
abbrev pub stop_of : List ℕ → Cursor
stop_of text = cursor_after (length text) text

-- reading: what is due there, of the sheet that the records before it fill
unfoldable pub read_of : List ℕ → Kept
read_of text = read_by (next_of text (stop_of text)) (sheet_after (length text) text)

-- what reading promises: the answer with its sheet; the number and place of the reply due where the reader stops; and that a refused text leaves the blank sheet
pub record ReadsText (text : List ℕ) (k : Kept) : Type 0 where
  pub answer : k ≡ read_of text
  pub number : (kept_told k).number ≡ (reply_next text (stop_of text)).number
  pub place : (kept_told k).place ≡ (reply_next text (stop_of text)).place
  pub refused : ((kept_told k).number ≡ 0 → ⊥) → k.sheet ≡ blank 0 0

-- ---- what is shown of it
-- the end, or a refused record
abbrev pub Stops : Step → Type 0
Stops (Ok (Some r)) = ⊥
Stops (Ok None) = Unit {0}
Stops (Err r) = Unit {0}

-- a refused text: after so many records stands the one that is refused, and its line is the place; refusal 8 has none
pub record RefusedIn (text : List ℕ) (r : Refusal) : Type 0 where
  pub records : ℕ
  pub there : next_of text (cursor_after records text) ≡ Err r
  pub line : length text ≤ 8192 → r.place ≡ line_number text (cursor_after records text).at
