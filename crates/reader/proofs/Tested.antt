-- The reader keeps the width and the counts, and gives every refusal itself: the sheet that its records fill passes the sheet's own test, and so does what is read. Rests on Moving, Following and Building.
use mathlib.Core.Path.{◌≡◌, sym, ap, ◌∙◌}
use mathlib.Core.List.{List, [], ◌∷◌, ◌++◌}
use Prim.Native.Nat.{ℕ, zero, suc, ◌+◌, ◌<◌}
use native.Mathlib.Omega.{arith}
use lib.ListN.{length}
use Rattle.arith.specs.declared.interval.Interval.{Interval}
use Rattle.sheet.specs.declared.kept.Record.{Record}
use Rattle.sheet.specs.declared.kept.Sheet.{Sheet}
use Rattle.sheet.specs.declared.kept.Kept.{Kept}
use Rattle.sheet.specs.Faults.{head_fault, cell_fault, record_fault}
use Rattle.sheet.specs.Sheets.{Answer, tidied, with_cell, with_record, kept_by, test_of, accept_of}
use Rattle.sheet.proofs.Records.{record_more}
use Rattle.sheet.proofs.Growing.{tidied_sound}
use Rattle.std.specs.Prelude.{Some, None, Ok, Err}
use Rattle.reader.specs.Steps.{Step, next_of, past, after_of, cursor_after}
use Rattle.reader.specs.Readings.{HasPlace, filled_by, sheet_after, read_sheet, read_by, read_of, Stops}
use Rattle.reader.specs.declared.cursor.Cursor.{Cursor}
use Rattle.reader.proofs.Moving.{Onto, StepFrom, a_head, a_cell, a_record, the_end, too_long, a_refusal, step_from_lem}
use Rattle.reader.proofs.Following.{Reached, read_stops, Reading}
use Rattle.reader.proofs.Building.{Faultless, faultless_append, Passing, loaded, length_more, load_cell, load_record, loaded_passes, loaded_sound}

-- ---- records without a fault have none where there is one cell more
records_more : (n : ℕ) (ts : List Record) → Faultless (record_fault n) ts → Faultless (record_fault (n + 1)) ts
records_more n [] f = tt
records_more n (t ∷ ts) f = (record_more n t f.0, records_more n ts f.1)

-- ---- the sheet filled so far, and the cursor that keeps its width and counts
record FilledSoFar (c : Cursor) (s : Sheet) : Type 0 where
  limit : ℕ
  cells : List Interval
  records : List Record
  is : s ≡ loaded c.width limit cells records
  passing : Passing c.width limit cells records
  cell_count : c.cell_count ≡ length cells
  record_count : c.record_count ≡ length records

-- a head
head_filled : (text : List ℕ) (c d : Cursor) (w m : ℕ) → head_fault w m ≡ Ok tt → Onto text c d w 0 0 → FilledSoFar d (loaded w m [] [])
head_filled text c d w m z o = record {
  limit = m;
  cells = [];
  records = [];
  is = rw o.width;
  passing = rw o.width (record { head = z; few_cells = omega arith; few_records = omega arith; cells = tt; records = tt });
  cell_count = o.cells;
  record_count = o.records;
}

module _ (text : List ℕ) (c d : Cursor) (s : Sheet) (k : FilledSoFar c s) where
  -- a cell
  cell_filled : (I : Interval) → cell_fault c.width I ≡ Ok tt → c.cell_count < 64 → Onto text c d c.width (c.cell_count + 1) c.record_count → FilledSoFar d (with_cell s I)
  cell_filled I z l o =
      let g = k.passing in
      let n : length k.cells < 64 = omega (arith, k.cell_count) in
      record {
        limit = k.limit;
        cells = k.cells ++ (I ∷ []);
        records = k.records;
        is = rw (k.is, o.width) (load_cell c.width k.limit k.cells k.records I n);
        passing = rw o.width (record {
          head = g.head;
          few_cells = omega (arith, length_more k.cells I);
          few_records = g.few_records;
          cells = faultless_append (cell_fault c.width) k.cells (I ∷ []) g.cells (z, tt);
          records = rw (length_more k.cells I) (records_more (length k.cells) k.records g.records);
        });
        cell_count = omega (arith, o.cells, k.cell_count, length_more k.cells I);
        record_count = o.records ∙ k.record_count;
      }

  -- a record over cells
  record_filled : (t : Record) → record_fault c.cell_count t ≡ Ok tt → c.record_count < 128 → Onto text c d c.width c.cell_count (c.record_count + 1) → FilledSoFar d (with_record s t)
  record_filled t z l o =
      let g = k.passing in
      let n : length k.records < 128 = omega (arith, k.record_count) in
      record {
        limit = k.limit;
        cells = k.cells;
        records = k.records ++ (t ∷ []);
        is = rw (k.is, o.width) (load_record c.width k.limit k.cells k.records t n);
        passing = rw o.width (record {
          head = g.head;
          few_cells = g.few_cells;
          few_records = omega (arith, length_more k.records t);
          cells = g.cells;
          records = faultless_append (record_fault (length k.cells)) k.records (t ∷ []) g.records (rw k.cell_count at z, tt);
        });
        cell_count = o.cells ∙ k.cell_count;
        record_count = omega (arith, o.records, k.record_count, length_more k.records t);
      }

-- ---- after any number of records; where a cursor is past the start, a head was read
step_filled : (text : List ℕ) (c : Cursor) (s : Sheet) → (0 < c.at → FilledSoFar c s) → (t : Step) → StepFrom text c t → 0 < (past t c).at → FilledSoFar (past t c) (filled_by t s)
step_filled text c s k t (a_head {w = w} {m = m} {d = d} z f o) h = head_filled text c d w m f o
step_filled text c s k t (a_cell {I = I} {d = d} p f l o) h = cell_filled text c d s (k p) I f l o
step_filled text c s k t (a_record {t = v} {d = d} p f l o) h = record_filled text c d s (k p) v f l o
step_filled text c s k t (the_end p) h = k h
step_filled text c s k t (too_long l) h = k h
step_filled text c s k t (a_refusal n) h = k h

so_far : (n : ℕ) (text : List ℕ) → 0 < (cursor_after n text).at → FilledSoFar (cursor_after n text) (sheet_after n text)
unfolding cursor_after after_of sheet_after
so_far zero text h = absurd (omega arith)
so_far (suc n) text h = step_filled text (cursor_after n text) (sheet_after n text) (so_far n text) (next_of text (cursor_after n text)) (step_from_lem text (cursor_after n text)) h

reached_filled : {text : List ℕ} {n : ℕ} {c : Cursor} {s : Sheet} → Reached text n c s → 0 < c.at → FilledSoFar c s
reached_filled {text} {n} {c} {s} r h = rw (← r.cursor, ← r.sheet) (so_far n text (rw r.cursor h))

-- past the start, the cursor's width and counts are those of the sheet that the records before it fill
pub kept_counts :
    (n : ℕ) (text : List ℕ) → 0 < (cursor_after n text).at →
    ((cursor_after n text).width ≡ (sheet_after n text).width)
    × ((cursor_after n text).cell_count ≡ (sheet_after n text).cell_count)
    × ((cursor_after n text).record_count ≡ (sheet_after n text).record_count)
kept_counts n text h =
    let k = so_far n text h in
    (ap (λ (s : Sheet). s.width) (sym k.is), k.cell_count ∙ ap (λ (s : Sheet). s.cell_count) (sym k.is), k.record_count ∙ ap (λ (s : Sheet). s.record_count) (sym k.is))

-- and this sheet passes its own test
filled_passes : {c : Cursor} {s : Sheet} → FilledSoFar c s → test_of s ≡ Ok tt
filled_passes {c} k = rw k.is (loaded_passes c.width k.limit k.cells k.records k.passing)

pub read_passes : (n : ℕ) (text : List ℕ) → 0 < (cursor_after n text).at → test_of (sheet_after n text) ≡ Ok tt
read_passes n text h = filled_passes (so_far n text h)

-- ---- while a text is read: there is a place for what the cursor gives, and at the end the sheet is accepted
abbrev pub Fits : Sheet → Step → Type 0
Fits s (Ok (Some r)) = HasPlace s r.entry
Fits s (Ok None) = accept_of s ≡ read_sheet s
Fits s (Err r) = Unit {0}

step_fits : (text : List ℕ) (c : Cursor) (s : Sheet) → (0 < c.at → FilledSoFar c s) → (t : Step) → StepFrom text c t → Fits s t
unfolding accept_of
step_fits text c s k t (a_head z f o) = tt
step_fits text c s k t (a_cell p f l o) = let u = k p in rw (u.is, ← u.cell_count) l
step_fits text c s k t (a_record p f l o) = let u = k p in rw (u.is, ← u.record_count) l
step_fits text c s k t (the_end p) = ap (λ (a : Answer). kept_by a s (tidied s)) (filled_passes (k p))
step_fits text c s k t (too_long l) = tt
step_fits text c s k t (a_refusal n) = tt

pub fits : {text : List ℕ} {c : Cursor} {s : Sheet} → Reading text c s → Fits s (next_of text c)
fits {text} {c} {s} r = step_fits text c s (reached_filled r.reached) (next_of text c) (step_from_lem text c)

-- ---- the whole text: what is read passes the test
by_tested : (text : List ℕ) (c : Cursor) (s r : Sheet) → (0 < c.at → FilledSoFar c s) → (t : Step) → StepFrom text c t → Stops t → read_by t s ≡ record { sheet = r; answer = Ok tt } → test_of r ≡ Ok tt
by_tested text c s r k (Ok (Some q)) g h e = absurd h
by_tested text c s r k (Ok None) (the_end p) h e =
    let u = k p in
    let f : r ≡ tidied (loaded c.width u.limit u.cells u.records) = sym (ap (λ (a : Kept). a.sheet) e) ∙ ap tidied u.is in
    rw f (tidied_sound _ (loaded_sound c.width u.limit u.cells u.records u.passing)).passes
by_tested text c s r k (Err q) g h e = let a = ap (λ (a : Kept). a.answer) e in absurd (let z : ◌≡◌ {A = ℕ} 0 1 = cc in omega arith)

pub read_tested : (text : List ℕ) (s : Sheet) → read_of text ≡ record { sheet = s; answer = Ok tt } → test_of s ≡ Ok tt
unfolding read_of
read_tested text s e =
    let n = length text in
    let c = cursor_after n text in
    by_tested text c (sheet_after n text) s (so_far n text) (next_of text c) (step_from_lem text c) (read_stops text) e
