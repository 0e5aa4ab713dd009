-- What a step tells is the reply due at the cursor, test by test; where the cursor stays; and what a whole text tells. Rests on Staying.
use mathlib.Core.Path.{◌≡◌, refl, sym, ap, subst, ◌∙◌}
use mathlib.Core.Bool.{Bool, true, false, not, cond}
use mathlib.Core.List.{List}
use Prim.Native.Nat.{ℕ}
use lib.Dec.{eqb, ltb}
use lib.ListN.{length, drop}
use Rattle.arith.specs.Answers.{Reply, refuses}
use Rattle.arith.specs.declared.refusal.Reason.{Reason}
use Rattle.arith.specs.Refusals.{refusal_at, tested}
use Rattle.arith.specs.Replies.{reply_after}
use Rattle.arith.proofs.Replies.{on_test}
use Rattle.sheet.specs.declared.kept.Sheet.{Sheet}
use Rattle.sheet.specs.declared.kept.Kept.{Kept}
use Rattle.sheet.specs.Faults.{Fault, head_fault, cell_fault, record_fault}
use Rattle.sheet.specs.Sheets.{reason_of, blank}
use Rattle.sheet.specs.Replies.{kept_told}
use Rattle.reader.specs.Bytes.{index_of, before}
use Rattle.reader.specs.Lines.{feed, line_of}
use Rattle.std.specs.Prelude.{Option, Some, None, Result, Ok, Err, is_ok}
use Rattle.std.specs.Result.{result_and}
use Rattle.reader.specs.Steps.{Step, head_step, cell_step, record_step, counted, step_by, admitted, past_line, step_at, next_of, past, after_of}
use Rattle.reader.specs.Replies.{step_told, line_tests, line_values, reply_at, reply_next, Tells}
use Rattle.reader.specs.Readings.{sheet_after, read_by, stop_of, read_of, ReadsText}
use Rattle.reader.specs.declared.entry.Entry.{Entry}
use Rattle.reader.specs.declared.cursor.Cursor.{Cursor}
use Rattle.reader.proofs.Staying.{stays_ended}

-- ---- one test
-- a step that refuses where it holds; the reply's test is its opposite
not_told : (t : Bool) (a b : Step) {due other : Reply ℕ} → step_told a ≡ other → step_told b ≡ due → step_told (cond t a b) ≡ cond (not t) due other
not_told true a b e f = e
not_told false a b e f = f

-- ---- a line
-- what the cursor after an entry tells
abbrev told_by : Entry → ℕ → Result Cursor Reason → Reply ℕ
told_by e line r = step_told (step_by e line r)

-- a fault refuses at the line; where there is none, what stands behind it tells
fault_told : (e : Entry) (line : ℕ) (f : Fault) (rest : Result Cursor Reason) {due : Reply ℕ} → told_by e line rest ≡ due → told_by e line (result_and f rest) ≡ cond (is_ok f) due (refuses (refusal_at (reason_of f) line))
fault_told e line (Ok u) rest t = t
fault_told e line (Err reason) rest t = refl

-- the same of a test
test_told : (e : Entry) (line : ℕ) (ok : Bool) (reason : Reason) (rest : Result Cursor Reason) {due : Reply ℕ} → told_by e line rest ≡ due → told_by e line (result_and (tested ok reason) rest) ≡ cond ok due (refuses (refusal_at reason line))
test_told e line true reason rest t = t
test_told e line false reason rest t = refl

line_told : (l : Option Entry) (n : ℕ) (c : Cursor) → step_told (admitted l c.line (past_line n c)) ≡ reply_after (line_tests l c) (line_values l)
unfolding admitted counted head_step cell_step record_step
line_told (Some (Entry.Head w m)) n c = fault_told (Entry.Head w m) c.line (head_fault w m) _ refl
line_told (Some (Entry.Cell I)) n c = fault_told (Entry.Cell I) c.line (cell_fault c.width I) _ (test_told (Entry.Cell I) c.line (ltb c.cell_count 64) Reason.Full _ refl)
line_told (Some (Entry.Record t)) n c = fault_told (Entry.Record t) c.line (record_fault c.cell_count t) _ (test_told (Entry.Record t) c.line (ltb c.record_count 128) Reason.Full _ refl)
line_told None n c = refl

-- ---- a text
pub at_told : (ahead : List ℕ) (c : Cursor) → step_told (step_at ahead c) ≡ reply_at ahead c
unfolding step_at reply_at
at_told ahead c =
    on_test step_told (ltb (index_of feed ahead) (length ahead)) _ _
    (λ _. line_told (line_of c.at c.width (before feed ahead)) (index_of feed ahead) c)
    (on_test step_told (eqb (length ahead) 0) _ _ (λ _. not_told (eqb c.at 0) _ _ refl refl) refl)

pub next_told : (text : List ℕ) (c : Cursor) → step_told (next_of text c) ≡ reply_next text c
unfolding next_of reply_next
next_told text c = on_test step_told (ltb 8192 (length text)) _ _ (λ _. refl) (at_told (drop c.at text) c)

-- a refused record is stayed at, by the number that its step tells
past_refused : (s : Step) (c : Cursor) → ((step_told s).number ≡ 0 → ⊥) → past s c ≡ c
past_refused (Ok (Some r)) c n = absurd (n refl)
past_refused (Ok None) c n = refl
past_refused (Err r) c n = refl

pub step_tells : (text : List ℕ) (c : Cursor) → Tells text c (next_of text c) (after_of text c)
unfolding after_of
step_tells text c = record { told = next_told text c; refused = past_refused (next_of text c) c; ended = stays_ended text c }

-- ---- a whole text, by the step at which its reader stops
stop_number : (t : Step) (s : Sheet) → (kept_told (read_by t s)).number ≡ (step_told t).number
stop_number (Ok (Some r)) s = refl
stop_number (Ok None) s = refl
stop_number (Err r) s = refl

stop_place : (t : Step) (s : Sheet) → (kept_told (read_by t s)).place ≡ (step_told t).place
stop_place (Ok (Some r)) s = refl
stop_place (Ok None) s = refl
stop_place (Err r) s = refl

stop_refused : (t : Step) (s : Sheet) → ((kept_told (read_by t s)).number ≡ 0 → ⊥) → (read_by t s).sheet ≡ blank 0 0
stop_refused (Ok r) s n = absurd (n refl)
stop_refused (Err r) s n = refl

pub text_read : (text : List ℕ) {k : Kept} → k ≡ read_of text → ReadsText text k
unfolding read_of
text_read text e =
    let t = next_of text (stop_of text) in
    let s = sheet_after (length text) text in
    subst (ReadsText text) (sym e) (record {
      answer = refl;
      number = stop_number t s ∙ ap (λ (d : Reply ℕ). d.number) (next_told text (stop_of text));
      place = stop_place t s ∙ ap (λ (d : Reply ℕ). d.place) (next_told text (stop_of text));
      refused = stop_refused t s;
    })
