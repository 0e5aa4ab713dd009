-- Reading a text record by record: the cursor and the sheet after so many records, that they stay where the reader stops, and that it stops within as many records as the text has bytes. Rests on specs/Readings and Moving.
use mathlib.Core.Path.{◌≡◌, refl, subst}
use mathlib.Core.List.{List}
use Prim.Native.Nat.{ℕ, zero, suc, ◌+◌, ◌-◌, ◌<◌, ◌≤◌}
use native.Mathlib.Nat.{add-suc}
use native.Mathlib.Omega.{arith}
use lib.ListN.{length}
use Rattle.sheet.specs.declared.kept.Sheet.{Sheet}
use Rattle.sheet.specs.Sheets.{blank}
use Rattle.std.specs.Prelude.{Some, None, Ok, Err}
use Rattle.reader.specs.Steps.{Step, start, next_of, past, after_of, cursor_after}
use Rattle.reader.specs.Readings.{with_entry, filled_by, sheet_after, refused_text, read_sheet, read_by, read_of, Stops}
use Rattle.reader.specs.declared.cursor.Cursor.{Cursor}
use Rattle.reader.specs.declared.cursor.Read.{Read}
use Rattle.reader.proofs.Moving.{Beyond, StepFrom, read_beyond, step_from_lem}

module _ (text : List ℕ) where
  -- ---- the state after n records
  pub record Reached (n : ℕ) (c : Cursor) (s : Sheet) : Type 0 where
    pub cursor : cursor_after n text ≡ c
    pub sheet : sheet_after n text ≡ s

  pub reached_first : Reached 0 start (blank 0 0)
  unfolding cursor_after sheet_after
  reached_first = record { cursor = refl; sheet = refl }

  -- one step more
  pub reached_next : {n : ℕ} {c : Cursor} {s : Sheet} → Reached n c s → (t : Step) → next_of text c ≡ t → Reached (suc n) (past t c) (filled_by t s)
  unfolding cursor_after after_of sheet_after
  reached_next {n} {c} {s} r t e = record { cursor = rw (r.cursor, e); sheet = rw (r.cursor, e, r.sheet) }

  -- ---- where the reader stops it stays
  stop_stays : {n : ℕ} {c : Cursor} {s : Sheet} → Reached n c s → (t : Step) → next_of text c ≡ t → Stops t → Reached (suc n) c s
  stop_stays r (Ok (Some q)) e h = absurd h
  stop_stays r (Ok None) e h = reached_next r (Ok None) e
  stop_stays r (Err q) e h = reached_next r (Err q) e

  stays : {n : ℕ} {c : Cursor} {s : Sheet} → Reached n c s → Stops (next_of text c) → (k : ℕ) → Reached (n + k) c s
  stays {n} {c} {s} r h zero = let e : n + 0 ≡ n = omega arith in rw e r
  stays {n} {c} {s} r h (suc k) = rw (add-suc n k) (stop_stays (stays r h k) (next_of text c) refl h)

  -- the whole text is read where the reader stops within as many records as it has bytes
  pub read_there : {n : ℕ} {c : Cursor} {s : Sheet} → Reached n c s → n ≤ length text → Stops (next_of text c) → read_of text ≡ read_by (next_of text c) s
  unfolding read_of
  read_there {n} {c} {s} r l h =
      let e : n + (length text - n) ≡ length text = omega arith in
      let z : Reached (length text) c s = subst (λ (m : ℕ). Reached m c s) e (stays r h (length text - n)) in
      rw (z.cursor, z.sheet)

  -- ---- it stops within so many: as long as it goes on, a record takes at least a byte
  abbrev Taken : ℕ → Cursor → Type 0
  Taken n c = (Stops (next_of text c) → ⊥) → (n ≤ c.at) × (c.at ≤ length text)

  taken_next : (n : ℕ) (c : Cursor) → Taken n c → (t : Step) → next_of text c ≡ t → StepFrom text c t → Taken (suc n) (past t c)
  taken_next n c k (Ok (Some r)) e g h = let u = k (λ s. subst Stops e s) in let o = read_beyond text c r g in (omega (arith, o.past), o.within)
  taken_next n c k (Ok None) e g h = absurd (h (rw e tt))
  taken_next n c k (Err r) e g h = absurd (h (rw e tt))

  taken : (n : ℕ) → Taken n (cursor_after n text)
  unfolding cursor_after after_of
  taken zero h = (omega arith, omega arith)
  taken (suc n) h = taken_next n (cursor_after n text) (taken n) (next_of text (cursor_after n text)) refl (step_from_lem text (cursor_after n text)) h

  no_room : (c : Cursor) → length text ≤ c.at → (t : Step) → StepFrom text c t → (Stops t → ⊥) → ⊥
  no_room c l (Ok (Some r)) g h = let o = read_beyond text c r g in omega (arith, o.past, o.within)
  no_room c l (Ok None) g h = h tt
  no_room c l (Err r) g h = h tt

  decided : (t : Step) → ((Stops t → ⊥) → ⊥) → Stops t
  decided (Ok (Some r)) h = h (λ s. s)
  decided (Ok None) h = tt
  decided (Err r) h = tt

  pub read_stops : Stops (next_of text (cursor_after (length text) text))
  read_stops = let c = cursor_after (length text) text in decided (next_of text c) (λ h. no_room c (taken (length text) h).0 (next_of text c) (step_from_lem text c) h)

-- ---- the loop: so many records are read, and each took at least a byte
pub record Reading (text : List ℕ) (c : Cursor) (s : Sheet) : Type 0 where
  pub records : ℕ
  pub reached : Reached text records c s
  pub bytes : records ≤ c.at
  pub within : c.at ≤ length text

pub begun : (text : List ℕ) → Reading text start (blank 0 0)
begun text = record { records = 0; reached = reached_first text; bytes = omega arith; within = omega arith }

-- the same at the cursor d that a step from c hands on, with less text to come
pub record Onward (text : List ℕ) (c d : Cursor) (s : Sheet) : Type 0 where
  pub less : length text - d.at < length text - c.at
  pub reading : Reading text d s

-- after a step: the reading goes on, or the answer is known
abbrev pub Follows : List ℕ → Cursor → Sheet → Step → Type 0
Follows text c s (Ok (Some r)) = Onward text c r.next (with_entry r.entry s)
Follows text c s (Ok None) = read_of text ≡ read_sheet s
Follows text c s (Err r) = read_of text ≡ refused_text r

module _ (text : List ℕ) (c : Cursor) (s : Sheet) (r : Reading text c s) where
  onward : (q : Read) → next_of text c ≡ Ok (Some q) → Beyond text c q.next → Onward text c q.next (with_entry q.entry s)
  onward q e o =
      let b = r.bytes in
      record { less = omega (arith, o.past, o.within); reading = record { records = suc r.records; reached = reached_next text r.reached (Ok (Some q)) e; bytes = omega (arith, o.past); within = o.within } }

  step_follows : (t : Step) → next_of text c ≡ t → StepFrom text c t → Follows text c s t
  step_follows (Ok (Some q)) e g = onward q e (read_beyond text c q g)
  step_follows (Ok None) e g = rw e at (read_there text r.reached (omega (arith, r.bytes, r.within)) (rw e tt))
  step_follows (Err q) e g = rw e at (read_there text r.reached (omega (arith, r.bytes, r.within)) (rw e tt))

pub follows : {text : List ℕ} {c : Cursor} {s : Sheet} → Reading text c s → Follows text c s (next_of text c)
follows {text} {c} {s} r = step_follows text c s r (next_of text c) refl (step_from_lem text c)
