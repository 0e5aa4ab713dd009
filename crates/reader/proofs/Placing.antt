-- 01's line of a refusal: a cursor reached from the start keeps the line that it stands in, and that is the place of the refusal of a whole text. Rests on Moving.
use mathlib.Core.Path.{◌≡◌, refl, ap, subst, ◌∙◌}
use mathlib.Core.List.{List}
use Prim.Native.Nat.{ℕ, zero, suc, ◌≤◌}
use native.Mathlib.Omega.{arith}
use lib.ListN.{length}
use Rattle.arith.specs.declared.refusal.Refusal.{Refusal}
use Rattle.sheet.specs.declared.kept.Sheet.{Sheet}
use Rattle.sheet.specs.declared.kept.Kept.{Kept}
use Rattle.reader.specs.Bytes.{count_of}
use Rattle.std.specs.Prelude.{Some, None, Ok, Err}
use Rattle.reader.specs.Steps.{Step, next_of, past, after_of, cursor_after, line_number}
use Rattle.reader.specs.Readings.{sheet_after, refused_text, read_by, read_of, RefusedIn}
use Rattle.reader.specs.declared.cursor.Cursor.{Cursor}
use Rattle.reader.proofs.Moving.{Lined, StepFrom, too_long, a_refusal, read_beyond, step_from_lem}

-- ---- the cursor
after_line : (text : List ℕ) (c : Cursor) → Lined text c → (t : Step) → StepFrom text c t → Lined text (past t c)
after_line text c l (Ok (Some r)) g = (read_beyond text c r g).line l
after_line text c l (Ok None) g = l
after_line text c l (Err r) g = l

-- after the first n records: one more than the line feeds before the position
pub kept_line : (n : ℕ) (text : List ℕ) → (cursor_after n text).line ≡ line_number text (cursor_after n text).at
unfolding cursor_after after_of line_number count_of
kept_line zero text = refl
kept_line (suc n) text = after_line text (cursor_after n text) (kept_line n text) (next_of text (cursor_after n text)) (step_from_lem text (cursor_after n text))

-- ---- a refusal
place_line : (text : List ℕ) (c : Cursor) (r : Refusal) → StepFrom text c (Err r) → length text ≤ 8192 → r.place ≡ c.line
place_line text c r (too_long l) h = absurd (omega arith)
place_line text c r (a_refusal n) h = refl

module _ (text : List ℕ) (r : Refusal) where
  refused_at_lem : (k : ℕ) → next_of text (cursor_after k text) ≡ Err r → RefusedIn text r
  refused_at_lem k e = record {
    records = k;
    there = e;
    line = λ h. place_line text (cursor_after k text) r (subst (StepFrom text (cursor_after k text)) e (step_from_lem text (cursor_after k text))) h ∙ kept_line k text;
  }

  by_refused : (k : ℕ) (s : Sheet) (t : Step) → next_of text (cursor_after k text) ≡ t → read_by t s ≡ refused_text r → RefusedIn text r
  by_refused k s (Ok q) f e = let a = ap (λ (a : Kept). a.answer) e in absurd (let z : ◌≡◌ {A = ℕ} 0 1 = cc in omega arith)
  by_refused k s (Err q) f e = let a = ap (λ (a : Kept). a.answer) e in let i : q ≡ r = cc in refused_at_lem k (f ∙ ap Err i)

  pub refused_line : read_of text ≡ refused_text r → RefusedIn text r
  unfolding read_of
  refused_line e = by_refused (length text) (sheet_after (length text) text) (next_of text (cursor_after (length text) text)) refl e
