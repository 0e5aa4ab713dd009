-- Reading on over lines in the middle of a text: one line, and a line for each member of a list. Rests on Following, Counting and Fields.
use mathlib.Core.Path.{◌≡◌, sym, ap, ◌∙◌}
use mathlib.Core.List.{List, [], ◌∷◌, ◌++◌, append_assoc, append-nil}
use Prim.Native.Nat.{ℕ, suc, ◌+◌, ◌≤◌, ◌<◌}
use native.Mathlib.Omega.{arith}
use lib.ListN.{length, length-append}
use lib.Seq.{drop-append_seam}
use borrow.Author.Tests.{le-ltb, lt-ltb}
use Rattle.sheet.specs.declared.kept.Sheet.{Sheet}
use Rattle.reader.specs.Bytes.{count_of}
use Rattle.reader.specs.Lines.{feed, line_of}
use Rattle.reader.specs.Steps.{admitted, line_after, step_at, next_of}
use Rattle.reader.specs.Texts.{text_lines}
use Rattle.reader.specs.declared.cursor.Cursor.{Cursor}
use Rattle.reader.proofs.Following.{Reached}
use Rattle.reader.proofs.Counting.{count_append, count_le, line_on}
use Rattle.reader.proofs.Fields.{Free, index_free, before_free, count_free}

-- the cursor after some text, with what it keeps
abbrev pub after : List ℕ → ℕ → ℕ → ℕ → Cursor
after read w i j = record { at = length read; line = count_of feed read + 1; width = w; cell_count = i; record_count = j }

-- ---- one line
-- the position after it, and the line
length_line : (read line : List ℕ) → length (read ++ (line ++ (feed ∷ []))) ≡ length read + length line + 1
length_line read line = simp (length-append, length-append) (omega arith)

line_line : (read line : List ℕ) → Free feed line → length read ≤ 8192 → count_of feed (read ++ (line ++ (feed ∷ []))) + 1 ≡ line_after (count_of feed read + 1)
unfolding count_of
line_line read line f h =
    rw (count_append feed read (line ++ (feed ∷ [])), count_free feed line [] f)
    (sym (line_on (count_of feed read + 1) (omega (arith, count_le feed read))))

pub next_line :
    (read line rest : List ℕ) (w i j : ℕ) → Free feed line → length (read ++ (line ++ (feed ∷ rest))) ≤ 8192 →
    next_of (read ++ (line ++ (feed ∷ rest))) (after read w i j)
    ≡ admitted (line_of (length read) w line) (count_of feed read + 1) (after (read ++ (line ++ (feed ∷ []))) w i j)
unfolding next_of step_at
next_line read line rest w i j f h =
    let l : length line < length (line ++ (feed ∷ rest)) = simp length-append (omega arith) in
    rw (le-ltb 8192 (length (read ++ (line ++ (feed ∷ rest)))) h, drop-append_seam read (line ++ (feed ∷ rest)), index_free feed line rest f, before_free feed line rest f, lt-ltb (length line) (length (line ++ (feed ∷ rest))) l, length_line read line, line_line read line f (omega (arith, length-append read (line ++ (feed ∷ rest)))))

-- ---- a line for each member of a list: where each line moves the sheet and the cursor on by its member, all of them do
pub walk :
    {A : Type 0} (line : A → List ℕ) (text : List ℕ) (all : List A) (cursor : List ℕ → List A → Cursor) (sheet : List A → Sheet) →
    ((before : List A) (v : A) (later : List A) (read rest : List ℕ) (n : ℕ) → all ≡ before ++ (v ∷ later) → text ≡ read ++ (line v ++ (feed ∷ rest)) → 0 < length read →
    Reached text n (cursor read before) (sheet before) → Reached text (suc n) (cursor (read ++ (line v ++ (feed ∷ []))) (before ++ (v ∷ []))) (sheet (before ++ (v ∷ [])))) →
    (before later : List A) (read rest : List ℕ) (n : ℕ) → all ≡ before ++ later → text ≡ read ++ (text_lines line later ++ rest) → 0 < length read →
    Reached text n (cursor read before) (sheet before) → Reached text (length later + n) (cursor (read ++ text_lines line later) all) (sheet all)
unfolding text_lines
walk line text all cursor sheet one before [] read rest n e t p r =
    let f : all ≡ before = e ∙ append-nil before in
    let z : 0 + n ≡ n = omega arith in
    rw (f, append-nil read, z) r
walk line text all cursor sheet one before (v ∷ later) read rest n e t p r =
    let more = text_lines line later in
    let here : text ≡ read ++ (line v ++ (feed ∷ (more ++ rest))) = t ∙ ap (λ (l : List ℕ). read ++ l) (append_assoc (line v) (feed ∷ more) rest) in
    let past : (l : List ℕ) → (read ++ (line v ++ (feed ∷ []))) ++ l ≡ read ++ (line v ++ (feed ∷ l)) = λ l. append_assoc read (line v ++ (feed ∷ [])) l ∙ ap (λ (k : List ℕ). read ++ k) (append_assoc (line v) (feed ∷ []) l) in
    let some : 0 < length (read ++ (line v ++ (feed ∷ []))) = simp length-append (omega arith) in
    let k : suc (length later) + n ≡ length later + suc n = omega arith in
    rw (k, ← past more)
    (walk line text all cursor sheet one (before ++ (v ∷ [])) later (read ++ (line v ++ (feed ∷ []))) rest (suc n) (e ∙ sym (append_assoc before (v ∷ []) later)) (here ∙ sym (past (more ++ rest))) some
    (one before v later read (more ++ rest) n e here p r))
