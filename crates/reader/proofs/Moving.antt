-- What holds of a step: a head stands at the start and only there, a record that is given has no fault and moves the cursor past its line, and the cursor keeps the line, the width and the counts. Rests on specs/Steps and Counting.
use mathlib.Core.Path.{◌≡◌, refl, sym, ap, ◌∙◌}
use mathlib.Core.Bool.{Bool, true, false, cond}
use mathlib.Core.List.{List}
use Prim.Native.Nat.{ℕ, ◌+◌, ◌<◌, ◌≤◌}
use native.Mathlib.Omega.{arith}
use lib.Dec.{eqb, ltb}
use lib.ListN.{length, drop, length-drop}
use borrow.Author.Tests.{eqb-true, eqb-false, ltb-true, ltb-false}
use Rattle.arith.specs.declared.interval.Interval.{Interval}
use Rattle.arith.specs.declared.refusal.Reason.{Reason}
use Rattle.arith.specs.Refusals.{tested}
use Rattle.sheet.specs.declared.kept.Record.{Record}
use Rattle.sheet.specs.Faults.{Fault, head_fault, cell_fault, record_fault}
use Rattle.reader.specs.Bytes.{index_of, before, after, is_same}
use Rattle.reader.specs.Numbers.{numeral_of, pattern_of}
use Rattle.reader.specs.Lines.{tab, feed, sheet_word, cell_word, sum_word, head_from, cell_from, triple_from, head_in, cell_in, triple_in, line_of, diff_word, neg_word, pair_from, pair_in, record_in}
use Rattle.reader.specs.Steps.{Step, refused_at, head_step, cell_step, record_step, counted, read_step, step_by, admitted, line_after, past_line, step_at, next_of, line_number}
use Rattle.std.specs.Prelude.{Option, Some, None, Result, Ok, Err}
use Rattle.std.specs.Result.{result_and}
use Rattle.reader.specs.declared.entry.Entry.{Entry}
use Rattle.reader.specs.declared.cursor.Cursor.{Cursor}
use Rattle.reader.specs.declared.cursor.Read.{Read}
use Rattle.reader.proofs.Counting.{line_past}

nonzero : (n : ℕ) → eqb n 0 ≡ false → 0 < n
nonzero n e = let h = eqb-false n 0 e in omega arith

-- what each side of a test has where it is taken, the side taken has
either : {A : Type 0} (P : A → Type 0) (t : Bool) {a b : A} → (t ≡ true → P a) → (t ≡ false → P b) → P (cond t a b)
either P true p q = p refl
either P false p q = q refl

-- what a refusal has, and what stands behind a fault that is none, the answer has
after_fault : {A : Type 0} (P : Result A Reason → Type 0) (f : Fault) {rest : Result A Reason} → (f ≡ Ok tt → P rest) → ((reason : Reason) → P (Err reason)) → P (result_and f rest)
after_fault P (Ok u) p q = p refl
after_fault P (Err reason) p q = q reason

-- the same of a test
after_test : {A : Type 0} (P : Result A Reason → Type 0) (ok : Bool) (reason : Reason) {rest : Result A Reason} → (ok ≡ true → P rest) → ((r : Reason) → P (Err r)) → P (result_and (tested ok reason) rest)
after_test P true reason p q = p refl
after_test P false reason p q = q reason

-- ---- where a line may stand
data Placed (at : ℕ) : Option Entry → Type 0 where
  head : {w m : ℕ} → at ≡ 0 → Placed at (Some (Entry.Head w m))
  cell : {I : Interval} → 0 < at → Placed at (Some (Entry.Cell I))
  over_cells : {t : Record} → 0 < at → Placed at (Some (Entry.Record t))
  nowhere : Placed at None

module _ (at : ℕ) where
  head_placed : at ≡ 0 → (w m : Option ℕ) → Placed at (head_from w m)
  unfolding head_from
  head_placed z None m = nowhere
  head_placed z (Some w) None = nowhere
  head_placed z (Some w) (Some m) = head z

  cell_placed : 0 < at → (l h : Option ℕ) → Placed at (cell_from l h)
  unfolding cell_from
  cell_placed p None h = nowhere
  cell_placed p (Some l) None = nowhere
  cell_placed p (Some l) (Some h) = cell p

  triple_placed : 0 < at → (k : ℕ) (x a b : Option ℕ) → Placed at (triple_from k x a b)
  unfolding triple_from
  triple_placed p k None a b = nowhere
  triple_placed p k (Some x) None b = nowhere
  triple_placed p k (Some x) (Some a) None = nowhere
  triple_placed p k (Some x) (Some a) (Some b) = over_cells p

  pair_placed : 0 < at → (x y : Option ℕ) → Placed at (pair_from x y)
  unfolding pair_from
  pair_placed p None y = nowhere
  pair_placed p (Some x) None = nowhere
  pair_placed p (Some x) (Some y) = over_cells p

  record_placed : 0 < at → (word fields : List ℕ) → Placed at (record_in word fields)
  unfolding record_in triple_in pair_in
  record_placed p word fields =
      either (Placed at) (is_same word sum_word)
      (λ _. triple_placed p 0 (numeral_of (before tab fields)) (numeral_of (before tab (after tab fields))) (numeral_of (after tab (after tab fields))))
      (λ _. either (Placed at) (is_same word diff_word)
      (λ _. triple_placed p 1 (numeral_of (before tab fields)) (numeral_of (before tab (after tab fields))) (numeral_of (after tab (after tab fields))))
      (λ _. either (Placed at) (is_same word neg_word)
      (λ _. pair_placed p (numeral_of (before tab fields)) (numeral_of (after tab fields)))
      (λ _. nowhere)))

  placed : (w : ℕ) (l : List ℕ) → Placed at (line_of at w l)
  unfolding line_of head_in cell_in
  placed w l =
      let fields = after tab l in
      either (Placed at) (eqb at 0)
      (λ e. either (Placed at) (is_same (before tab l) sheet_word) (λ _. head_placed (eqb-true at 0 e) (numeral_of (before tab fields)) (numeral_of (after tab fields))) (λ _. nowhere))
      (λ e. either (Placed at) (is_same (before tab l) cell_word)
      (λ _. cell_placed (nonzero at e) (pattern_of w (before tab fields)) (pattern_of w (after tab fields)))
      (λ _. record_placed (nonzero at e) (before tab l) fields))

-- ---- the cursor keeps the line that it stands in
abbrev pub Lined : List ℕ → Cursor → Type 0
Lined text c = c.line ≡ line_number text c.at

-- the cursor d that a record at c hands on: past c, with its line
pub record Beyond (text : List ℕ) (c d : Cursor) : Type 0 where
  pub past : c.at < d.at
  pub within : d.at ≤ length text
  pub line : Lined text c → Lined text d

-- and with a width and counts
pub record Onto (text : List ℕ) (c d : Cursor) (w i j : ℕ) : Type 0 where
  pub beyond : Beyond text c d
  pub width : d.width ≡ w
  pub cells : d.cell_count ≡ i
  pub records : d.record_count ≡ j

-- what holds of a step from c
pub data StepFrom (text : List ℕ) (c : Cursor) : Step → Type 0 where
  a_head : {w m : ℕ} {d : Cursor} → c.at ≡ 0 → head_fault w m ≡ Ok tt → Onto text c d w 0 0 → StepFrom text c (read_step (Entry.Head w m) d)
  a_cell : {I : Interval} {d : Cursor} → 0 < c.at → cell_fault c.width I ≡ Ok tt → c.cell_count < 64 → Onto text c d c.width (c.cell_count + 1) c.record_count → StepFrom text c (read_step (Entry.Cell I) d)
  a_record : {t : Record} {d : Cursor} → 0 < c.at → record_fault c.cell_count t ≡ Ok tt → c.record_count < 128 → Onto text c d c.width c.cell_count (c.record_count + 1) → StepFrom text c (read_step (Entry.Record t) d)
  the_end : 0 < c.at → StepFrom text c (Ok None)
  too_long : 8192 < length text → StepFrom text c (refused_at Reason.TooLong 0)
  a_refusal : (reason : Reason) → StepFrom text c (refused_at reason c.line)

-- whatever record it is
pub read_beyond : (text : List ℕ) (c : Cursor) (r : Read) → StepFrom text c (Ok (Some r)) → Beyond text c r.next
read_beyond text c r (a_head z f o) = o.beyond
read_beyond text c r (a_cell p f l o) = o.beyond
read_beyond text c r (a_record p f l o) = o.beyond

module _ (text : List ℕ) (c : Cursor) where
  module _ (n : ℕ) (k : c.at + n + 1 ≤ length text) (on : Lined text c → line_after c.line ≡ line_number text (c.at + n + 1)) where
    abbrev onto : (w i j : ℕ) → Onto text c (record { at = c.at + n + 1; line = line_after c.line; width = w; cell_count = i; record_count = j }) w i j
    onto w i j = record { beyond = record { past = omega arith; within = k; line = on }; width = refl; cells = refl; records = refl }

    abbrev stepped : Entry → Result Cursor Reason → Type 0
    stepped e r = StepFrom text c (step_by e c.line r)

    line_step : (l : Option Entry) → Placed c.at l → StepFrom text c (admitted l c.line (past_line n c))
    unfolding admitted counted head_step cell_step record_step
    line_step (Some (Entry.Head w m)) (head z) = after_fault (stepped (Entry.Head w m)) (head_fault w m) (λ e. a_head z e (onto w 0 0)) a_refusal
    line_step (Some (Entry.Cell I)) (cell p) =
        let P = stepped (Entry.Cell I) in
        after_fault P (cell_fault c.width I)
        (λ e. after_test P (ltb c.cell_count 64) Reason.Full (λ f. a_cell p e (ltb-true c.cell_count 64 f) (onto c.width (c.cell_count + 1) c.record_count)) a_refusal)
        a_refusal
    line_step (Some (Entry.Record t)) (over_cells p) =
        let P = stepped (Entry.Record t) in
        after_fault P (record_fault c.cell_count t)
        (λ e. after_test P (ltb c.record_count 128) Reason.Full (λ f. a_record p e (ltb-true c.record_count 128 f) (onto c.width c.cell_count (c.record_count + 1))) a_refusal)
        a_refusal
    line_step None nowhere = a_refusal Reason.Malformed

pub step_from_lem : (text : List ℕ) (c : Cursor) → StepFrom text c (next_of text c)
unfolding next_of step_at
step_from_lem text c =
    let rest = drop c.at text in
    let n = index_of feed rest in
    either (StepFrom text c) (ltb 8192 (length text)) (λ e. too_long (ltb-true 8192 (length text) e))
    (λ s. either (StepFrom text c) (ltb n (length rest))
    (λ e. let h = ltb-true n (length rest) e in line_step text c n (omega (arith, length-drop c.at text)) (λ l. ap line_after l ∙ sym (line_past text c.at (ltb-false 8192 (length text) s) h)) (line_of c.at c.width (before feed rest)) (placed c.at c.width (before feed rest)))
    (λ _. either (StepFrom text c) (eqb (length rest) 0) (λ _. either (StepFrom text c) (eqb c.at 0) (λ _. a_refusal Reason.Malformed) (λ e. the_end (nonzero c.at e))) (λ _. a_refusal Reason.Malformed)))
