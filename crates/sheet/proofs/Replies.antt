-- What opening, accepting and adding tell is the reply due, test by test.
-- Assumes nothing.
use Rattle.std.specs.Prelude.{Ok, Err}
use mathlib.Core.Path.{◌≡◌, refl, sym, ap, ap₂, subst, ◌∙◌}
use mathlib.Core.Bool.{Bool}
use mathlib.Core.List.{List, [], ◌∷◌, ◌++◌, append-nil}
use Prim.Native.Nat.{ℕ, ◌+◌}
use lib.Dec.{leb, ltb}
use Rattle.arith.specs.declared.interval.Interval.{Interval}
use Rattle.arith.specs.declared.refusal.Reason.{Reason}
use Rattle.arith.specs.Answers.{Reply}
use Rattle.arith.specs.Replies.{Test, reply_after}
use Rattle.arith.proofs.Replies.{on_test, chain, Refuses, after_chain}
use Rattle.sheet.specs.declared.kept.Record.{Record}
use Rattle.sheet.specs.declared.kept.Sheet.{Sheet}
use Rattle.sheet.specs.declared.kept.Kept.{Kept}
use Rattle.sheet.specs.Cells.{canonical_cell}
use Rattle.sheet.specs.Faults.{Fault, cell_fault, record_fault}
use Rattle.sheet.specs.Sheets.{Answer, and_then, kept_by, blank, open_of, first_fault, test_lists, test_of, used_cells, used_records, add_test, tidied, with_cell, with_record, accept_of, add_cell_of, add_record_of}
use Rattle.sheet.specs.Replies.{test_at, faultless, all_faultless, open_tests, list_tests, sheet_tests, add_cell_tests, add_record_tests, kept_told, Keeps}

-- ---- the answer of some tests
abbrev pub answer_after : List Test → Answer
answer_after ts = chain ts (Ok tt)

-- tests after tests
then_after : (ts us : List Test) → and_then (answer_after ts) (answer_after us) ≡ answer_after (ts ++ us)
then_after [] us = refl
then_after (t ∷ ts) us = on_test (λ (a : Answer). and_then a (answer_after us)) t.0 _ _ (λ _. then_after ts us) refl

-- an answer after an answer
both_after : (ts us : List Test) {a b : Answer} → a ≡ answer_after ts → b ≡ answer_after us → and_then a b ≡ answer_after (ts ++ us)
both_after ts us e f = ap₂ and_then e f ∙ then_after ts us

first_after : {A : Type 0} (fault : A → Fault) (i : ℕ) (l : List A) → first_fault fault i l ≡ answer_after (all_faultless fault i l)
unfolding first_fault all_faultless
first_after fault i [] = refl
first_after fault i (v ∷ vs) = both_after (faultless (fault v) i ∷ []) (all_faultless fault (i + 1) vs) refl (first_after fault (i + 1) vs)

-- the test of lists, and so of a sheet
lists_after : (width limit m n : ℕ) (cells : List Interval) (records : List Record) → test_lists width limit m n cells records ≡ answer_after (list_tests width limit m n cells records)
unfolding test_lists
lists_after width limit m n cells records =
    let good = all_faultless (cell_fault width) 0 cells in
    let named = all_faultless (record_fault m) 0 records in
    let many = test_at (leb n 128) Reason.Full 128 in
    let more = test_at (leb m 64) Reason.Full 64 in
    both_after (open_tests width limit) (more ∷ many ∷ (good ++ named)) refl
    (both_after (more ∷ []) (many ∷ (good ++ named)) refl
    (both_after (many ∷ []) (good ++ named) refl
    (both_after good named (first_after (cell_fault width) 0 cells) (first_after (record_fault m) 0 records))))

pub sheet_after_lem : (s : Sheet) → test_of s ≡ answer_after (sheet_tests s)
sheet_after_lem s = lists_after s.width s.limit s.cell_count s.record_count (used_cells s) (used_records s)

-- the order of adding
add_after : (s : Sheet) (fault : Fault) (room : Bool) → add_test (test_of s) fault room ≡ answer_after (sheet_tests s ++ faultless fault 0 ∷ test_at room Reason.Full 0 ∷ [])
add_after s fault room = both_after (sheet_tests s) (faultless fault 0 ∷ test_at room Reason.Full 0 ∷ []) (sheet_after_lem s) (both_after (faultless fault 0 ∷ []) (test_at room Reason.Full 0 ∷ []) refl refl)

-- ---- the reply
module _ (old new : Sheet) where
  refusing : (ts : List Test) → Refuses (λ (a : Answer). kept_told (kept_by a old new)) (λ (r : Reply Sheet). r) ts
  refusing [] = tt
  refusing (t ∷ ts) = (refl, refusing ts)

  kept_told_lem : (ts : List Test) → kept_told (kept_by (answer_after ts) old new) ≡ reply_after ts (new ∷ [])
  kept_told_lem ts = after_chain (λ (a : Answer). kept_told (kept_by a old new)) (λ r. r) ts [] (Ok tt) (new ∷ []) (refusing ts) (λ _. refl) ∙ ap (λ (us : List Test). reply_after us (new ∷ [])) (append-nil ts)

  -- a refusal hands the sheet back as it came
  refused_kept : (a : Answer) → ((kept_told (kept_by a old new)).number ≡ 0 → ⊥) → (kept_by a old new).sheet ≡ old
  refused_kept (Ok u) p = absurd (p refl)
  refused_kept (Err r) p = refl

  keeps : (ts : List Test) (a : Answer) → a ≡ answer_after ts → Keeps old new ts (kept_by a old new)
  keeps ts a e = record { told = ap (λ (b : Answer). kept_told (kept_by b old new)) e ∙ kept_told_lem ts; kept = refused_kept a }

-- an answer that is the one defined keeps the same promise
keeps_too : {old new : Sheet} {ts : List Test} {r d : Kept} → Keeps old new ts d → r ≡ d → Keeps old new ts r
keeps_too {old} {new} {ts} k e = subst (Keeps old new ts) (sym e) k

-- ---- opening, accepting and adding
pub open_keeps : (width limit : ℕ) {r : Kept} → r ≡ open_of width limit → Keeps (blank 0 0) (blank width limit) (open_tests width limit) r
unfolding open_of
open_keeps width limit = keeps_too (keeps (blank 0 0) (blank width limit) (open_tests width limit) _ refl)

module _ (s : Sheet) where
  pub accept_keeps : {r : Kept} → r ≡ accept_of s → Keeps s (tidied s) (sheet_tests s) r
  unfolding accept_of
  accept_keeps = keeps_too (keeps s (tidied s) (sheet_tests s) _ (sheet_after_lem s))

  pub add_cell_keeps :
      (cell : Interval) {r : Kept} → r ≡ add_cell_of s cell →
      Keeps s (with_cell (tidied s) (canonical_cell s.width cell)) (add_cell_tests s cell) r
  unfolding add_cell_of
  add_cell_keeps cell = keeps_too (keeps s (with_cell (tidied s) (canonical_cell s.width cell)) (add_cell_tests s cell) _ (add_after s (cell_fault s.width cell) (ltb s.cell_count 64)))

  pub add_record_keeps :
      (t : Record) {r : Kept} → r ≡ add_record_of s t →
      Keeps s (with_record (tidied s) t) (add_record_tests s t) r
  unfolding add_record_of
  add_record_keeps t = keeps_too (keeps s (with_record (tidied s) t) (add_record_tests s t) _ (add_after s (record_fault s.cell_count t) (ltb s.record_count 128)))
