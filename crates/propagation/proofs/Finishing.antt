-- The answer of narrowing a kept sheet, from how its run ended, and what it promises.
-- Assumes nothing.
use Rattle.std.specs.Prelude.{Ok, Err}
use mathlib.Core.Path.{◌≡◌, refl, sym, ap, ap₂, ◌∙◌}
use Prim.Native.Nat.{ℕ}
use lib.ListN.{length, length-map}
use Rattle.arith.specs.declared.refusal.Refusal.{Refusal}
use Rattle.sheet.specs.declared.kept.Sheet.{Sheet}
use Rattle.sheet.specs.declared.kept.Kept.{Kept}
use Rattle.sheet.specs.Boxes.{Box}
use Rattle.sheet.specs.Cells.{rules_of, box_of, cells_of}
use Rattle.sheet.specs.Sheets.{Answer, places, used_cells, used_records, tidied, with_cells, test_of, accept_of}
use Rattle.sheet.proofs.Answers.{accept_answer, accept_sheet}
use Rattle.sheet.proofs.Tidied.{cells_counted, tidied_records}
use Rattle.propagation.specs.declared.passes.Outcome.{Outcome}
use Rattle.propagation.specs.declared.passes.Outcome.TheVariants.{NoTriple, Refused}
use Rattle.propagation.specs.declared.passes.Halted.{Halted}
use Rattle.propagation.specs.declared.narrowing.Run.{Run}
use Rattle.propagation.specs.Runs.{Ended, settled, stopped, no_triple, left_by}
use Rattle.propagation.specs.Calls.{kept_call, outcome_number, outcome_after, cells_after}
use Rattle.propagation.specs.Loops.{Ready, EndsAs}
use Rattle.propagation.specs.Narrowings.{end_of, with_box, ran_on, run_after, narrow_sheet_of, NarrowsSheet}
use Rattle.propagation.specs.Planning.{InsideOrFails}
use Rattle.propagation.proofs.Started.{tidied_ready, tidied_end}
use Rattle.propagation.proofs.Shrinking.{run_inside}
use Rattle.propagation.proofs.Places.{places_used}
use Rattle.propagation.proofs.Calls.{left_by_lem, Answered, narrows}

-- ---- the way out of `finish` with a box
module _ (s t : Sheet) (h : Halted) (q : t ≡ tidied s) where
  kept : (box : Box) → h.cells ≡ places t.width t.cell_count box → with_cells t h.cells ≡ with_box s box
  unfolding tidied
  kept box c = ap₂ with_cells q (c ∙ ap (λ (u : Sheet). places u.width u.cell_count box) q)

  pub finish_box : (e : Ended) → EndsAs t h e → ((p k : ℕ) → h.outcome ≡ NoTriple p k → ⊥) → ◌≡◌ {A = Run} (record { sheet = with_cells t h.cells; outcome = h.outcome }) (ran_on s e)
  finish_box (settled n box) m o = ap₂ (λ (u : Sheet) (v : Outcome). record { sheet = u; outcome = v }) (kept box m.1) m.0
  finish_box (stopped n box) m o = ap₂ (λ (u : Sheet) (v : Outcome). record { sheet = u; outcome = v }) (kept box m.1) m.0
  finish_box (no_triple n k) m o = absurd (o n k m)

-- ---- the cells in use that a run leaves, by how it ended
used_by :
    (s : Sheet) (e : Ended) → length (used_cells s) ≡ s.cell_count → InsideOrFails (box_of s.width (used_cells s)) e →
    used_cells (ran_on s e).sheet ≡ left_by (cells_of s.width) (used_cells s) e
unfolding tidied
used_by s (settled p box) n w = places_used s.width s.cell_count box (w.cells ∙ length-map (used_cells s) _ ∙ n)
used_by s (stopped p box) n w = places_used s.width s.cell_count box (w.cells ∙ length-map (used_cells s) _ ∙ n)
used_by s (no_triple p k) n w = refl

-- ---- the answer, by the sheet's test
module _ (s : Sheet) (long : length s.cells ≡ 64) where
  outcome_is : (a : Answer) → (run_after a s).outcome ≡ outcome_after a (end_of s)
  outcome_is (Ok u) = refl
  outcome_is (Err r) = refl

  cells_are : (a : Answer) → test_of s ≡ a → used_cells (run_after a s).sheet ≡ cells_after a s.width (used_cells s) (end_of s)
  cells_are (Ok u) t = used_by s (end_of s) (cells_counted s t long) (run_inside (rules_of s.width) (used_records s) s.limit (box_of s.width (used_cells s)))
  cells_are (Err r) t = refl

  sheet_left : (a : Answer) → (outcome_number (run_after a s).outcome ≡ 0 → ⊥) → (outcome_number (run_after a s).outcome ≡ 12 → ⊥) → (run_after a s).sheet ≡ s
  sheet_left (Ok u) = left_by_lem (with_box s) s (end_of s)
  sheet_left (Err r) = λ p q. refl

  -- the promise
  pub sheet_narrows : (r : Run) → r ≡ narrow_sheet_of s → NarrowsSheet s r
  unfolding narrow_sheet_of
  sheet_narrows r e = record {
    answer = e;
    kept = λ p q. ap (λ (u : Run). u.sheet) e ∙ sheet_left (test_of s) (λ z. p (ap (λ (u : Run). outcome_number u.outcome) e ∙ z)) (λ z. q (ap (λ (u : Run). outcome_number u.outcome) e ∙ z));
    call = narrows (kept_call s r) call;
  }
    where
      call : Answered (kept_call s r)
      call = record {
        outcome = ap (λ (u : Run). u.outcome) e ∙ outcome_is (test_of s);
        after = ap (λ (u : Run). used_cells u.sheet) e ∙ cells_are (test_of s) refl;
        counted = λ t. cells_counted s t long;
      }

-- ---- the ways out of `narrow_sheet`, where accepting gave k
module _ (s : Sheet) {k : Kept} (e : k ≡ accept_of s) where
  answer_is : k.answer ≡ test_of s
  answer_is = ap (λ (l : Kept). l.answer) e ∙ accept_answer s

  pub refused_narrows : {r : Refusal} → length s.cells ≡ 64 → k.answer ≡ Err r → NarrowsSheet s (record { sheet = s; outcome = Refused r })
  unfolding narrow_sheet_of
  refused_narrows long a = sheet_narrows s long _ (ap (λ (v : Answer). run_after v s) (sym a ∙ answer_is))

  module _ (a : k.answer ≡ Ok tt) where
    let_pass : test_of s ≡ Ok tt
    let_pass = sym answer_is ∙ a

    pub accepted_tidied : k.sheet ≡ tidied s
    accepted_tidied = ap (λ (l : Kept). l.sheet) e ∙ accept_sheet s let_pass

    module _ (long : length s.cells ≡ 64) (records_long : length s.records ≡ 128) where
      pub accepted_ready : Ready k.sheet
      accepted_ready = rw accepted_tidied (tidied_ready s long records_long let_pass)

      pub ran_narrows : {r : Run} → r ≡ ran_on s (end_of k.sheet) → NarrowsSheet s r
      unfolding narrow_sheet_of
      ran_narrows {r} q =
          sheet_narrows s long r
          (q ∙ ap (λ (u : Sheet). ran_on s (end_of u)) accepted_tidied ∙ ap (ran_on s) (tidied_end s long records_long let_pass) ∙ ap (λ (v : Answer). run_after v s) (sym let_pass))

-- ---- the sheet handed back has the same width and records
module _ (s : Sheet) (long : length s.records ≡ 128) where
  same_left : (e : Ended) → test_of s ≡ Ok tt → ((ran_on s e).sheet.width ≡ s.width) × (used_records (ran_on s e).sheet ≡ used_records s)
  unfolding tidied
  same_left (settled p box) t = (refl, tidied_records s long t)
  same_left (stopped p box) t = (refl, tidied_records s long t)
  same_left (no_triple p k) t = (refl, refl)

  pub handed_back : (r : Run) → NarrowsSheet s r → (r.sheet.width ≡ s.width) × (used_records r.sheet ≡ used_records s)
  unfolding narrow_sheet_of
  handed_back r h = rw h.answer (go (test_of s) refl)
    where
      go : (a : Answer) → test_of s ≡ a → ((run_after a s).sheet.width ≡ s.width) × (used_records (run_after a s).sheet ≡ used_records s)
      go (Ok u) t = same_left (end_of s) t
      go (Err q) t = (refl, refl)
