-- Lent lists and the sheet that they make: the same test, the same run, the same answer.
-- Assumes nothing.
use Rattle.std.specs.Prelude.{Ok, Err}
use mathlib.Core.Path.{◌≡◌, refl, sym, ap, ◌∙◌}
use mathlib.Core.List.{List, append-nil}
use Prim.Native.Nat.{ℕ, ◌≤◌, min}
use native.Mathlib.Omega.{arith}
use native.Mathlib.Decide.{dec_lt}
use lib.ListN.{length, take, drop, replicate, length-map}
use lib.Seq.{take-length, drop-length, take_at}
use Rattle.arith.specs.declared.interval.Interval.{Interval}
use Rattle.arith.specs.declared.refusal.Reason.{Reason}
use Rattle.arith.specs.declared.refusal.Refusal.{Refusal}
use Rattle.arith.specs.Refusals.{refusal, refusal_at}
use Rattle.sheet.specs.declared.kept.Record.{Record}
use Rattle.sheet.specs.declared.kept.Sheet.{Sheet}
use Rattle.sheet.specs.Boxes.{Box}
use Rattle.sheet.specs.Cells.{rules_of, box_of, cells_of}
use Rattle.sheet.specs.Faults.{Fault, head_fault}
use Rattle.sheet.specs.Sheets.{Answer, no_cell, no_record, places, used_cells, used_records, tidied, test_lists, test_of_lists, test_of}
use Rattle.sheet.proofs.Answers.{test_head, test_many_cells, test_many_records}
use Rattle.propagation.specs.declared.narrowing.Run.{Run}
use Rattle.propagation.specs.Runs.{Ended, settled, stopped, no_triple, run, left_by}
use Rattle.propagation.specs.Calls.{lent_call, outcome_by, outcome_after, cells_after, Narrows}
use Rattle.propagation.specs.Narrowings.{end_of, ran_on, run_after, narrow_sheet_of, NarrowsSheet}
use Rattle.propagation.specs.Planning.{InsideOrFails}
use Rattle.propagation.proofs.Shrinking.{run_inside}
use Rattle.propagation.proofs.Places.{places_used}
use Rattle.propagation.proofs.Calls.{narrows}
use Rattle.lent.specs.Loading.{puts, stored_cells, stored_count, sheet_of}

-- a list put in, and read back
put_in : {A : Type 0} (from to : List A) (most : ℕ) → length from ≤ most → take (length from) (puts from (min (length from) most) to) ≡ from
put_in from to most l =
    let n : min (length from) most ≡ length from = omega arith in
    rw (n, take-length from) (take_at from (drop (length from) to) (length from) refl)

-- ---- the answers
module _ (width limit : ℕ) (ys : List Interval) (zs : List Record) where
  abbrev made : Sheet
  made = sheet_of width limit ys zs

  abbrev tested : Answer
  tested = test_of_lists width limit ys zs

  abbrev ended : Ended
  ended = run (rules_of width) zs limit (box_of width ys)

  -- what the walk leaves in the cells after a run
  abbrev kept : Run → List Interval
  kept r = stored_cells ys (stored_count r.outcome (min (length ys) 64)) r.sheet

  -- the sheet's test is that of the lists; lists that are let pass have their places in it, and its run is theirs
  record Alike : Type 0 where
    test : test_of made ≡ tested
    few : tested ≡ Ok tt → length ys ≤ 64
    end : tested ≡ Ok tt → end_of made ≡ ended

  -- lists that the sheet has places for
  module _ (few_cells : length ys ≤ 64) (few_records : length zs ≤ 128) where
    used_cells_lem : used_cells made ≡ ys
    unfolding sheet_of
    used_cells_lem = put_in ys (replicate 64 no_cell) 64 few_cells

    used_records_lem : used_records made ≡ zs
    unfolding sheet_of
    used_records_lem = put_in zs (replicate 128 no_record) 128 few_records

    placed_alike : Alike
    unfolding sheet_of
    placed_alike = record {
      test = λ i. test_lists width limit (length ys) (length zs) (used_cells_lem i) (used_records_lem i);
      few = λ d. few_cells;
      end = λ d i. run (rules_of width) (used_records_lem i) limit (box_of width (used_cells_lem i));
    }

  -- lists that are refused whatever they hold
  refused_alike : (q : Refusal) → ((cells : List Interval) (records : List Record) → Err q ≡ test_lists width limit (length ys) (length zs) cells records) → Alike
  unfolding sheet_of
  refused_alike q all =
      let e = all ys zs in
      record {
        test = sym (all (used_cells made) (used_records made)) ∙ e;
        few = λ d. absurd (let z : ◌≡◌ {A = ℕ} 0 1 = cc in omega arith);
        end = λ d. absurd (let z : ◌≡◌ {A = ℕ} 0 1 = cc in omega arith);
      }

  alike : Alike
  alike =
      go (head_fault width limit) refl
    where
      go : (f : Fault) → head_fault width limit ≡ f → Alike
      go (Err r) bad = refused_alike (refusal r) (λ cells records. test_head width limit (length ys) (length zs) cells records r bad)
      go (Ok u) good =
          elim (dec_lt 64 (length ys)) [
            | yes many ↦ refused_alike (refusal_at Reason.Full 64) (λ cells records. test_many_cells width limit (length ys) (length zs) cells records good many)
            | no few ↦
                let few_cells : length ys ≤ 64 = omega (arith, few) in
                elim (dec_lt 128 (length zs)) [
                  | yes many ↦ refused_alike (refusal_at Reason.Full 128) (λ cells records. test_many_records width limit (length ys) (length zs) cells records good few_cells many)
                  | no few_records ↦ placed_alike few_cells (omega (arith, few_records))
                ]
          ]

  -- the cells that the walk leaves are those of the run's box, or as they were
  module _ (few : length ys ≤ 64) where
    kept_box : (box : Box) → length box ≡ length ys → puts (places width (length ys) box) (min (length ys) 64) ys ≡ cells_of width box
    kept_box box l =
        let n : min (length ys) 64 ≡ length ys = omega arith in
        rw (n, places_used width (length ys) box l, drop-length ys) (append-nil (cells_of width box))

    kept_by_lem : (E : Ended) → InsideOrFails (box_of width ys) E → kept (ran_on made E) ≡ left_by (cells_of width) ys E
    unfolding sheet_of tidied
    kept_by_lem (settled p box) w = kept_box box (w.cells ∙ length-map ys _)
    kept_by_lem (stopped p box) w = kept_box box (w.cells ∙ length-map ys _)
    kept_by_lem (no_triple p k) w = refl

  outcome_is : (a : Answer) → tested ≡ a → (run_after a made).outcome ≡ outcome_after a ended
  outcome_is (Ok u) t = ap outcome_by (alike.end t)
  outcome_is (Err q) t = refl

  cells_are : (a : Answer) → tested ≡ a → kept (run_after a made) ≡ cells_after a width ys ended
  cells_are (Ok u) t = ap (λ (E : Ended). kept (ran_on made E)) (alike.end t) ∙ kept_by_lem (alike.few t) ended (run_inside (rules_of width) zs limit (box_of width ys))
  cells_are (Err q) t = refl

  -- what the walk leaves is what the lists' answer says
  pub lists_narrow : (r : Run) → NarrowsSheet made r → Narrows (lent_call width limit ys zs (kept r) r.outcome)
  unfolding narrow_sheet_of
  lists_narrow r h =
      let e = h.answer ∙ ap (λ (a : Answer). run_after a made) alike.test in
      narrows (lent_call width limit ys zs (kept r) r.outcome) (record {
        outcome = ap (λ (u : Run). u.outcome) e ∙ outcome_is tested refl;
        after = ap kept e ∙ cells_are tested refl;
        counted = λ t. refl;
      })
