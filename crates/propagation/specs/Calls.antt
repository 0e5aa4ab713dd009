-- Calls that narrow a sheet, kept or lent alike: what each was handed, what its caller has of it, and what it promises. Assumes nothing.
use Rattle.std.specs.Prelude.{◌≡◌, List, [], ◌∷◌, ℕ, length, Ok, Err}
use Rattle.arith.specs.declared.interval.Interval.{Interval}
use Rattle.sheet.specs.declared.kept.Record.{Record}
use Rattle.sheet.specs.declared.kept.Sheet.{Sheet}
use Rattle.arith.specs.Refusals as Refusals
use Rattle.sheet.specs.Boxes.{Box}
use Rattle.sheet.specs.Cells.{fraction_of, exponent_of, rules_of, box_of, cells_of}
use Rattle.sheet.specs.Sheets.{Answer, used_cells, used_records, test_lists}
use Rattle.propagation.specs.declared.passes.Outcome.{Outcome}
use Rattle.propagation.specs.declared.passes.Outcome.TheVariants.{Settled, NoTriple, Stopped, Refused}
use Rattle.propagation.specs.declared.narrowing.Run.{Run}
use Rattle.propagation.specs.Runs.{Ended, settled, stopped, no_triple, run, left_by, end_number, end_values}
use Rattle.propagation.specs.Consistency.{Demand3}
use Rattle.propagation.specs.Outcomes.{EndsWhen}

-- what is to be narrowed: the width, the cells, the records; and the two counts, for refusal 10
pub record Problem : Type 0 where
  pub width : ℕ
  pub cell_count : ℕ
  pub record_count : ℕ
  pub cells : List Interval
  pub records : List Record

-- a call: its problem and pass limit, its outcome, and the cells that the caller holds after it
pub record Call : Type 0 where
  pub problem : Problem
  pub limit : ℕ
  pub outcome : Outcome
  pub after : List Interval

-- ---- the two calls
-- what a kept sheet holds, of the cells and records in use
abbrev pub kept_problem : Sheet → Problem
kept_problem s =
    record {
      width = s.width;
      cell_count = s.cell_count;
      record_count = s.record_count;
      cells = used_cells s;
      records = used_records s;
    }

-- a kept sheet, narrowed
abbrev pub kept_call : Sheet → Run → Call
kept_call s r = record { problem = kept_problem s; limit = s.limit; outcome = r.outcome; after = used_cells r.sheet }

-- lent lists, whose counts are their lengths
abbrev pub lent_problem : ℕ → List Interval → List Record → Problem
lent_problem width cells records =
    record {
      width = width;
      cell_count = length cells;
      record_count = length records;
      cells = cells;
      records = records;
    }

-- lent lists, narrowed
abbrev pub lent_call : ℕ → ℕ → List Interval → List Record → List Interval → Outcome → Call
lent_call width limit given records after r = record { problem = lent_problem width given records; limit = limit; outcome = r; after = after }

-- ---- boxes
-- the box that a call starts from: the box first given
abbrev pub box_before : Call → Box
box_before c = box_of c.problem.width c.problem.cells

-- and the one that it leaves
abbrev pub box_after : Call → Box
box_after c = box_of c.problem.width c.after

-- ---- what is due
-- the test of what is handed in, in the order of lists
abbrev pub test_on : Call → Answer
test_on c = let q = c.problem in test_lists q.width c.limit q.cell_count q.record_count q.cells q.records

-- 01's run, from the cells first given, under a pass limit
abbrev pub run_on : Problem → ℕ → Ended
run_on q limit = run (rules_of q.width) q.records limit (box_of q.width q.cells)

-- the run that is due of a call
abbrev pub end_on : Call → Ended
end_on c = run_on c.problem c.limit

-- the outcome of a run that ended so
abbrev pub outcome_by : Ended → Outcome
outcome_by (settled p box) = Settled p
outcome_by (stopped p box) = Stopped p
outcome_by (no_triple p k) = NoTriple p k

-- the test's refusal, else the outcome of the run
abbrev pub outcome_after : Answer → Ended → Outcome
outcome_after (Ok u) e = outcome_by e
outcome_after (Err r) e = Refused r

-- the cells afterwards: each end of the run's box in its one pattern; under a refusal and under 'no triple' as they came
abbrev pub cells_after : Answer → ℕ → List Interval → Ended → List Interval
cells_after (Ok u) width cells e = left_by (cells_of width) cells e
cells_after (Err r) width cells e = cells

-- ---- by 01's numbers
-- of each case: 0 where nothing is refused
abbrev pub outcome_number : Outcome → ℕ
outcome_number (Settled passes) = 0
outcome_number (NoTriple pass k) = 11
outcome_number (Stopped passes) = 12
outcome_number (Refused r) = Refusals.number r.reason

-- the values of each case: the passes made; pass and record; the passes; the place
abbrev pub outcome_values : Outcome → List ℕ
outcome_values (Settled passes) = passes ∷ []
outcome_values (NoTriple pass k) = pass ∷ k ∷ []
outcome_values (Stopped passes) = passes ∷ []
outcome_values (Refused r) = r.place ∷ []

-- the number due: the refusal's, else that of how the run ended
abbrev pub number_after : Answer → Ended → ℕ
number_after (Ok u) e = end_number e
number_after (Err r) e = Refusals.number r.reason

-- the values due: the refusal's place, else those of how the run ended
abbrev pub values_after : Answer → Ended → List ℕ
values_after (Ok u) e = end_values e
values_after (Err r) e = r.place ∷ []

-- ---- what every such call promises
pub record Narrows (c : Call) : Type 0 where
  -- the outcome, and every cell afterwards
  pub outcome : c.outcome ≡ outcome_after (test_on c) (end_on c)
  pub after : c.after ≡ cells_after (test_on c) c.problem.width c.problem.cells (end_on c)
  -- the outcome by 01's number and values
  pub number : outcome_number c.outcome ≡ number_after (test_on c) (end_on c)
  pub values : outcome_values c.outcome ≡ values_after (test_on c) (end_on c)
  -- every refusal but 12 leaves the cells as they came
  pub kept : (outcome_number c.outcome ≡ 0 → ⊥) → (outcome_number c.outcome ≡ 12 → ⊥) → c.after ≡ c.problem.cells
  -- what is let pass has as many cells as it counts
  pub counted : test_on c ≡ Ok tt → length c.problem.cells ≡ c.problem.cell_count
  -- it ends as it does, with the box that its cells then hold, exactly when the allowed passes did so
  pub when : test_on c ≡ Ok tt → EndsWhen (rules_of c.problem.width) c.problem.records c.limit (box_before c) (box_after c) c.outcome
  -- demand 3, from the cells first given to the cells afterwards
  pub demand3 : Demand3 (fraction_of c.problem.width) (exponent_of c.problem.width) c.problem.records (box_before c) (box_after c) c.outcome
