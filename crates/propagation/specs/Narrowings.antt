-- The whole answer of narrowing a kept sheet, and what it promises. Assumes nothing.
use Rattle.std.specs.Prelude.{◌≡◌, Ok, Err}
use Rattle.sheet.specs.declared.kept.Sheet.{Sheet}
use Rattle.sheet.specs.Boxes.{Box}
use Rattle.sheet.specs.Sheets.{Answer, places, tidied, with_cells, test_of}
use Rattle.propagation.specs.declared.passes.Outcome.TheVariants.{Refused}
use Rattle.propagation.specs.declared.narrowing.Run.{Run}
use Rattle.propagation.specs.Runs.{Ended, left_by}
use Rattle.propagation.specs.Calls.{kept_problem, kept_call, run_on, outcome_by, outcome_number, Narrows}

-- the run of a sheet, from the cells in use
abbrev pub end_of : Sheet → Ended
end_of s = run_on (kept_problem s) s.limit

-- the sheet with a box in its cells, each end in its one pattern, unused places zero
abbrev pub with_box : Sheet → Box → Sheet
with_box s box = with_cells (tidied s) (places s.width s.cell_count box)

-- the answer of a run that ended so: the sheet with its box; under 'no triple' the sheet as it came
abbrev pub ran_on : Sheet → Ended → Run
ran_on s e = record { sheet = left_by (with_box s) s e; outcome = outcome_by e }

-- the sheet's own test first, then the run from its cells in use
abbrev pub run_after : Answer → Sheet → Run
run_after (Ok u) s = ran_on s (end_of s)
run_after (Err r) s = record { sheet = s; outcome = Refused r }

-- narrowing a kept sheet
unfoldable pub narrow_sheet_of : Sheet → Run
narrow_sheet_of s = run_after (test_of s) s

-- what the call promises
pub record NarrowsSheet (s : Sheet) (r : Run) : Type 0 where
  -- the outcome, and the whole sheet afterwards
  pub answer : r ≡ narrow_sheet_of s
  -- every refusal but 12 leaves the sheet as it came
  pub kept : (outcome_number r.outcome ≡ 0 → ⊥) → (outcome_number r.outcome ≡ 12 → ⊥) → r.sheet ≡ s
  -- what every call promises of the cells in use
  pub call : Narrows (kept_call s r)
