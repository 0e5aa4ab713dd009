-- 01's starred sheets: computed from the definitions, but for the narrowing of wide intervals, which is a law. Assumes nothing.
use mathlib.Core.Path.{◌≡◌, refl, ap}
use mathlib.Core.List.{List, [], ◌∷◌}
use native.Mathlib.Omega.{arith}
use lib.Ieee.{size}
use lib.ListN.{length}
use Rattle.ladder.specs.Magnitude.{magnitude}
use Rattle.ladder.specs.Rounding.{excess, round}
use Rattle.ladder.specs.Ordinal.{sign, infinity, ordinal, pattern}
use Rattle.ladder.specs.Sum.{rounded, sum}
use Rattle.ladder.specs.Narrowing.{any_from, extent_from, ends}
use Rattle.ladder.proofs.Hull.{hull_narrowing, narrowing_idempotent}
use Rattle.arith.specs.Intervals.{ends_finite, is_ordered, canonical_in, canonical_of}
use Rattle.sheet.specs.declared.kept.Record.{Record}
use Rattle.propagation.specs.declared.passes.Outcome.TheVariants.{NoTriple, Stopped}
use Rattle.propagation.specs.declared.narrowing.Run.{Run}
use Rattle.sheet.specs.Faults.{head_fault, cell_fault, named_fault, record_fault}
use Rattle.sheet.specs.Sheets.{tidied, first_fault, test_lists}
use Rattle.sheet.specs.Records.{fits}
use Rattle.sheet.specs.Boxes.{Box}
use Rattle.propagation.specs.Runs.{some_values, solvable, standing, Step, left, step_from, step, whole, pass_by, pass_from, pass, settled, same_box, run_from, run}
use Rattle.propagation.specs.Outcomes.{start, next}
use Rattle.propagation.specs.Narrowings.{ran_on, narrow_sheet_of}
use Rattle.propagation.proofs.Boxes.{same_not}
use Rattle.propagation.proofs.Outcomes.{settled_exactly}
use Rattle.propagation.proofs.KindSteps.{Three, sum_step}
use Rattle.examples.specs.Starred.{Sheets, interval, point, over, sheet000, two_sums, two_sums_cells}
use Rattle.examples.proofs.Narrowings.{d_x, d_a, d_b, d_x', d_a', one, document}

-- ---- the two sums that move each other's cells
two_sums_lem :
    (◌≡◌ {A = Run} (narrow_sheet_of (two_sums 5 two_sums_cells)) (record { sheet = two_sums 5 (point 5 ∷ point 1 ∷ point 5 ∷ point 0 ∷ []); outcome = Stopped 5 }))
    × (◌≡◌ {A = Run} (narrow_sheet_of (two_sums 6 two_sums_cells)) (record { sheet = two_sums 6 two_sums_cells; outcome = NoTriple 6 0 }))
unfolding narrow_sheet_of test_lists first_fault head_fault cell_fault record_fault named_fault canonical_of canonical_in ends_finite is_ordered tidied run_from pass_from step step_from standing solvable some_values same_box fits extent_from any_from sum rounded round excess magnitude size sign infinity ordinal pattern
two_sums_lem = (refl, refl)

-- ---- document 000's sheet
abbrev records : List Record
records = over 0 1 2 ∷ []

abbrev first : Box
first = d_x ∷ d_a ∷ d_b ∷ []

abbrev last : Box
last = d_x' ∷ d_a' ∷ one ∷ []

-- over three different cells
three : (c : Box) → length c ≡ 3 → Three c (over 0 1 2)
three c e = record { x_in = omega (arith, e); a_in = omega (arith, e); b_in = omega (arith, e); a_x = λ z. omega (arith, z); b_x = λ z. omega (arith, z); b_a = λ z. omega (arith, z) }

-- a pass is its one step
by_step : (c d : Box) → step (fits 52 11) c (over 0 1 2) ≡ left d → pass (fits 52 11) records c ≡ whole d
unfolding pass_from
by_step c d h = ap (λ (s : Step). pass_by s (pass_from (fits 52 11) [] 1) 0) h

-- the first pass narrows the sum, the second moves nothing
moves : pass (fits 52 11) records first ≡ whole last
moves = by_step first last (sum_step 52 11 first (over 0 1 2) refl (three first refl) (ends d_x' d_a' one) (hull_narrowing 52 11 d_x d_a d_b d_x' d_a' one document))

still : pass (fits 52 11) records last ≡ whole last
still = by_step last last (sum_step 52 11 last (over 0 1 2) refl (three last refl) (ends d_x' d_a' one) (narrowing_idempotent 52 11 d_x d_a d_b d_x' d_a' one document))

other : first ≡ last → ⊥
unfolding same_box
other = same_not first last refl

run_settles : run (fits 52 11) records 10 first ≡ settled 2 last
run_settles = (settled_exactly (fits 52 11) records 10 first (omega arith) 2 last).1 (record { allowed = omega arith; begins = next start moves other; still = still })

-- ---- the table
pub sheets : Sheets
unfolding narrow_sheet_of test_lists first_fault head_fault cell_fault record_fault named_fault canonical_of canonical_in ends_finite is_ordered tidied ordinal pattern sign infinity
sheets = record {
  settles = ap (ran_on (sheet000 (interval 0xC630000000000000 0xC330000000000000 ∷ interval 0x3FF0000000000000 0x4630000000000000 ∷ interval 0x3FE0000000000000 0x3FF8000000000000 ∷ []))) run_settles;
  stops = two_sums_lem.0;
  breaks = two_sums_lem.1;
}
