-- 01's step, pass and run over a box, exactly as 'The run, written out' has them, with 'record' for 'sum' (02), under any rules. Assumes nothing.
use Rattle.std.specs.Prelude.{Bool, true, false, cond, ◌&&◌, List, [], ◌∷◌, ℕ, zero, suc, ◌+◌, ◌-◌, eqb, set}
use Rattle.ladder.specs.Solution.{Interval}
use Rattle.ladder.specs.Narrowing.{any_in, Extent, empty, over, extent_in}
use Rattle.sheet.specs.Records.{named, Values, Rules}
use Rattle.sheet.specs.declared.kept.Record.{Record}
use Rattle.sheet.specs.Boxes.{Box, at}

-- ---- the solutions of a record inside a box
-- v with y at cell i
abbrev pub assigned : Values → ℕ → ℕ → Values
assigned v i y j = cond (eqb j i) y (v j)

-- whether some values of these cells, each from its interval in the box, pass the test; the other cells have theirs in v, and a cell listed twice has its last one
unfoldable pub some_values : Box → List ℕ → (Values → Bool) → Values → Bool
some_values box [] t v = t v
some_values box (i ∷ is) t v = any_in (at box i) (λ y. some_values box is t (assigned v i y))

-- whether the record has a solution inside the box: 01's triple, 02's pair
unfoldable pub solvable : Rules → Box → Record → Bool
solvable rules box r = some_values box (named r) (rules r) (λ _. 0)

-- the box with cell i held at y
abbrev pub held : Box → ℕ → ℕ → Box
held box i y = set box i (record { low = y; high = y })

-- from the least to the greatest value of cell i that stands in a solution: those at which the record still has one
unfoldable pub standing : Rules → Box → Record → ℕ → Extent
standing rules box r i = extent_in (at box i) (λ y. solvable rules (held box i y) r)

-- ---- one record on the present box
-- that it has no solution there, or the box it leaves
pub data Step : Type 0 where
  unsolved : Step
  left : Box → Step

-- after a cell: there is no solution, or on to the next cell with what stands at this one
abbrev pub step_by : Extent → (Interval → Step) → Step
step_by empty next = unsolved
step_by (over I) next = next I

-- these cells of the record, one after the other: each gets the least and greatest value that stands at it in a solution inside the box
unfoldable pub step_from : Rules → Box → Record → List ℕ → Box → Step
step_from rules box r [] new = left new
step_from rules box r (i ∷ is) new = step_by (standing rules box r i) (λ I. step_from rules box r is (set new i I))

-- 01's step: every cell that the record names gets the least and greatest value that stands at it, or the record has no solution
unfoldable pub step : Rules → Box → Record → Step
step rules box r = step_from rules box r (named r) box

-- ---- a pass: each record once, in sheet order, each on the box left by the one before
-- the number of the first record without a solution, where it breaks off; or the box after the last record
pub data Pass : Type 0 where
  broken : ℕ → Pass
  whole : Box → Pass

-- after a step of record k: break off, or go on with the box it leaves
abbrev pub pass_by : Step → (Box → Pass) → ℕ → Pass
pass_by unsolved next k = broken k
pass_by (left box) next k = next box

-- the records from number k on
unfoldable pub pass_from : Rules → List Record → ℕ → Box → Pass
pass_from rules [] k box = whole box
pass_from rules (r ∷ rs) k box = pass_by (step rules box r) (pass_from rules rs (k + 1)) k

-- a whole pass, from record 0 on
abbrev pub pass : Rules → List Record → Box → Pass
pass rules records box = pass_from rules records 0 box

-- ---- the run
-- how it ends: settled, or stopped, at a pass, with the box; or at a pass and a record without a solution
pub data Ended : Type 0 where
  settled : ℕ → Box → Ended
  stopped : ℕ → Box → Ended
  no_triple : ℕ → ℕ → Ended

-- whether two boxes are equal, by place
unfoldable pub same_box : Box → Box → Bool
same_box [] [] = true
same_box [] (J ∷ js) = false
same_box (I ∷ is) [] = false
same_box (I ∷ is) (J ∷ js) = eqb I.low J.low && (eqb I.high J.high && same_box is js)

-- after pass p, which began with the box: a record without a solution ends the run; equal, it ends settled; unequal, it goes on
abbrev pub run_by : (Box → Ended) → ℕ → Box → Pass → Ended
run_by next p box (broken k) = no_triple p k
run_by next p box (whole new) = cond (same_box box new) (settled p new) (next new)

-- pass p, and at most so many after it; unequal with none left, it ends stopped at p
unfoldable pub run_from : Rules → List Record → ℕ → ℕ → Box → Ended
run_from rules records zero p box = run_by (stopped p) p box (pass rules records box)
run_from rules records (suc more) p box = run_by (run_from rules records more (p + 1)) p box (pass rules records box)

-- the run from the box first given: passes count from 1 up to the limit (limit 0 is refusal 7)
abbrev pub run : Rules → List Record → ℕ → Box → Ended
run rules records limit first = run_from rules records (limit - 1) 1 first

-- what a caller gets, made of the box that it leaves; under 'no triple' the caller keeps the old
abbrev pub left_by : {A : Type 0} → (Box → A) → A → Ended → A
left_by make old (settled p box) = make box
left_by make old (stopped p box) = make box
left_by make old (no_triple p k) = old

-- the box that the cells then hold: under 'no triple' the one first given
abbrev pub last_box : Box → Ended → Box
last_box first (settled p box) = box
last_box first (stopped p box) = box
last_box first (no_triple p k) = first

-- 01's number: 0 settled, 12 stopped, 11 no triple
abbrev pub end_number : Ended → ℕ
end_number (settled p box) = 0
end_number (stopped p box) = 12
end_number (no_triple p k) = 11

-- 01's values: the passes made; or pass and record
abbrev pub end_values : Ended → List ℕ
end_values (settled p box) = p ∷ []
end_values (stopped p box) = p ∷ []
end_values (no_triple p k) = p ∷ k ∷ []
