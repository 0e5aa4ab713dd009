-- What a call promises, once for kept sheets and lent lists: from its outcome and its cells, which are those of its test and its run, follows all the rest. And no call widens its box.
-- Assumes nothing.
use Rattle.std.specs.Prelude.{Ok, Err}
use mathlib.Core.Path.{◌≡◌, refl, ap, ◌∙◌}
use mathlib.Core.List.{List}
use Prim.Native.Nat.{ℕ}
use lib.ListN.{length}
use Rattle.arith.specs.declared.interval.Interval.{Interval}
use Rattle.arith.specs.declared.refusal.Refusal.{Refusal}
use Rattle.sheet.specs.Sheets.{Answer}
use Rattle.sheet.specs.Boxes.{Box, IsBox, Contains}
use Rattle.sheet.specs.Cells.{fraction_of, exponent_of, rules_of, box_of, cells_of}
use Rattle.sheet.proofs.Tested.{tested}
use Rattle.propagation.specs.declared.passes.Outcome.TheVariants.{Refused}
use Rattle.propagation.specs.Runs.{Ended, settled, stopped, no_triple, left_by, last_box}
use Rattle.propagation.specs.Consistency.{AllNames, Demand3}
use Rattle.propagation.specs.Calls.{Call, box_before, box_after, test_on, end_on, outcome_by, outcome_after, cells_after, outcome_number, outcome_values, number_after, values_after, Narrows}
use Rattle.propagation.specs.Planning.{InsideOrFails}
use Rattle.propagation.proofs.Boxes.{contains_self}
use Rattle.propagation.proofs.Shrinking.{run_inside, run_box}
use Rattle.propagation.proofs.Demand.{run_demand3}
use Rattle.propagation.proofs.Outcomes.{ends_when}
use Rattle.propagation.proofs.Places.{box_written}
use Rattle.propagation.proofs.Started.{first_box, first_names}

-- ---- by 01's numbers
number_after_lem : (t : Answer) (e : Ended) → outcome_number (outcome_after t e) ≡ number_after t e
number_after_lem (Ok u) (settled p box) = refl
number_after_lem (Ok u) (stopped p box) = refl
number_after_lem (Ok u) (no_triple p k) = refl
number_after_lem (Err r) e = refl

values_after_lem : (t : Answer) (e : Ended) → outcome_values (outcome_after t e) ≡ values_after t e
values_after_lem (Ok u) (settled p box) = refl
values_after_lem (Ok u) (stopped p box) = refl
values_after_lem (Ok u) (no_triple p k) = refl
values_after_lem (Err r) e = refl

-- every number but 0 and 12 leaves what there was
pub left_by_lem : {A : Type 0} (make : Box → A) (old : A) (e : Ended) → (outcome_number (outcome_by e) ≡ 0 → ⊥) → (outcome_number (outcome_by e) ≡ 12 → ⊥) → left_by make old e ≡ old
left_by_lem make old (settled p box) a b = absurd (a refl)
left_by_lem make old (stopped p box) a b = absurd (b refl)
left_by_lem make old (no_triple p k) a b = refl

left_after : (t : Answer) (width : ℕ) (cells : List Interval) (e : Ended) → (outcome_number (outcome_after t e) ≡ 0 → ⊥) → (outcome_number (outcome_after t e) ≡ 12 → ⊥) → cells_after t width cells e ≡ cells
left_after (Ok u) width cells e = left_by_lem (cells_of width) cells e
left_after (Err r) width cells e = λ a b. refl

-- ---- the box of the cells that a run leaves
left_box :
    (width n : ℕ) (cells : List Interval) (e : Ended) → IsBox (fraction_of width) (exponent_of width) n (last_box (box_of width cells) e) →
    box_of width (left_by (cells_of width) cells e) ≡ last_box (box_of width cells) e
left_box width n cells (settled p box) b = box_written width n box b
left_box width n cells (stopped p box) b = box_written width n box b
left_box width n cells (no_triple p k) b = refl

-- ---- what a call answers
pub record Answered (c : Call) : Type 0 where
  pub outcome : c.outcome ≡ outcome_after (test_on c) (end_on c)
  pub after : c.after ≡ cells_after (test_on c) c.problem.width c.problem.cells (end_on c)
  pub counted : test_on c ≡ Ok tt → length c.problem.cells ≡ c.problem.cell_count

pub answered : (c : Call) → Narrows c → Answered c
answered c h = record { outcome = h.outcome; after = h.after; counted = h.counted }

module _ (c : Call) (h : Answered c) where
  -- refused
  pub call_refused : (r : Refusal) → test_on c ≡ Err r → (c.outcome ≡ Refused r) × (c.after ≡ c.problem.cells)
  call_refused r t = (h.outcome ∙ ap (λ (a : Answer). outcome_after a (end_on c)) t, h.after ∙ ap (λ (a : Answer). cells_after a c.problem.width c.problem.cells (end_on c)) t)

  -- let pass
  module _ (t : test_on c ≡ Ok tt) where
    pub call_ran : c.outcome ≡ outcome_by (end_on c)
    call_ran = h.outcome ∙ ap (λ (a : Answer). outcome_after a (end_on c)) t

    pub call_left : c.after ≡ left_by (cells_of c.problem.width) c.problem.cells (end_on c)
    call_left = h.after ∙ ap (λ (a : Answer). cells_after a c.problem.width c.problem.cells (end_on c)) t

    first_is : IsBox (fraction_of c.problem.width) (exponent_of c.problem.width) (length (box_before c)) (box_before c)
    first_is = first_box _ _ _ _ _ _ t (h.counted t)

    -- its records name cells of its box
    pub call_names : AllNames (length (box_before c)) c.problem.records
    call_names = first_names _ _ _ _ _ _ t (h.counted t)

    -- its box is that of its run
    pub call_box : box_after c ≡ last_box (box_before c) (end_on c)
    call_box =
        let w = c.problem.width in
        ap (box_of w) call_left
        ∙ left_box w _ c.problem.cells (end_on c) (run_box (rules_of w) (fraction_of w) (exponent_of w) (length (box_before c)) c.problem.records c.limit (box_before c) first_is)

  call_demand3 : Demand3 (fraction_of c.problem.width) (exponent_of c.problem.width) c.problem.records (box_before c) (box_after c) c.outcome
  call_demand3 = go (test_on c) refl
    where
      go : (a : Answer) → test_on c ≡ a → Demand3 (fraction_of c.problem.width) (exponent_of c.problem.width) c.problem.records (box_before c) (box_after c) c.outcome
      go (Ok u) t = rw (call_ran t, call_box t) (run_demand3 (fraction_of c.problem.width) (exponent_of c.problem.width) c.problem.records c.limit (box_before c) (first_is t) (call_names t))
      go (Err r) t = rw (call_refused r t).0 tt

  -- all that it promises
  pub narrows : Narrows c
  narrows = record {
    outcome = h.outcome;
    after = h.after;
    number = ap outcome_number h.outcome ∙ number_after_lem (test_on c) (end_on c);
    values = ap outcome_values h.outcome ∙ values_after_lem (test_on c) (end_on c);
    kept = λ a b. h.after ∙ left_after (test_on c) c.problem.width c.problem.cells (end_on c) (λ z. a (ap outcome_number h.outcome ∙ z)) (λ z. b (ap outcome_number h.outcome ∙ z));
    counted = h.counted;
    when = λ t. ends_when (rules_of c.problem.width) c.problem.records c.limit (box_before c) (tested _ _ _ _ _ _ t).head.some c.outcome (box_after c) (call_ran t) (call_box t);
    demand3 = call_demand3;
  }

-- ---- the box after any call lies inside the box before it
pub call_inside : (c : Call) → Answered c → Contains (box_before c) (box_after c)
call_inside c h = go (test_on c) refl
  where
    by_end : (e : Ended) → InsideOrFails (box_before c) e → Contains (box_before c) (last_box (box_before c) e)
    by_end (settled p box) w = w
    by_end (stopped p box) w = w
    by_end (no_triple p k) w = contains_self (box_before c)

    go : (a : Answer) → test_on c ≡ a → Contains (box_before c) (box_after c)
    go (Ok u) t = rw (call_box c h t) (by_end (end_on c) (run_inside (rules_of c.problem.width) c.problem.records c.limit (box_before c)))
    go (Err q) t = rw (call_refused c h q t).1 (contains_self (box_before c))
