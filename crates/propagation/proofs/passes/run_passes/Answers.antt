-- `run_passes` meets its contract. The invariants: what is left of a pass, and of the run, gives the same end as the whole; and the cells stand for a box. Each exit is a law of Runs.
-- Assumes nothing.
use borrow.Author.Rules.{rules}
use native.Mathlib.Omega.{arith}
use Rattle.propagation.proofs.Steps.{step_on, step_off, compared}
use Rattle.propagation.proofs.Comparing.{compares}
use Rattle.propagation.proofs.Runs.{pass_on, pass_off, pass_end, run_broken, run_settled, run_stopped, run_next}
use Rattle.sheet.specs.Cells.{rules_of}
use Rattle.propagation.specs.Loops.{box_in, EndsAs}
use Rattle.propagation.specs.Runs.{whole, pass_from, same_box}
use Rattle.sheet.specs.Sheets.{no_record, used_records}
use Rattle.sheet.specs.Records.{Names}
use lib.ListN.{length, get_or}
use Prim.Native.Nat.{◌-◌}
use mathlib.Core.Path.{◌≡◌, refl, sym, subst, ◌∙◌}
use Rattle.propagation.proofs.passes.run_passes.Goals as goal
use Rattle.propagation.proofs.passes.run_passes.Goals.{In-records, After-records, After-eq}

-- the record at hand names cells of the sheet, and so places
names : (c : In-records) → let s = c.args.sheet in Names s.cell_count (get_or s.records c.records.k no_record)
names c = c.requires.names c.records.k (omega arith)

-- a pass that has left the inner loop at its end gave the box that stands there
went-through :
    (c : After-records) →
    let s = c.args.sheet in
    pass_from (rules_of s.width) (used_records s) 0 (box_in s.width s.cell_count c.passes.cells) ≡ whole (box_in s.width s.cell_count c.records.cells)
went-through c =
    let s = c.args.sheet in
    let l = c.records in
    sym l.invariant.1 ∙ pass_end (rules_of s.width) s.records s.record_count l.k (box_in s.width s.cell_count l.cells) (omega arith)

-- the comparison of the cells is that of the boxes
sames :
    (c : After-eq) →
    let s = c.args.sheet in
    same_box (box_in s.width s.cell_count c.passes.cells) (box_in s.width s.cell_count c.records.cells) ≡ c.eq.result
sames c =
    let s = c.args.sheet in
    compared s.width s.cell_count c.passes.cells c.records.cells c.passes.invariant.1 c.records.invariant.2 c.eq.result (compares _ _ c.eq.result c.eq.ensures)

pub records-preserved : goal.records-preserved
records-preserved c =
    let s = c.args.sheet in
    let h = c.requires in
    let l = c.records in
    let n : length s.records ≡ 128 = search rules in
    let few = h.few_records in
    let o = step_on s.width s.cell_count h.known (get_or s.records l.k no_record) (names (goal.at.records-preserved c).In-records) l.cells l.invariant.2 _ (sym c.narrow_record.ensures ∙ c.in-Ok.is) in
    (omega arith, sym (pass_on (rules_of s.width) s.records s.record_count l.k (box_in s.width s.cell_count l.cells) _ (omega arith) (omega arith) o.0) ∙ l.invariant.1, o.1)

pub passes-preserved : goal.passes-preserved
passes-preserved c =
    let s = c.args.sheet in
    let p = c.passes in
    let l = c.records in
    (sym (run_next (rules_of s.width) (used_records s) p.pass (box_in s.width s.cell_count p.cells) s.limit (box_in s.width s.cell_count l.cells) (went-through (goal.at.passes-preserved c).After-records) (sames (goal.at.passes-preserved c).After-eq ∙ c.if-eq.false) c.if-limit-pass.false) ∙ p.invariant.0, l.invariant.2)

pub returns-in_default : goal.returns-in_default
returns-in_default c =
    let s = c.args.sheet in
    let h = c.requires in
    let p = c.passes in
    let l = c.records in
    let n : length s.records ≡ 128 = search rules in
    let few = h.few_records in
    let off = step_off s.width s.cell_count h.known (get_or s.records l.k no_record) (names (goal.at.returns-in_default c).In-records) l.cells l.invariant.2 _ (sym c.narrow_record.ensures ∙ c.in_default.is) in
    let gone = sym l.invariant.1 ∙ pass_off (rules_of s.width) s.records s.record_count l.k (box_in s.width s.cell_count l.cells) (omega arith) (omega arith) off in
    let end = sym p.invariant.0 ∙ run_broken (rules_of s.width) (used_records s) p.pass (box_in s.width s.cell_count p.cells) (s.limit - p.pass) l.k gone in
    subst (EndsAs s _) (sym end) refl

pub returns-then-eq : goal.returns-then-eq
returns-then-eq c =
    let s = c.args.sheet in
    let p = c.passes in
    let l = c.records in
    let end = sym p.invariant.0 ∙ run_settled (rules_of s.width) (used_records s) p.pass (box_in s.width s.cell_count p.cells) (s.limit - p.pass) (box_in s.width s.cell_count l.cells) (went-through (goal.at.returns-then-eq c).After-records) (sames (goal.at.returns-then-eq c).After-eq ∙ c.if-eq.true) in
    subst (EndsAs s _) (sym end) (refl, l.invariant.2.held)

pub returns-then-limit-pass : goal.returns-then-limit-pass
returns-then-limit-pass c =
    let s = c.args.sheet in
    let p = c.passes in
    let l = c.records in
    let end = sym p.invariant.0 ∙ run_stopped (rules_of s.width) (used_records s) p.pass (box_in s.width s.cell_count p.cells) s.limit (box_in s.width s.cell_count l.cells) (went-through (goal.at.returns-then-limit-pass c).After-records) (sames (goal.at.returns-then-limit-pass c).After-eq ∙ c.if-eq.false) c.if-limit-pass.true in
    subst (EndsAs s _) (sym end) (refl, l.invariant.2.held)
