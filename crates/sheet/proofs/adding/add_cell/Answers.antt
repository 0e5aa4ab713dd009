-- `add_cell` meets its contract: refused, the sheet as it came; else the sheet with a cell more.
-- Assumes nothing.
use mathlib.Core.Path.{ap, sym, ◌∙◌}
use lib.Dec.{ltb}
use Rattle.sheet.specs.Cells.{canonical_cell}
use Rattle.sheet.specs.Faults.{Fault}
use Rattle.sheet.specs.Sheets.{test_of, tidied, add_test, with_cell, add_cell_of}
use Rattle.sheet.proofs.Answers.{refused_old, done_new}
use Rattle.sheet.proofs.Replies.{add_cell_keeps}
use Rattle.sheet.proofs.adding.add_cell.Goals as goal

pub returns-in-Ok : goal.returns-in-Ok
unfolding add_cell_of tidied
returns-in-Ok c =
    let g = c.args in
    let s = g.sheet in
    let next = with_cell (tidied s) (canonical_cell s.width g.cell) in
    let t = ap (λ (f : Fault). add_test (test_of s) f (ltb s.cell_count 64)) (sym c.cell_fault-fault.ensures) ∙ sym c.test_addition.ensures ∙ c.in-Ok.is in
    let e = c.done.ensures ∙ rw (c.tidy.ensures, c.tidied.ensures) (done_new s next t) in
    record { value = e; keeps = add_cell_keeps s g.cell e }

pub returns-in-Err : goal.returns-in-Err
unfolding add_cell_of
returns-in-Err c =
    let g = c.args in
    let s = g.sheet in
    let t = ap (λ (f : Fault). add_test (test_of s) f (ltb s.cell_count 64)) (sym c.cell_fault-fault.ensures) ∙ sym c.test_addition.ensures ∙ c.in-Err.is in
    let e = c.refused.ensures ∙ refused_old s (with_cell (tidied s) (canonical_cell s.width g.cell)) t in
    record { value = e; keeps = add_cell_keeps s g.cell e }
