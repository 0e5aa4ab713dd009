-- `add_record` meets its contract: refused, the sheet as it came; else the sheet with a record more.
-- Assumes nothing.
use mathlib.Core.Path.{ap, sym, ◌∙◌}
use lib.Dec.{ltb}
use Rattle.sheet.specs.Faults.{Fault}
use Rattle.sheet.specs.Sheets.{test_of, tidied, add_test, with_record, add_record_of}
use Rattle.sheet.proofs.Answers.{refused_old, done_new}
use Rattle.sheet.proofs.Replies.{add_record_keeps}
use Rattle.sheet.proofs.adding.add_record.Goals as goal

pub returns-in-Ok : goal.returns-in-Ok
unfolding add_record_of tidied
returns-in-Ok c =
    let g = c.args in
    let s = g.sheet in
    let next = with_record (tidied s) g.«record» in
    let t = ap (λ (f : Fault). add_test (test_of s) f (ltb s.record_count 128)) (sym c.record_fault-fault.ensures) ∙ sym c.test_addition.ensures ∙ c.in-Ok.is in
    let e = c.done.ensures ∙ rw c.tidy.ensures (done_new s next t) in
    record { value = e; keeps = add_record_keeps s g.«record» e }

pub returns-in-Err : goal.returns-in-Err
unfolding add_record_of
returns-in-Err c =
    let g = c.args in
    let s = g.sheet in
    let t = ap (λ (f : Fault). add_test (test_of s) f (ltb s.record_count 128)) (sym c.record_fault-fault.ensures) ∙ sym c.test_addition.ensures ∙ c.in-Err.is in
    let e = c.refused.ensures ∙ refused_old s (with_record (tidied s) g.«record») t in
    record { value = e; keeps = add_record_keeps s g.«record» e }
