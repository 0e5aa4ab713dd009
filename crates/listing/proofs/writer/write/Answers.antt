-- `write` meets its contract: a refusal leaves the buffer, any other outcome is written. Assumes nothing.
use Rattle.arith.specs.declared.refusal.Refusal.{Refusal}
use Rattle.propagation.specs.declared.passes.Outcome.{Outcome}
use Rattle.propagation.specs.declared.passes.Outcome.TheVariants.{Settled, NoTriple, Stopped, Refused}
use Rattle.std.specs.Prelude.{Err}
use mathlib.Core.Path.{◌≡◌, refl}
use Rattle.listing.proofs.Delivering.{run_written}
use Rattle.listing.specs.Buffers.{unless_refused, written_by, buffer_by}
use Rattle.listing.proofs.writer.write.Goals as goal

-- an outcome that is no refusal
not_refused : {A : Type 0} (o : Outcome) (refused : Refusal → A) (rest : A) → ((r : Refusal) → o ≡ Refused r → ⊥) → unless_refused o refused rest ≡ rest
not_refused (Settled p) refused rest h = refl
not_refused (NoTriple p k) refused rest h = refl
not_refused (Stopped p) refused rest h = refl
not_refused (Refused r) refused rest h = absurd (h r refl)

pub returns-in-Refused : goal.returns-in-Refused
unfolding written_by buffer_by
returns-in-Refused c =
    let s = c.args in
    run_written s.sheet s.out.now _ _ (rw (← c.narrow_sheet-run.ensures.answer, c.in-Refused.is)) (rw (← c.narrow_sheet-run.ensures.answer, c.in-Refused.is))

pub returns : goal.returns
unfolding written_by buffer_by
returns c =
    let s = c.args in
    let o = c.narrow_sheet-run.result.outcome in
    let k = c.in_default.not-Refused in
    run_written s.sheet s.out.now _ _
    (rw (← c.narrow_sheet-run.ensures.answer, not_refused o Err _ k) c.write_run.ensures.0)
    (rw (← c.narrow_sheet-run.ensures.answer, not_refused o (λ _. s.out.now) _ k) c.write_run.ensures.1)
