-- `tazsmibor::floats::narrow_floats` meets its contract where the narrowing has ends. Assumes nothing.
use Rattle.std.proofs.Common.{sym, ◌∙◌}
use Rattle.tazsmibor.proofs.Floating.{finite_ends, floats_ends, floats_reply}
use Rattle.tazsmibor.proofs.floats.narrow_floats.Goals as goal

pub float_ends-requires : goal.float_ends-requires
float_ends-requires c = let a = c.args in finite_ends a.x a.a a.b c.in-Ok.narrowed (sym c.in-Ok.is ∙ c.narrow.ensures.value)

pub returns-in-Ok : goal.returns-in-Ok
returns-in-Ok c =
    let a = c.args in
    let e = floats_ends a.x a.a a.b c.in-Ok.narrowed c.float_ends.ensures (sym c.in-Ok.is ∙ c.narrow.ensures.value) in
    record { value = e; reply = floats_reply a.x a.a a.b e }
