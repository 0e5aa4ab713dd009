-- `machine::end::ends_of_b` meets its contract. Assumes nothing.
use mathlib.Core.Path.{sym, subst, ◌∙◌}
use mathlib.Core.Bool.{true≢false}
use Prim.Native.Nat.{ℕ, ◌≤◌}
use native.Mathlib.Omega.{arith}
use Rattle.std.proofs.lemmas.Option.{same_Some}
use Rattle.arith.specs.declared.format.Format.{Format}
use Rattle.arith.specs.declared.interval.Interval.{Interval}
use Rattle.arith.specs.Formats.{ordinal}
use Rattle.arith.proofs.Formats.{both}
use Rattle.machine.specs.declared.guess.Pair.{Pair}
use Rattle.machine.specs.Floats.{machine}
use Rattle.machine.specs.Shortcuts.{left_x, left_a, CornersOf, EndsOfB}
use Rattle.machine.proofs.Floats.{flag}
use Rattle.machine.proofs.KnownEnds.{ends_of_lem}
use Rattle.machine.proofs.Shortcutting.{ends_settled}
use Rattle.machine.proofs.end.ends_of_b.Goals as goal

-- b's ends are in order, since a sum lies between them
in_order : (F : Format) (p q : Pair) (u : ℕ) (b : Interval) → CornersOf F p q u b → ordinal F b.low ≤ ordinal F b.high
in_order F p q u b c = omega (arith, c.corners.first.low, c.corners.first.high)

pub attained-requires : goal.attained-requires
attained-requires g c =
    let F = machine (flag g.row.WIDE) in
    let p = c.args.p in
    let q = c.args.q in
    let r = c.requires in
    rw c.left_of.ensures (ends_of_lem F (left_x p q) r.first.low r.second.high, ends_of_lem F (left_a p q) r.second.low r.first.high, r.finite, r.bounds.x_order, r.bounds.a_order)

pub returns-else-not-attained : goal.returns-else-not-attained
returns-else-not-attained g c i e =
    let F = machine (flag g.row.WIDE) in
    let z = c.args in
    subst (EndsOfB F z.p z.q z.b) (same_Some _ i e)
    (ends_settled F z.b z.p z.q (in_order F z.p z.q z.u z.b c.requires) c.low_end-low.result c.high_end-high.result c.low_end-low.ensures c.high_end-high.ensures (rw c.left_of.ensures at (c.attained.ensures c.if-not-attained.false)))

pub returns-else-not-low-high : goal.returns-else-not-low-high
returns-else-not-low-high g c i e =
    let F = machine (flag g.row.WIDE) in
    let z = c.args in
    let k = both c.low_end-low.result.known c.high_end-high.result.known c.if-not-low-high.false in
    subst (EndsOfB F z.p z.q z.b) (same_Some _ i e)
    (ends_settled F z.b z.p z.q (in_order F z.p z.q z.u z.b c.requires) c.low_end-low.result c.high_end-high.result c.low_end-low.ensures c.high_end-high.ensures
    (λ h. absurd (true≢false (sym k.0 ∙ h)), λ h. absurd (true≢false (sym k.1 ∙ h))))
