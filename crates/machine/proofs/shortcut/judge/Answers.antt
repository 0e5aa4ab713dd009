-- `machine::shortcut::judge` meets its contract. Assumes nothing.
use mathlib.Core.Path.{refl, sym, ap₂, ◌∙◌}
use mathlib.Core.Bool.{◌&&◌}
use native.Mathlib.Nat.{le_refl}
use borrow.Author.Tests.{leb-true}
use Rattle.ladder.proofs.Sum.{sum_comm}
use Rattle.arith.specs.Formats.{ordinal}
use Rattle.arith.proofs.Formats.{both}
use Rattle.arith.proofs.Refusing.{holds, fails}
use Rattle.machine.specs.Floats.{machine}
use Rattle.machine.specs.Shortcuts.{Bounds}
use Rattle.machine.proofs.Floats.{flag, sound_machine}
use Rattle.machine.proofs.Shortcutting.{disorder_none, passes_none}
use Rattle.machine.proofs.shortcut.judge.Given.{Over}
use Rattle.machine.proofs.shortcut.judge.Goals as goal
use Rattle.machine.proofs.shortcut.judge.Goals.{Else-not-at_most}

-- the trims are bounds in order
bounds : (g : Over) (c : Else-not-at_most g) → Bounds (machine (flag g.row.WIDE)) c.args.p c.args.q
bounds g c =
    let t = both _ _ (holds refl c.if-not-at_most.false) in
    record {
      x_order = leb-true _ _ (sym c.at_most.ensures ∙ t.0);
      a_order = leb-true _ _ (sym c.at_most-2.ensures ∙ t.1);
    }

pub returns-then-not-at_most : goal.returns-then-not-at_most
returns-then-not-at_most g c =
    let F = machine (flag g.row.WIDE) in
    disorder_none F (sound_machine (flag g.row.WIDE)) c.args.x c.args.a c.args.b c.args.p c.args.q c.requires.0 (sym (ap₂ ◌&&◌ c.at_most.ensures c.at_most-2.ensures) ∙ fails refl c.if-not-at_most.true)

pub returns-then-within : goal.returns-then-within
returns-then-within g c =
    let t = both _ _ c.if-within.true in
    let i = both _ _ (sym c.within.ensures ∙ t.0) in
    let j = both _ _ (sym c.within-2.ensures ∙ t.1) in
    (bounds g (goal.at.returns-then-within g c).Else-not-at_most, record { first = record { low = leb-true _ _ i.0; high = leb-true _ _ i.1 }; second = record { low = leb-true _ _ j.0; high = leb-true _ _ j.1 } })

pub returns-then-passes : goal.returns-then-passes
returns-then-passes g c =
    let F = machine (flag g.row.WIDE) in
    let o = bounds g (goal.at.returns-then-passes g c).Else-not-at_most in
    passes_none F (sound_machine (flag g.row.WIDE)) c.args.x c.args.a c.args.b c.args.p c.args.q c.requires.0
    c.args.u c.args.p.sum (ordinal F c.args.p.low) (ordinal F c.args.p.high) c.requires.3 c.requires.1 (record { low = le_refl _; high = o.x_order }) (record { low = o.a_order; high = le_refl _ })
    c.requires.0.first.summed.is (c.passes.ensures c.if-passes.true)

pub returns : goal.returns
returns g c =
    let F = machine (flag g.row.WIDE) in
    let o = bounds g (goal.at.returns g c).Else-not-at_most in
    passes_none F (sound_machine (flag g.row.WIDE)) c.args.x c.args.a c.args.b c.args.p c.args.q c.requires.0
    c.args.u c.args.q.sum (ordinal F c.args.q.high) (ordinal F c.args.q.low) c.requires.3 c.requires.1 (record { low = o.x_order; high = le_refl _ }) (record { low = le_refl _; high = o.a_order })
    (c.requires.0.second.summed.is ∙ sum_comm F.fraction F.exponent (ordinal F c.args.q.low) (ordinal F c.args.q.high)) (c.passes-2.ensures (holds refl c.if-not-passes.false))
