-- `machine::grid::passes` meets its contract. Assumes nothing.
use mathlib.Core.Path.{◌≡◌, sym, ◌∙◌}
use mathlib.Core.Bool.{true, true≢false}
use Rattle.ladder.proofs.Numbers.{finite_number}
use Rattle.arith.specs.Formats.{is_finite}
use Rattle.arith.proofs.Intervals.{ends_both}
use Rattle.machine.specs.Floats.{machine, is_number}
use Rattle.machine.proofs.Floats.{flag, sound_machine, fits_width}
use Rattle.machine.proofs.Gridding.{passes_over, passes_under}
use Rattle.machine.proofs.grid.passes.Given.{Over}
use Rattle.machine.proofs.grid.passes.Goals as goal
use Rattle.machine.proofs.grid.passes.Goals.{Start, Else-not-finite_at}

-- u and b's ends are numbers
numbers : (g : Over) (c : Start g) → let F = machine (flag g.row.WIDE) in (is_number F c.args.u ≡ true) × (is_number F c.args.b.low ≡ true) × (is_number F c.args.b.high ≡ true)
numbers g c =
    let F = machine (flag g.row.WIDE) in
    let e = ends_both F c.args.b c.requires.2 in
    (finite_number F.fraction F.exponent _ c.requires.1, finite_number F.fraction F.exponent _ e.0, finite_number F.fraction F.exponent _ e.1)

-- s is finite, past the first test
tested : (g : Over) (c : Else-not-finite_at g) → is_finite (machine (flag g.row.WIDE)) c.args.s ≡ true
tested g c = sym c.finite_at.ensures ∙ c.if-not-finite_at.false

pub finite_at-requires : goal.finite_at-requires
finite_at-requires g c = fits_width _ _ c.requires.0

pub returns-then-not-finite_at : goal.returns-then-not-finite_at
returns-then-not-finite_at g c h = absurd (true≢false (sym h))

pub at_most-requires : goal.at_most-requires
at_most-requires g c = (c.requires.0, (numbers g (goal.at.at_most-requires g c).Start).2)

pub opposite-requires : goal.opposite-requires
opposite-requires g c = (numbers g (goal.at.opposite-requires g c).Start).0

pub add-requires : goal.add-requires
add-requires g c = (c.requires.0, c.opposite.ensures.finite c.requires.1)

pub at_most-requires-then-not-at_most : goal.at_most-requires-then-not-at_most
at_most-requires-then-not-at_most g c = ((numbers g (goal.at.at_most-requires-then-not-at_most g c).Start).1, c.add.ensures.number)

pub returns-then-not-at_most : goal.returns-then-not-at_most
returns-then-not-at_most g c h =
    let F = machine (flag g.row.WIDE) in
    let o = c.opposite in
    let v = c.add in
    passes_over F (sound_machine (flag g.row.WIDE)) c.args.s c.args.u c.args.b (tested g (goal.at.returns-then-not-at_most g c).Else-not-finite_at) o.result v.result c.at_most.result c.at_most-then-not-at_most.result c.at_most.ensures c.if-not-at_most.true o.ensures v.ensures c.at_most-then-not-at_most.ensures h

pub at_most-requires-2 : goal.at_most-requires-2
at_most-requires-2 g c = ((numbers g (goal.at.at_most-requires-2 g c).Start).1, c.requires.0)

pub at_most-requires-then-not-at_most-2 : goal.at_most-requires-then-not-at_most-2
at_most-requires-then-not-at_most-2 g c = (c.add-then-not-at_most-2.ensures.number, (numbers g (goal.at.at_most-requires-then-not-at_most-2 g c).Start).2)

pub returns-then-not-at_most-2 : goal.returns-then-not-at_most-2
returns-then-not-at_most-2 g c h =
    let F = machine (flag g.row.WIDE) in
    let v = c.add-then-not-at_most-2 in
    passes_under F (sound_machine (flag g.row.WIDE)) c.args.s c.args.u c.args.b (tested g (goal.at.returns-then-not-at_most-2 g c).Else-not-finite_at) v.result c.at_most-2.result c.at_most-then-not-at_most-2.result c.at_most-2.ensures c.if-not-at_most-2.true v.ensures c.at_most-then-not-at_most-2.ensures h

pub returns : goal.returns
returns g c h = absurd (true≢false (sym h))
