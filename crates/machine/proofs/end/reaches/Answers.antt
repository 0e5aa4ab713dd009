-- `machine::end::reaches` meets its contract. Assumes nothing.
use mathlib.Core.Path.{◌≡◌}
use mathlib.Core.Bool.{true}
use Prim.Native.Nat.{ℕ}
use lib.Dec.{leb}
use Rattle.ladder.specs.Solution.{In}
use Rattle.arith.specs.Formats.{ordinal}
use Rattle.arith.proofs.Intervals.{ends_both}
use Rattle.machine.specs.Floats.{machine, is_number, ordinals}
use Rattle.machine.proofs.Floats.{flag, number_of, chosen}
use Rattle.machine.proofs.KnownEnds.{inside_finite, clipped, made}
use Rattle.machine.proofs.end.reaches.Given.{Over}
use Rattle.machine.proofs.end.reaches.Goals as goal
use Rattle.machine.proofs.end.reaches.Goals.{After-lesser-y}

-- y lies inside i
inside : (g : Over) (c : After-lesser-y g) → let z = c.args in In (ordinals (machine (flag g.row.WIDE)) z.i) (ordinal (machine (flag g.row.WIDE)) c.lesser-y.result)
inside g c =
    clipped (machine (flag g.row.WIDE)) c.args.i c.add.result c.greater.result c.lesser-y.result c.requires.3 c.greater.ensures c.lesser-y.ensures

pub opposite-requires : goal.opposite-requires
opposite-requires g c = number_of (machine (flag g.row.WIDE)) c.args.c c.requires.0

pub add-requires : goal.add-requires
add-requires g c = (number_of (machine (flag g.row.WIDE)) c.args.b c.requires.2, c.opposite.ensures.finite c.requires.0)

pub greater-requires : goal.greater-requires
greater-requires g c =
    let F = machine (flag g.row.WIDE) in
    (c.add.ensures.number, number_of F c.args.i.low (ends_both F c.args.i c.requires.1).0)

pub lesser-y-requires : goal.lesser-y-requires
lesser-y-requires g c =
    let F = machine (flag g.row.WIDE) in
    let e = ends_both F c.args.i c.requires.1 in
    let d = c.add.result in
    let l = c.args.i.low in
    (chosen (λ (p : ℕ). is_number F p ≡ true) (leb (ordinal F d) (ordinal F l)) c.greater.result l d c.greater.ensures (number_of F l e.0) c.add.ensures.number, number_of F c.args.i.high e.1)

-- and is a number, so that it is finite
is-number : (g : Over) (c : After-lesser-y g) → is_number (machine (flag g.row.WIDE)) c.lesser-y.result ≡ true
is-number g c =
    let F = machine (flag g.row.WIDE) in
    let e = ends_both F c.args.i c.requires.1 in
    let n = chosen (λ (p : ℕ). is_number F p ≡ true) (leb (ordinal F c.add.result) (ordinal F c.args.i.low)) c.greater.result c.args.i.low c.add.result c.greater.ensures (number_of F c.args.i.low e.0) c.add.ensures.number in
    let g = c.greater.result in
    let h = c.args.i.high in
    chosen (λ (p : ℕ). is_number F p ≡ true) (leb (ordinal F g) (ordinal F h)) c.lesser-y.result g h c.lesser-y.ensures n (number_of F c.args.i.high e.1)

pub add-s-requires : goal.add-s-requires
add-s-requires g c = (is-number g (goal.at.add-s-requires g c).After-lesser-y, c.requires.0)

pub at_most-requires : goal.at_most-requires
at_most-requires g c = (c.add-s.ensures.number, number_of (machine (flag g.row.WIDE)) c.args.b c.requires.2)

pub at_most-requires-2 : goal.at_most-requires-2
at_most-requires-2 g c = (number_of (machine (flag g.row.WIDE)) c.args.b c.requires.2, c.add-s.ensures.number)

pub returns : goal.returns
returns g c t =
    let F = machine (flag g.row.WIDE) in
    let w = inside g (goal.at.returns g c).After-lesser-y in
    made F c.args.i c.args.c c.args.b c.lesser-y.result c.add-s.result c.at_most.result c.at_most-2.result w
    (c.add-s.ensures.is (inside_finite F c.args.i c.requires.1 c.lesser-y.result (is-number g (goal.at.returns g c).After-lesser-y) w))
    c.at_most.ensures
    c.at_most-2.ensures
    t
