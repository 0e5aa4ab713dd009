-- `machine::guess::trim` meets its contract. Assumes nothing.
use mathlib.Core.Path.{◌≡◌, refl}
use mathlib.Core.Bool.{true, not}
use Prim.Native.Nat.{ℕ}
use Rattle.ladder.proofs.Numbers.{finite_number}
use Rattle.arith.specs.Formats.{is_finite}
use Rattle.arith.proofs.Intervals.{ends_both}
use Rattle.machine.specs.Floats.{machine, is_number}
use Rattle.machine.proofs.Floats.{flag, sound_machine, number_of, chosen}
use Rattle.machine.proofs.Guesses.{trimmed}
use Rattle.machine.proofs.guess.trim.Given.{Over}
use Rattle.machine.proofs.guess.trim.Goals as goal
use Rattle.machine.proofs.guess.trim.Goals.{Start}

-- what the contract asks: x, a and the ends of b are numbers
record Given (g : Over) (c : Start g) : Type 0 where
  x : is_number (machine (flag g.row.WIDE)) c.args.x ≡ true
  a : is_number (machine (flag g.row.WIDE)) c.args.a ≡ true
  low : is_number (machine (flag g.row.WIDE)) c.args.b.low ≡ true
  high : is_number (machine (flag g.row.WIDE)) c.args.b.high ≡ true
  low_finite : is_finite (machine (flag g.row.WIDE)) c.args.b.low ≡ true
  high_finite : is_finite (machine (flag g.row.WIDE)) c.args.b.high ≡ true
  h-low : is_finite (machine (flag g.row.WIDE)) c.args.h.low ≡ true
  h-high : is_finite (machine (flag g.row.WIDE)) c.args.h.high ≡ true

given : (g : Over) (c : Start g) → Given g c
given g c =
    let F = machine (flag g.row.WIDE) in
    let b = ends_both F c.args.b c.requires.2 in
    let h = ends_both F c.args.h c.requires.3 in
    record {
      x = finite_number F.fraction F.exponent c.args.x c.requires.0;
      a = finite_number F.fraction F.exponent c.args.a c.requires.1;
      low = finite_number F.fraction F.exponent c.args.b.low b.0;
      high = finite_number F.fraction F.exponent c.args.b.high b.1;
      low_finite = b.0;
      high_finite = b.1;
      h-low = h.0;
      h-high = h.1;
    }

pub at_most-past-requires : goal.at_most-past-requires
at_most-past-requires g c = (c.add-s.ensures.number, (given g (goal.at.at_most-past-requires g c).Start).high)

pub opposite-minus_b-requires : goal.opposite-minus_b-requires
opposite-minus_b-requires g c = (given g (goal.at.opposite-minus_b-requires g c).Start).high

pub add-requires : goal.add-requires
add-requires g c = ((given g (goal.at.add-requires g c).Start).low, c.opposite.ensures.finite c.requires.1)

pub add-up-requires : goal.add-up-requires
add-up-requires g c = (c.add.ensures.number, (given g (goal.at.add-up-requires g c).Start).h-low)

pub add-requires-2 : goal.add-requires-2
add-requires-2 g c = let z = given g (goal.at.add-requires-2 g c).Start in (z.x, c.opposite-minus_b.ensures.finite z.high_finite)

pub add-down-requires : goal.add-down-requires
add-down-requires g c = (c.add-2.ensures.number, (given g (goal.at.add-down-requires g c).Start).h-high)

pub below-requires : goal.below-requires
below-requires g c = (c.add-s.ensures.number, (given g (goal.at.below-requires g c).Start).low)

pub at_most-short-requires : goal.at_most-short-requires
at_most-short-requires g c = ((given g (goal.at.at_most-short-requires g c).Start).low, c.add-s.ensures.number)

pub check-t-requires : goal.check-t-requires
check-t-requires g c =
    let z = given g (goal.at.check-t-requires g c).Start in
    let F = machine (flag g.row.WIDE) in
    let short = not c.at_most-short.result in (
      chosen (λ (n : ℕ). is_number F n ≡ true) c.below.result _ _ _ c.select_unpredictable-guess.ensures c.add-up.ensures.number c.add-down.ensures.number,
      chosen (λ (n : ℕ). is_finite F n ≡ true) short _ _ _ c.select_unpredictable.ensures c.requires.1 (c.opposite-minus_x.ensures.finite c.requires.0),
      chosen (λ (n : ℕ). is_finite F n ≡ true) short _ _ _ c.select_unpredictable-2.ensures z.low_finite (c.opposite-minus_b.ensures.finite z.high_finite),
    )

pub opposite-requires-2 : goal.opposite-requires-2
opposite-requires-2 g c = number_of (machine (flag g.row.WIDE)) _ c.check-t.ensures.finite

pub add-requires-3 : goal.add-requires-3
add-requires-3 g c =
    let F = machine (flag g.row.WIDE) in
    let y = c.check-t.ensures.finite in (
      number_of F _ (chosen (λ (n : ℕ). is_finite F n ≡ true) (not c.at_most-short.result) _ _ _ c.select_unpredictable-low.ensures y c.requires.0),
      chosen (λ (n : ℕ). is_finite F n ≡ true) (not c.at_most-past.result) _ _ _ c.select_unpredictable-high.ensures (c.opposite-2.ensures.finite y) c.requires.1,
    )

pub returns : goal.returns
returns g c =
    let F = machine (flag g.row.WIDE) in
    let z = c.args in
    trimmed F (sound_machine (flag g.row.WIDE)) z.x z.a c.add-s.result z.b c.requires.0 c.requires.1 c.requires.2 c.add-s.ensures
    c.check-t.result c.opposite-minus_x.result c.opposite-minus_b.result c.opposite-2.result c.opposite-minus_x.ensures c.opposite-minus_b.ensures c.opposite-2.ensures
    c.at_most-short.result c.at_most-past.result _ c.select_unpredictable.result c.select_unpredictable-2.result c.select_unpredictable-low.result c.select_unpredictable-high.result c.add-3.result
    c.requires.4 c.at_most-short.ensures c.at_most-past.ensures c.select_unpredictable.ensures c.select_unpredictable-2.ensures c.check-t.ensures c.select_unpredictable-low.ensures c.select_unpredictable-high.ensures c.add-3.ensures refl
