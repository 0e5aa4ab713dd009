-- `arith::repeated::absorb_below` meets its contract: the narrowing of the mirrored ranges, mirrored. Assumes nothing.
use Rattle.std.proofs.Common.{◌≡◌, Some, None, ◌∙◌, ap₂}
use Rattle.ladder.specs.Pairing.{absorbs}
use Rattle.arith.specs.declared.range.Range.{Range}
use Rattle.arith.specs.Intervals.{Bounded, reflected}
use Rattle.arith.specs.Repeats.{absorbing}
use Rattle.arith.specs.PairSearches.{coupled}
use Rattle.arith.proofs.Repeating.{coupled_finite}
use Rattle.arith.proofs.Absorbers.{mirror_filled, mirrored_none, mirrored_ends_lem}
use Rattle.arith.proofs.repeated.absorb_below.Goals as goal
use Rattle.arith.proofs.repeated.absorb_below.Goals.{In_ok-mirror}

-- what the mirrored ranges were narrowed to
ends-are :
    (c : In_ok-mirror) → let a = c.args in
    coupled (Some c.in_ok-mirror.mirror) ≡ absorbing a.format (reflected a.format a.x) (reflected a.format a.a)
ends-are c = rw (c.in_ok-mirror.was, c.reflect.ensures, c.reflect-2.ensures) at c.absorb_above.ensures

ends-finite : (c : In_ok-mirror) → let F = c.args.format in Bounded F c.in_ok-mirror.mirror.p × Bounded F c.in_ok-mirror.mirror.q
ends-finite c =
    let F = c.args.format in
    let m = mirror_filled F c.args.x c.args.a c.requires.ranges in
    coupled_finite F (absorbs F.fraction F.exponent) _ _ _ (ends-are c) m.first.ends m.second.ends

pub returns-in_err-mirror : goal.returns-in_err-mirror
returns-in_err-mirror c =
    let F = c.args.format in
    let n : coupled None ≡ absorbing F (reflected F c.args.x) (reflected F c.args.a) = rw (c.in_err-mirror.was, c.reflect.ensures, c.reflect-2.ensures) at c.absorb_above.ensures in
    rw c.from_residual.ensures (mirrored_none F c.args.x c.args.a c.requires.ranges n)

pub returns : goal.returns
returns c =
    ap₂ (λ (P Q : Range). coupled (Some (record { p = P; q = Q }))) c.reflect-3.ensures c.reflect-4.ensures
    ∙ mirrored_ends_lem c.args.format c.args.x c.args.a c.requires.ranges _ (ends-are (goal.at.returns c).In_ok-mirror)

pub reflect-requires-3 : goal.reflect-requires-3
reflect-requires-3 c = ((ends-finite (goal.at.reflect-requires-3 c).In_ok-mirror).0)

pub reflect-requires-4 : goal.reflect-requires-4
reflect-requires-4 c = ((ends-finite (goal.at.reflect-requires-4 c).In_ok-mirror).1)
