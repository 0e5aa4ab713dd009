-- `arith::repeated::absorb_around` meets its contract: every x stays, and the least a is found in the mirror. Assumes nothing.
use Rattle.std.proofs.Common.{◌≡◌, ℕ, Some, min, sym, ap, ◌∙◌, subst, ap₂}
use Rattle.arith.specs.declared.range.Range.{Range}
use Rattle.arith.specs.Formats.{Finite, mirrored}
use Rattle.arith.specs.Intervals.{reflected}
use Rattle.arith.specs.PairSearches.{coupled, AbsorbedTo}
use Rattle.arith.proofs.Absorbers.{around_ends, around_finite}
use Rattle.arith.proofs.repeated.absorb_around.Goals as goal
use Rattle.arith.proofs.repeated.absorb_around.Goals.{After-absorbed_to-2, After-min-low}

-- how much is absorbed in the mirror
mirror-absorbed : (c : After-absorbed_to-2) → let a = c.args in AbsorbedTo a.format (reflected a.format a.x) c.absorbed_to-2.result
mirror-absorbed c =
    let a = c.args in
    subst (λ (R : Range). AbsorbedTo a.format R c.absorbed_to-2.result) c.reflect.ensures c.absorbed_to-2.ensures

-- the greatest a there
low_is : (c : After-min-low) → let a = c.args in c.min-low.result ≡ min (reflected a.format a.a).high c.absorbed_to-2.result
low_is c = c.min-low.ensures ∙ ap (λ (R : Range). min R.high c.absorbed_to-2.result) c.reflect-mirror.ensures

pub mirror_of-requires : goal.mirror_of-requires
mirror_of-requires c =
    let F = c.args.format in
    (subst (Finite F) (sym (low_is (goal.at.mirror_of-requires c).After-min-low)) (around_finite F c.args.x c.args.a c.requires.ranges c.requires.below _ (mirror-absorbed (goal.at.mirror_of-requires c).After-absorbed_to-2)))

pub returns : goal.returns
returns c =
    let F = c.args.format in
    let X = c.args.x in
    ap₂ (λ (y z : ℕ). coupled (Some (record { p = X; q = record { low = y; high = z } }))) (c.mirror_of.ensures ∙ ap (mirrored F) (low_is (goal.at.returns c).After-min-low)) c.min-high.ensures
    ∙ around_ends F X c.args.a c.requires.ranges c.requires.below c.requires.above _ _ c.absorbed_to.ensures (mirror-absorbed (goal.at.returns c).After-absorbed_to-2)
