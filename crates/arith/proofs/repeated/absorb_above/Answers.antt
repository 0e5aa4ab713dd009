-- `arith::repeated::absorb_above` meets its contract: the x that absorb the least a, and the greatest a that is absorbed. Assumes nothing.
use Rattle.std.proofs.Common.{ℕ, Some, None, ap, ◌∙◌}
use Rattle.arith.specs.Searches.{LeastOf, GreatestOf}
use Rattle.arith.specs.PairSearches.{coupled, Absorber}
use Rattle.arith.proofs.Absorbers.{too_large, absorber_none, above_ends}
use Rattle.arith.proofs.repeated.absorb_above.Goals as goal
use Rattle.arith.proofs.repeated.absorb_above.Goals.{In_ok-low, In_ok-high}

pub returns-then-most-a : goal.returns-then-most-a
returns-then-most-a c =
    too_large c.args.format c.args.x c.args.a c.requires.ranges _ c.absorbed_to-most.ensures c.requires.above c.if-most-a.true

-- what was found
low_is : (c : In_ok-low) → let a = c.args in LeastOf (Absorber a.format a.a.low a.x) (Some c.in_ok-low.low)
low_is c = rw c.in_ok-low.was at c.least_absorber.ensures

high_is :
    (c : In_ok-high) → let a = c.args in
    GreatestOf (Absorber a.format a.a.low a.x) (Some c.in_ok-high.high)
high_is c = rw c.in_ok-high.was at c.greatest_absorber.ensures

pub returns-in_err-low : goal.returns-in_err-low
returns-in_err-low c =
    let n : LeastOf (Absorber c.args.format c.args.a.low c.args.x) None = rw c.in_err-low.was at c.least_absorber.ensures in
    rw c.from_residual.ensures (absorber_none c.args.format c.args.x c.args.a c.requires.ranges c.requires.above n)

pub returns : goal.returns
returns c =
    ap (λ (y : ℕ). coupled (Some (record { p = record { low = c.in_ok-low.low; high = c.in_ok-high.high }; q = record { low = c.args.a.low; high = y } }))) c.min.ensures
    ∙ above_ends c.args.format c.args.x c.args.a c.requires.ranges c.requires.above _ _ _ (low_is (goal.at.returns c).In_ok-low) (high_is (goal.at.returns c).In_ok-high) c.absorbed_to-most.ensures c.if-most-a.false
