-- `arith::extent::lesser_before` meets its contract: the least a that reaches b with x's low end is one number. Assumes nothing.
use Rattle.std.proofs.Common.{◌≡◌, ℕ, ◌-◌, subst, Some, arith}
use Rattle.arith.specs.Searches.{Attains, AtMost, LeastOf}
use Rattle.arith.proofs.extent.lesser_before.Goals as goal
use Rattle.arith.proofs.extent.lesser_before.Goals.{In-Some}

-- the a found
found : (c : In-Some) → let r = c.args.r.now in LeastOf (Attains r.format r.x.low r.b.low r.a) (Some c.in-Some.z)
found c = rw c.in-Some.is at c.least_operand.ensures

pub returns : goal.returns
returns c =
    let r = c.args.r.now in
    let l = found (goal.at.returns c).In-Some in
    let t = c.lesser.ensures in
    (t.0, t.1, λ y m h. let e : c.in-Some.z ≡ y = omega (arith, m.least _ l.holds, l.least y m.holds) in subst (λ (i : ℕ). AtMost r.format (i - 1) r.b.low r.x c.lesser.result) e t.2)
