-- `arith::corner::climb` meets its contract: the two turns, first up. Assumes nothing.
use Rattle.std.proofs.Common.{ℕ, ◌<◌, ◌≤◌, subst, Some, None}
use Rattle.ladder.proofs.Walk.{climb_none, climb_once, climb_end, climbs}
use Rattle.arith.specs.Searches.{Attains, Stays, LeastOf, GreatestOf}
use Rattle.arith.specs.Intervals.{span}
use Rattle.arith.proofs.corner.climb.Goals as goal
use Rattle.arith.proofs.corner.climb.Goals.{In_ok-p, In_ok-q}

-- the x found, and the a
up : (c : In_ok-p) → let r = c.args.r.now in LeastOf (Attains r.format r.a.high r.b.low r.x) (Some c.in_ok-p.p)
up c = rw c.in_ok-p.was at c.least_operand.ensures

down : (c : In_ok-q) → let r = c.args.r.now in GreatestOf (Stays r.format c.in_ok-p.p r.b.high r.a) (Some c.in_ok-q.q)
down c = rw c.in_ok-q.was at c.greatest_operand.ensures

pub returns-in_err-p : goal.returns-in_err-p
returns-in_err-p c =
    let r = c.args.r.now in
    let F = r.format in
    let n : LeastOf (Attains F r.a.high r.b.low r.x) None = rw c.in_err-p.was at c.least_operand.ensures in
    rw c.from_residual.ensures (climb_none F.fraction F.exponent F.sound.some (span r.x) (span r.a) (span r.b) c.requires.0 c.requires.1 n)

pub returns-then-s-r : goal.returns-then-s-r
returns-then-s-r c =
    let r = c.args.r.now in
    let F = r.format in
    let s = c.sum_of-s in
    rw s.ensures (climb_once F.fraction F.exponent F.sound.some (span r.x) (span r.a) (span r.b) c.requires.0 c.requires.1 c.requires.3 _ (up (goal.at.returns-then-s-r c).In_ok-p) (subst (λ (y : ℕ). y ≤ r.b.high) s.ensures c.if-s-r.true))

pub returns-in_err-q : goal.returns-in_err-q
returns-in_err-q c =
    let r = c.args.r.now in
    let F = r.format in
    let n : GreatestOf (Stays F c.in_ok-p.p r.b.high r.a) None = rw c.in_err-q.was at c.greatest_operand.ensures in
    rw c.from_residual-in_err-q.ensures (climb_end F.fraction F.exponent F.sound.some (span r.x) (span r.a) (span r.b) c.requires.0 c.requires.1 c.requires.3 _ (up (goal.at.returns-in_err-q c).In_ok-p) n)

pub returns : goal.returns
returns c =
    let r = c.args.r.now in
    let F = r.format in
    let s = c.sum_of-s in
    rw c.sum_of.ensures (climbs F.fraction F.exponent F.sound.some (span r.x) (span r.a) (span r.b) c.requires.0 c.requires.1 r.x_ends r.a_ends r.b_ends c.requires.2 c.requires.3 _ (up (goal.at.returns c).In_ok-p) (subst (λ (y : ℕ). r.b.high < y) s.ensures c.if-s-r.false) _ (down (goal.at.returns c).In_ok-q))
