-- `arith::corner::descend` meets its contract: the two turns, first down. Assumes nothing.
use Rattle.std.proofs.Common.{ℕ, ◌<◌, ◌≤◌, subst, Some, None}
use Rattle.ladder.proofs.Walk.{descend_none, descend_once, descend_end, descends}
use Rattle.arith.specs.Searches.{Attains, Stays, LeastOf, GreatestOf}
use Rattle.arith.specs.Intervals.{span}
use Rattle.arith.proofs.corner.descend.Goals as goal
use Rattle.arith.proofs.corner.descend.Goals.{In_ok-q, In_ok-p}

-- the a found, and the x
down : (c : In_ok-q) → let r = c.args.r.now in GreatestOf (Stays r.format r.x.low r.b.high r.a) (Some c.in_ok-q.q)
down c = rw c.in_ok-q.was at c.greatest_operand.ensures

up : (c : In_ok-p) → let r = c.args.r.now in LeastOf (Attains r.format c.in_ok-q.q r.b.low r.x) (Some c.in_ok-p.p)
up c = rw c.in_ok-p.was at c.least_operand.ensures

pub returns-in_err-q : goal.returns-in_err-q
returns-in_err-q c =
    let r = c.args.r.now in
    let F = r.format in
    let n : GreatestOf (Stays F r.x.low r.b.high r.a) None = rw c.in_err-q.was at c.greatest_operand.ensures in
    rw c.from_residual.ensures (descend_none F.fraction F.exponent F.sound.some (span r.x) (span r.a) (span r.b) c.requires.0 c.requires.1 n)

pub returns-then-r-s : goal.returns-then-r-s
returns-then-r-s c =
    let r = c.args.r.now in
    let F = r.format in
    let s = c.sum_of-s in
    rw s.ensures (descend_once F.fraction F.exponent F.sound.some (span r.x) (span r.a) (span r.b) c.requires.0 c.requires.1 c.requires.3 _ (down (goal.at.returns-then-r-s c).In_ok-q) (subst (λ (y : ℕ). r.b.low ≤ y) s.ensures c.if-r-s.true))

pub returns-in_err-p : goal.returns-in_err-p
returns-in_err-p c =
    let r = c.args.r.now in
    let F = r.format in
    let n : LeastOf (Attains F c.in_ok-q.q r.b.low r.x) None = rw c.in_err-p.was at c.least_operand.ensures in
    rw c.from_residual-in_err-p.ensures (descend_end F.fraction F.exponent F.sound.some (span r.x) (span r.a) (span r.b) c.requires.0 c.requires.1 c.requires.3 _ (down (goal.at.returns-in_err-p c).In_ok-q) n)

pub returns : goal.returns
returns c =
    let r = c.args.r.now in
    let F = r.format in
    let s = c.sum_of-s in
    rw c.sum_of.ensures (descends F.fraction F.exponent F.sound.some (span r.x) (span r.a) (span r.b) c.requires.0 c.requires.1 r.x_ends r.a_ends r.b_ends c.requires.2 c.requires.3 _ (down (goal.at.returns c).In_ok-q) (subst (λ (y : ℕ). y < r.b.low) s.ensures c.if-r-s.false) _ (up (goal.at.returns c).In_ok-p))
