-- `arith::extent::least_above` meets its contract: b's low end, or the least of the sums that decide. Assumes nothing.
use Rattle.std.proofs.Common.{◌≡◌, ℕ, None, refl, le_trans, le_refl, arith}
use Rattle.ladder.specs.Solution.{In}
use Rattle.ladder.proofs.Staircase.{lowest_least, at_most_less}
use Rattle.arith.specs.Formats.{sum}
use Rattle.arith.specs.Searches.{CornerOf, AtMostBefore, swapped}
use Rattle.arith.specs.Intervals.{span}
use Rattle.arith.proofs.Swapping.{swapped_b}
use Rattle.arith.proofs.extent.least_above.Goals as goal
use Rattle.arith.proofs.extent.least_above.Goals.{In_default}

-- b's low end is no sum
no-sum : (c : In_default) → let r = c.args.r.now in (x a : ℕ) → In (span r.x) x → In (span r.a) a → sum r.format x a ≡ r.b.low → ⊥
no-sum c x a i j h =
    let r = c.args.r.now in
    let n : CornerOf (record r { b = record { low = r.b.low; high = r.b.low }; b_ends = c.with_b.ensures.0 }) None = rw (c.in_default.is, c.with_b.ensures.1) at c.clamped_corner.ensures in
    n x (record { a = a; b = r.b.low; solution = record { x_in = i; a_in = j; b_in = record { low = le_refl r.b.low; high = le_refl r.b.low }; is = h } })

pub returns-then-r : goal.returns-then-r
returns-then-r c =
    let r = c.args.r.now in
    let F = r.format in
    lowest_least F.fraction F.exponent F.sound.some r.b.low r.b_ends.low (span r.x) (span r.a) r.x_ends r.a_ends (no-sum (goal.at.returns-then-r c).In_default) c.requires.0.low_high c.requires.0.high_low c.args.known c.requires.2 c.requires.3 (λ d y l h. absurd (omega (arith, d, F.sound.sign))) (λ d y l h. absurd (omega (arith, d, F.sound.sign))) (span r.b) refl c.requires.1

pub lesser_before-requires : goal.lesser_before-requires
lesser_before-requires c = rw c.swapped.ensures (swapped_b c.args.r.now _ c.lesser_before-s.ensures.0)

pub returns : goal.returns
returns c =
    let r = c.args.r.now in
    let F = r.format in
    let p = c.lesser_before-s.ensures in
    let q = c.lesser_before.ensures in
    let h = le_trans q.1 p.1 in
    let t : AtMostBefore (swapped r) c.lesser_before.result = rw c.swapped.ensures at q.2 in
    lowest_least F.fraction F.exponent F.sound.some r.b.low r.b_ends.low (span r.x) (span r.a) r.x_ends r.a_ends (no-sum (goal.at.returns c).In_default) c.requires.0.low_high c.requires.0.high_low c.lesser_before.result (at_most_less h c.requires.2) (at_most_less h c.requires.3) (λ d y l i. at_most_less q.1 (p.2 y l i)) (λ d y l i. t y l i) (span r.b) refl (swapped_b (swapped r) _ (rw c.swapped.ensures at q.0))
