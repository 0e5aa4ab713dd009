-- `arith::absorb::greatest_far` meets its contract: the place below zero with a coarse enough step, or the one next to it. Assumes nothing.
use Rattle.std.proofs.Common.{◌≡◌, ℕ, ◌+◌, ◌-◌, ◌<◌, ◌≤◌, subst, ◌⊎◌, inl, inr, arith, rules}
use Rattle.ladder.proofs.Cases.{le_or_lt}
use Rattle.arith.specs.Formats.{sum}
use Rattle.arith.specs.PairSearches.{Absorber}
use Rattle.arith.proofs.Formats.{infinity_lt}
use Rattle.arith.proofs.Absorbers.{absorber, no_absorber, high_bounds, far_absorber_below}
use Rattle.arith.proofs.absorb.greatest_far.Goals as goal
use Rattle.arith.proofs.absorb.greatest_far.Goals.{After-coarse-t, Then-not-contains, Else-not-contains, Else-absorbing}

-- whatever absorbs c lies as far out as the place found, below zero
bounds :
    (c : After-coarse-t) → let a = c.args in let t = c.coarse-t.result in
    (v : ℕ) → Absorber a.format a.c a.x v → (v + (t + 1) ≤ a.format.sign) × (a.format.sign ≤ a.x.high + (t + 1))
bounds c =
    high_bounds c.args.format c.args.c c.args.x c.requires.sought c.coarse-t.result c.coarse-t.ensures c.requires

pub returns-then-format-t : goal.returns-then-format-t
returns-then-format-t c =
    let r = c.requires.sought.range in
    λ y w. omega (arith, (bounds (goal.at.returns-then-format-t c).After-coarse-t y w).0, c.if-format-t.true, w.inside.low, r.ends.low.low, c.args.format.sound.sign, c.args.format.sound.infinity)

pub overflow_sub-far : goal.overflow_sub-far
overflow_sub-far c =
    omega (arith, c.if-format-t.false, infinity_lt c.args.format c.args.format.sound)

-- the place lies outside the range, or inside
outside : (c : Then-not-contains) → let x = c.args.x in let far = c.args.format.sign - (c.coarse-t.result + 1) in (far < x.low) ⊎ (x.high < far)
outside c = search (rules, c.if-not-contains.ensures, c.new.ensures)

inside : (c : Else-not-contains) → let x = c.args.x in let far = c.args.format.sign - (c.coarse-t.result + 1) in (x.low ≤ far) × (far ≤ x.high)
inside c = search (rules, c.if-not-contains.ensures, c.new.ensures)

pub returns-then-not-contains : goal.returns-then-not-contains
returns-then-not-contains c =
    λ y w. let b = bounds (goal.at.returns-then-not-contains c).After-coarse-t y w in
    elim (outside (goal.at.returns-then-not-contains c).Then-not-contains) [ inl l ↦ omega (arith, b.0, l, w.inside.low) | inr h ↦ omega (arith, b.1, h) ]

pub returns-then-absorbing : goal.returns-then-absorbing
returns-then-absorbing c =
    let i = inside (goal.at.returns-then-absorbing c).Else-not-contains in
    record {
      holds = absorber c.args.format c.args.c c.args.x _ c.absorbing.ensures c.if-absorbing.true i.0 i.1;
      most = λ y w. omega (arith, (bounds (goal.at.returns-then-absorbing c).After-coarse-t y w).0);
    }

-- the place itself does not absorb c
misses :
    (c : Else-absorbing) → let a = c.args in
    (y : ℕ) → y ≡ a.format.sign - (c.coarse-t.result + 1) → Absorber a.format a.c a.x y → ⊥
misses c y e w =
    let a = c.args in
    no_absorber a.format a.c _ c.absorbing.ensures c.if-absorbing.false (subst (λ (v : ℕ). sum a.format v a.c ≡ v) e w.is)

pub returns-then-far-x : goal.returns-then-far-x
returns-then-far-x c =
    λ y w. misses (goal.at.returns-then-far-x c).Else-absorbing y (omega (arith, (bounds (goal.at.returns-then-far-x c).After-coarse-t y w).0, c.if-far-x.true, w.inside.low)) w

pub returns : goal.returns
returns c =
    let a = c.args in
    let t = c.coarse-t.result in
    let s = a.format.sign in
    let l : a.x.low < s - (t + 1) = c.if-far-x.false in
    let h : s - (t + 1) ≤ a.x.high = (inside (goal.at.returns c).Else-not-contains).1 in
    record {
      holds = far_absorber_below a.format a.c a.x c.requires.sought t c.coarse-t.ensures (s - (t + 1) - 1) (omega (arith, l)) (omega (arith, l)) (omega (arith, h));
      most = λ y w. elim (le_or_lt (s - (t + 1)) y) [
        | inl g ↦ absurd (misses (goal.at.returns c).Else-absorbing y (omega (arith, (bounds (goal.at.returns c).After-coarse-t y w).0, g)) w)
        | inr g ↦ omega (arith, g)
      ];
    }
