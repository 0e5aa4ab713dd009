-- `arith::absorb::least_far` meets its contract: the place with a coarse enough step, if it lies in the range. Assumes nothing.
use Rattle.std.proofs.Common.{ℕ, ◌+◌, ◌<◌, ◌≤◌, ◌⊎◌, inl, inr, arith, rules}
use Rattle.arith.specs.PairSearches.{Absorber}
use Rattle.arith.proofs.Formats.{infinity_lt}
use Rattle.arith.proofs.Absorbers.{low_bounds, far_absorber}
use Rattle.arith.proofs.absorb.least_far.Goals as goal
use Rattle.arith.proofs.absorb.least_far.Goals.{After-coarse-t, Then-not-contains, Else-not-contains}

-- whatever absorbs c lies as far out as the place found
bounds :
    (c : After-coarse-t) → let a = c.args in let far = a.format.sign + c.coarse-t.result in
    (v : ℕ) → Absorber a.format a.c a.x v → (a.x.low ≤ far) × (far ≤ v)
bounds c =
    low_bounds c.args.format c.args.c c.args.x c.requires.sought c.coarse-t.result c.coarse-t.ensures c.requires

pub returns-then-format-t : goal.returns-then-format-t
returns-then-format-t c =
    let r = c.requires.sought.range in
    λ y w. omega (arith, (bounds (goal.at.returns-then-format-t c).After-coarse-t y w).1, c.if-format-t.true, w.inside.high, r.ends.high.high, c.args.format.sound.sign, c.args.format.sound.infinity)

pub overflow_add-far : goal.overflow_add-far
overflow_add-far c =
    let ok = c.args.format.sound in
    omega (arith, c.if-format-t.false, ok.word, infinity_lt c.args.format ok)

-- the place lies outside the range, or inside
outside : (c : Then-not-contains) → let x = c.args.x in let far = c.args.format.sign + c.coarse-t.result in (far < x.low) ⊎ (x.high < far)
outside c = search (rules, c.if-not-contains.ensures, c.new.ensures)

inside : (c : Else-not-contains) → let x = c.args.x in let far = c.args.format.sign + c.coarse-t.result in (x.low ≤ far) × (far ≤ x.high)
inside c = search (rules, c.if-not-contains.ensures, c.new.ensures)

pub returns-then-not-contains : goal.returns-then-not-contains
returns-then-not-contains c =
    λ y w. let b = bounds (goal.at.returns-then-not-contains c).After-coarse-t y w in
    elim (outside (goal.at.returns-then-not-contains c).Then-not-contains) [ inl l ↦ omega (arith, b.0, l) | inr h ↦ omega (arith, b.1, h, w.inside.high) ]

pub returns : goal.returns
returns c =
    let i = inside (goal.at.returns c).Else-not-contains in
    record {
      holds = far_absorber c.args.format c.args.c c.args.x c.requires.sought c.coarse-t.result c.coarse-t.ensures c.if-format-t.false i.0 i.1;
      least = λ y w. (bounds (goal.at.returns c).After-coarse-t y w).1;
    }
