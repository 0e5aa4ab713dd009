-- `arith::threshold::halve` meets its contract. Assumes nothing.
use Rattle.std.proofs.Common.{◌≡◌, ℕ, ◌+◌, ◌-◌, ◌*◌, ◌/◌, ◌^◌, ◌<◌, ◌≤◌, true, eqb, ap, ◌∙◌, ap₂, arith}
use lib.Ieee.{size}
use Rattle.arith.proofs.Roundings.{digits_fit, shift_fits, excess_fits}
use Rattle.arith.proofs.Halving.{halved_zero, halved_left, few_left, halved_right, few_right}
use Rattle.arith.proofs.threshold.halve.Goals as goal
use Rattle.arith.proofs.threshold.halve.Goals.{After-saturating_sub-drop}

-- how many digits are dropped
drops : (c : After-saturating_sub-drop) → let z = c.args in c.saturating_sub-drop.result ≡ (size z.n + z.shift) - (z.fraction + 2)
drops c = omega (arith, c.digits.ensures, c.saturating_sub-drop.ensures)

-- there is room for what is kept on top of the binades dropped
room : (c : After-saturating_sub-drop) → let z = c.args in (c.saturating_sub-drop.result * 2 ^ z.fraction + 2 ^ 53 < 2 ^ 64) × (z.shift ≤ 2 ^ 62)
room c =
    let e = excess_fits c.args.fraction c.args.n c.args.shift c.requires.0 (omega arith) c.requires.1 c.saturating_sub-drop.result (omega (arith, drops c)) in
    (omega arith, shift_fits c.args.fraction c.args.n c.args.shift c.requires.0 (omega arith) c.requires.1)

pub returns-then-n-eq0 : goal.returns-then-n-eq0
returns-then-n-eq0 c = let z = c.args in halved_zero z.fraction z.n z.shift c.if-n-eq0.true

pub overflow_add-size : goal.overflow_add-size
overflow_add-size c = omega (arith, digits_fit c.args.fraction c.args.n c.args.shift c.requires.0 (omega arith) c.requires.1, shift_fits c.args.fraction c.args.n c.args.shift c.requires.0 (omega arith) c.requires.1)

pub shift_left-base-requires : goal.shift_left-base-requires
shift_left-base-requires c = (omega (arith, c.requires.0.1), omega (arith, room (goal.at.shift_left-base-requires c).After-saturating_sub-drop))

pub overflow_add-drop : goal.overflow_add-drop
overflow_add-drop c = omega (arith, drops (goal.at.overflow_add-drop c).After-saturating_sub-drop, (room (goal.at.overflow_add-drop c).After-saturating_sub-drop).1, digits_fit _ c.args.n _ c.requires.0 (omega arith) c.requires.1)

pub shift_left-requires : goal.shift_left-requires
shift_left-requires c =
    let k : ℕ = c.args.shift - (c.saturating_sub-drop.result + 1) in
    let few = few_left c.args.fraction c.args.n c.args.shift (omega arith) c.saturating_sub-drop.result k (drops (goal.at.shift_left-requires c).After-saturating_sub-drop) (omega arith) c.requires.0 in
    (omega (arith, drops (goal.at.shift_left-requires c).After-saturating_sub-drop, c.requires.0.1), omega arith)

pub overflow_add-result : goal.overflow_add-result
overflow_add-result c =
    let k : ℕ = c.args.shift - (c.saturating_sub-drop.result + 1) in
    let few = few_left c.args.fraction c.args.n c.args.shift (omega arith) c.saturating_sub-drop.result k (drops (goal.at.overflow_add-result c).After-saturating_sub-drop) (omega arith) c.requires.0 in
    omega (arith, (room (goal.at.overflow_add-result c).After-saturating_sub-drop).0)

pub returns-then-drop-shift : goal.returns-then-drop-shift
returns-then-drop-shift c =
    let k : ℕ = c.args.shift - (c.saturating_sub-drop.result + 1) in
    ap₂ (λ (x y : ℕ). record { m = x + y; exact = true }) c.shift_left-base.ensures c.shift_left.ensures
    ∙ halved_left c.args.fraction c.args.n c.args.shift (omega arith) c.saturating_sub-drop.result k (drops (goal.at.returns-then-drop-shift c).After-saturating_sub-drop) (omega arith)

pub overflow_add-low : goal.overflow_add-low
overflow_add-low c = omega (arith, drops (goal.at.overflow_add-low c).After-saturating_sub-drop, (room (goal.at.overflow_add-low c).After-saturating_sub-drop).1, digits_fit _ c.args.n _ c.requires.0 (omega arith) c.requires.1)

pub overflow_add-result-2 : goal.overflow_add-result-2
overflow_add-result-2 c =
    let k : ℕ = c.saturating_sub-drop.result + 1 - c.args.shift in
    let few = few_right c.args.fraction c.args.n c.args.shift (omega arith) c.saturating_sub-drop.result k (drops (goal.at.overflow_add-result-2 c).After-saturating_sub-drop) (omega arith) c.requires.0 in
    omega (arith, (room (goal.at.overflow_add-result-2 c).After-saturating_sub-drop).0)

pub returns : goal.returns
returns c =
    let k : ℕ = c.saturating_sub-drop.result + 1 - c.args.shift in
    ap₂ (λ (x y : ℕ). record { m = x + y; exact = eqb c.dropped.result 0 }) c.shift_left-base.ensures c.shift_right.ensures
    ∙ ap (λ (x : ℕ). record { m = c.saturating_sub-drop.result * 2 ^ c.args.fraction + c.args.n / 2 ^ k; exact = eqb x 0 }) c.dropped.ensures
    ∙ halved_right c.args.fraction c.args.n c.args.shift (omega arith) c.saturating_sub-drop.result k (drops (goal.at.returns c).After-saturating_sub-drop) (omega arith)
