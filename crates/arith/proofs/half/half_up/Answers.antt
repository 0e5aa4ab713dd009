-- `arith::half::half_up` meets its contract: by the side of zero that b lies on. Assumes nothing.
use Rattle.std.proofs.Common.{ℕ, ◌+◌, ◌-◌, ◌<◌, ◌≤◌, sym, ap, ◌∙◌, subst, arith}
use Rattle.ladder.proofs.Halves.{least_half_down, least_half_up}
use Rattle.ladder.specs.Halves.{halved}
use Rattle.arith.specs.PairSearches.{LeastHalf}
use Rattle.arith.proofs.half.half_up.Goals as goal

pub returns-then-b-format : goal.returns-then-b-format
returns-then-b-format c =
    let F = c.args.format in
    let ok = c.args.format.sound in
    let b = c.args.b in
    let l : b ≤ F.sign = c.if-b-format.true in
    let k = least_half_down F.fraction F.exponent ok.some b c.requires.finite (omega (arith, ok.sign)) in
    subst (LeastHalf F b) (sym (ap (λ (h : ℕ). F.sign - h) c.half_of.ensures ∙ ap (λ (s : ℕ). s - halved F.fraction 0 (s - b)) ok.sign)) k

pub returns : goal.returns
returns c =
    let F = c.args.format in
    let ok = c.args.format.sound in
    let b = c.args.b in
    let l : F.sign < b = c.if-b-format.false in
    let k = least_half_up F.fraction F.exponent ok.some b c.requires.finite (omega (arith, ok.sign)) in
    subst (LeastHalf F b) (sym (ap (λ (h : ℕ). F.sign + h) c.half_of-2.ensures ∙ ap (λ (s : ℕ). s + halved F.fraction 1 (b - s)) ok.sign)) k
