-- `arith::absorb::coarse` meets its contract: by the digits of the significand. Assumes nothing.
use Rattle.std.proofs.Common.{◌≡◌, ℕ, ◌+◌, ◌-◌, ◌*◌, ◌^◌, ◌≤◌, sym, ap, ◌∙◌, subst, arith}
use lib.Ieee.{size}
use Rattle.ladder.specs.Magnitude.{significand}
use Rattle.ladder.specs.Absorption.{Coarse}
use Rattle.ladder.proofs.Magnitude.{parts}
use Rattle.ladder.proofs.Absorption.{significand_pos, coarse_is}
use Rattle.arith.specs.declared.sum.Scaled.{Scaled}
use Rattle.arith.proofs.Formats.{infinity_lt}
use Rattle.arith.proofs.Absorbers.{coarse_fits}
use Rattle.arith.proofs.absorb.coarse.Goals as goal
use Rattle.arith.proofs.absorb.coarse.Goals.{After-decode-p, After-digits-n}

-- the significand and its digits
significand-is : (c : After-decode-p) → c.decode-p.result.significand ≡ significand c.args.format.fraction c.args.m
significand-is c = ap (λ (p : Scaled). p.significand) c.decode-p.ensures

digits_are : (c : After-digits-n) → let a = c.args in c.digits-n.result ≡ size (significand a.format.fraction a.m - 1)
digits_are c = c.digits-n.ensures ∙ ap (λ (q : ℕ). size (q - 1)) (significand-is c.before.before)

fits : (c : After-digits-n) → let a = c.args in (c.digits-n.result ≤ 53) × ((c.digits-n.result + 2) * 2 ^ a.format.fraction ≤ 55 * 2 ^ 52)
fits c = coarse_fits c.args.format.fraction c.args.m c.digits-n.result c.args.format.sound.few (digits_are c)

pub overflow_sub-p : goal.overflow_sub-p
overflow_sub-p c =
    omega (arith, significand-is (goal.at.overflow_sub-p c).After-decode-p, significand_pos c.args.format.fraction c.args.m c.requires.some)

pub overflow_sub-result : goal.overflow_sub-result
overflow_sub-result c =
    omega (arith, significand-is (goal.at.overflow_sub-result c).After-decode-p, (parts c.args.format.fraction c.args.m).is)

pub overflow_add-n : goal.overflow_add-n
overflow_add-n c = omega (arith, (fits (goal.at.overflow_add-n c).After-digits-n).0)

pub shift_left-requires : goal.shift_left-requires
shift_left-requires c =
    (omega (arith, c.args.format.sound.few), omega (arith, (fits (goal.at.shift_left-requires c).After-digits-n).1))

pub overflow_add-result : goal.overflow_add-result
overflow_add-result c =
    let ok = c.args.format.sound in
    omega (arith, (fits (goal.at.overflow_add-result c).After-digits-n).1, c.shift_left.ensures, c.requires.finite, ok.word, infinity_lt c.args.format ok)

pub returns : goal.returns
returns c =
    let f = c.args.format.fraction in
    let m = c.args.m in
    let q = significand-is (goal.at.returns c).After-decode-p in
    let n = digits_are (goal.at.returns c).After-digits-n in
    let d = c.decode-p.result.significand in
    let k = c.digits-n.result in
    subst (Coarse f m)
    (sym
    (ap (λ (v : ℕ). (m - d) + v) c.shift_left.ensures
    ∙ ap (λ (v : ℕ). (m - v) + (k + 2) * 2 ^ f) q
    ∙ ap (λ (v : ℕ). (m - significand f m) + (v + 2) * 2 ^ f) n))
    (coarse_is f m c.requires.some)
