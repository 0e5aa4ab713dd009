-- `arith::remainder::left_over` meets its contract: one word holds the difference, as it is or wrapped around. Assumes nothing.
use Rattle.std.proofs.Common.{◌≡◌, ◌+◌, ◌^◌, true, false, leb, ◌⊎◌, sym, refl, ◌∙◌, inl, inr, ⊎_elim, true≢false, arith}
use Rattle.std.proofs.lemmas.Bool.{le-leb, lt-leb}
use Rattle.ladder.proofs.Magnitude.{magnitude_zero}
use Rattle.arith.specs.Exacts.{steps_of, coarse_steps}
use Rattle.arith.specs.Steps.{short, past}
use Rattle.arith.proofs.Roundings.{lossless}
use Rattle.arith.proofs.Remainders.{steps_short, steps_past, left_encodable, units_short, units_past}
use Rattle.arith.proofs.remainder.left_over.Goals as goal
use Rattle.arith.proofs.remainder.left_over.Goals.{Joined-past, then-past, else-past, then-past-2, else-past-2}

pub returns-then-r : goal.returns-then-r
returns-then-r c =
    let f = c.args.format.fraction in
    short refl (omega (arith, lossless f _ c.args.r.result c.requires.rounds.is c.if-r.true, magnitude_zero f 0 refl))

-- the two sizes in steps, by whether the word has wrapped around
parted : (c : Joined-past) → let a = c.args in
    let A = steps_of a.t.size in
    let B = coarse_steps a.t.size a.r.kept in
    let l = c.take_away-left.result in
    ((leb (2 ^ 63) l ≡ true) × (A + c.if-past.steps ≡ B)) ⊎ ((leb (2 ^ 63) l ≡ false) × (A ≡ B + c.if-past.steps))
parted c =
    let f = c.args.format.fraction in
    let t = c.args.t.size in
    let l = c.take_away-left in
    let ok = c.requires.roundable in
    let r = c.args.r in
    let R = c.requires.rounds in
    let lost = c.if-r.false in
    elim c.if-past.branch [
      | then-past w ↦ let h = le-leb _ _ w.if-past.true in
          inl (h, rw w.steps-is (steps_past f t ok r R lost l.result l.ensures h (omega arith) w.wrapping_neg-steps.result w.wrapping_neg-steps.ensures (omega arith)))
      | else-past w ↦ let h = lt-leb _ _ w.if-past.false in
          inr (h, rw w.steps-is (steps_short f t ok r R lost l.result l.ensures h))
    ]

pub encode-requires : goal.encode-requires
encode-requires c =
    left_encodable c.args.format.fraction c.args.t.size c.requires.roundable c.args.r c.requires.rounds c.if-r.false c.if-past.steps
    (⊎_elim (λ h. omega (arith, h.1)) (λ h. omega (arith, h.1)) (parted (goal.at.encode-requires c).Joined-past))

pub returns : goal.returns
returns c =
    let f = c.args.format.fraction in
    let t = c.args.t.size in
    ⊎_elim
    (λ h. elim c.if-past-2.branch [
      | then-past-2 w ↦ past w.sign-is (units_past f t c.requires.roundable c.args.r c.requires.rounds c.if-r.false c.if-past.steps _ h.1 c.encode.ensures)
      | else-past-2 w ↦ absurd (true≢false (sym h.0 ∙ lt-leb _ _ w.if-past-2.false))
    ])
    (λ h. elim c.if-past-2.branch [
      | then-past-2 w ↦ absurd (true≢false (sym (le-leb _ _ w.if-past-2.true) ∙ h.0))
      | else-past-2 w ↦ short w.sign-is (units_short f t c.requires.roundable c.args.r c.requires.rounds c.if-r.false c.if-past.steps _ h.1 c.encode.ensures)
    ])
    (parted (goal.at.returns c).Joined-past)
