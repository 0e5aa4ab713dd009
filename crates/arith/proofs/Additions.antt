-- What the forward sum's definition promises: the reply due, and 02's sentences on the remainder. Rests on `ladder`'s Remainder and Values.
use Rattle.std.proofs.Common.{◌≡◌, ℕ, ◌+◌, ◌^◌, Bool, true, false, cond, ltb, ◌↔◌, sym, refl, ap, ◌∙◌, Result, Err, true≢false, arith, ltb-true, eq-eqb, eqb-true}
use Rattle.ladder.specs.Ordinal.{above, below}
use Rattle.ladder.specs.Ordinal as L
use Rattle.ladder.specs.Values.{units_above, units_below}
use Rattle.ladder.proofs.Ordinals.{ordinal_finite, pattern_finite, ordinal_pattern, pattern_ordinal}
use Rattle.ladder.proofs.Remainder.{sum_remainder, remainder_zero}
use Rattle.ladder.proofs.Values.{written}
use Rattle.arith.specs.declared.format.Format.{Format}
use Rattle.arith.specs.declared.refusal.Reason.{Reason}
use Rattle.arith.specs.declared.refusal.Refusal.{Refusal}
use Rattle.arith.specs.declared.sum.Sum.{Sum}
use Rattle.arith.specs.declared.sum.Mark.{Mark}
use Rattle.arith.specs.Refusals.{refusal}
use Rattle.arith.specs.Formats.{format_of, Sound, is_finite, is_known, ordinal, pattern, sum, remainder}
use Rattle.arith.specs.Sums.{is_finite_ordinal, mark_for, is_exact, mark_of, in_range, add_in, add_of}
use Rattle.arith.specs.Additions.{Remains, LeavesRemainder, GivesSum}
use Rattle.arith.proofs.Formats.{both, infinity_lt, ordinal_low, pattern_high}
use Rattle.arith.proofs.Replies.{add_told}

-- ---- 01's mark is 0 exactly where the sum is exact
mark_zero : (f m : ℕ) (exact : Bool) → (mark_for f m exact ≡ Mark.Exact) ↔ (exact ≡ true)
mark_zero f m true = (λ e. refl, λ e. refl)
mark_zero f m false = (λ e. absurd (positive (ltb m (2 ^ f)) e), λ e. absurd (true≢false (sym e)))
  where
    positive : (b : Bool) → cond b Mark.Subnormal Mark.Rounded ≡ Mark.Exact → ⊥
    positive true e = let z : ◌≡◌ {A = ℕ} 0 1 = cc in omega arith
    positive false e = let z : ◌≡◌ {A = ℕ} 0 1 = cc in omega arith

module _ (F : Format) (ok : Sound F) where
  abbrev f : ℕ
  f = F.fraction

  abbrev e : ℕ
  e = F.exponent

  -- ---- a finite ordinal r and its pattern
  ordinal_yes : (r : ℕ) → is_finite_ordinal F r ≡ true → L.Finite f e r
  unfolding is_finite_ordinal
  ordinal_yes r h =
      let t = both (ltb F.sign (r + F.infinity)) (ltb r (F.sign + F.infinity)) h in
      let l = ltb-true F.sign (r + F.infinity) t.0 in
      let u = ltb-true r (F.sign + F.infinity) t.1 in
      record { low = omega (arith, ok.sign, ok.infinity); high = omega (arith, ok.sign, ok.infinity) }

  pattern_units : (r : ℕ) → L.Finite f e r → (above f e r ≡ units_above f e (pattern F r)) × (below f e r ≡ units_below f e (pattern F r))
  pattern_units r R =
      let w = written f e ok.some (pattern F r) (pattern_finite f e r R) in
      let o = ordinal_pattern f e r R in
      (ap (above f e) (sym o) ∙ w.up, ap (below f e) (sym o) ∙ w.down)

  pattern_zero : (r : ℕ) → L.Finite f e r → (pattern F r ≡ 0) ↔ (r ≡ F.sign)
  pattern_zero r R = (
    λ z. sym (ordinal_pattern f e r R) ∙ ap (ordinal F) z ∙ sym (ordinal_low F ok 0 (omega (arith, infinity_lt F ok))) ∙ omega arith,
    λ z. sym (pattern_high F ok r (omega arith)) ∙ omega arith,
  )

  -- ---- two finite patterns with a finite sum
  module _ (x a : ℕ) (X : is_finite F x ≡ true) (A : is_finite F a ≡ true) where
    abbrev s : ℕ
    s = sum F (ordinal F x) (ordinal F a)

    abbrev r : ℕ
    r = remainder F (ordinal F x) (ordinal F a) s

    remains : is_finite_ordinal F s ≡ true → Remains F x a (pattern F s) (mark_of F (ordinal F x) (ordinal F a) s) (pattern F r)
    unfolding mark_of is_exact
    remains h =
        let S = ordinal_yes s h in
        let C = sum_remainder f e ok.some (ordinal F x) (ordinal F a) (ordinal_finite f e x X) (ordinal_finite f e a A) S in
        let wx = written f e ok.some x X in
        let wa = written f e ok.some a A in
        let us = pattern_units s S in
        let ur = pattern_units r C.finite in
        let z = pattern_zero r C.finite in
        let t = remainder_zero f e ok.some (ordinal F x) (ordinal F a) s r C in
        let m : (mark_of F (ordinal F x) (ordinal F a) s ≡ Mark.Exact) ↔ (is_exact F (ordinal F x) (ordinal F a) s ≡ true) = mark_zero f _ _ in
        record {
          whole = omega (arith, C.whole, wx.up, wx.down, wa.up, wa.down);
          finite = pattern_finite f e r C.finite;
          written = sym (pattern_ordinal f e (pattern F r) (pattern_finite f e r C.finite)) ∙ ap (pattern F) (ordinal_pattern f e r C.finite);
          zero = (λ p. m.1 (eq-eqb _ _ (t.0 (z.0 p ∙ ok.sign))), λ p. z.1 (t.1 (eqb-true _ _ (m.0 p)) ∙ sym ok.sign));
        }

-- ---- the answer
module _ (width x a : ℕ) where
  -- one test: a refusal has no remainder
  after : (b : Bool) (n : Reason) (rest : Result Sum Refusal) → (b ≡ true → LeavesRemainder width x a rest) → LeavesRemainder width x a (cond b rest (Err (refusal n)))
  after true n rest h = h refl
  after false n rest h = tt

  leaves : LeavesRemainder width x a (add_of width x a)
  unfolding add_of add_in in_range
  leaves =
      let F = format_of width in
      after (is_known width) Reason.Width _ (λ _.
      after (is_finite F x) Reason.NotFinite _ (λ X.
      after (is_finite F a) Reason.NotFinite _ (λ A.
      after (is_finite_ordinal F _) Reason.Overflow _ (remains F (format_of width).sound x a X A))))

  pub gives_sum : {s : Result Sum Refusal} → s ≡ add_of width x a → GivesSum width x a s
  gives_sum e = rw e (record { is = refl; told = add_told width x a; remainder = leaves })
