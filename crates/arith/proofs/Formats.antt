-- Formats as values: the format of a width is sound, and patterns and ordinals by a sound format's own numbers. Rests on `ladder`'s laws of ordinals.
use Rattle.std.proofs.Common.{◌≡◌, ℕ, ◌+◌, ◌-◌, ◌*◌, ◌^◌, ◌<◌, ◌≤◌, Bool, true, false, cond, ◌&&◌, eqb, ltb, sym, refl, ap, ◌∙◌, ap₂, inl, inr, true≢false, arith, ltb-true, le-ltb, lt-ltb}
use Rattle.ladder.specs.Ordinal as L
use Rattle.ladder.proofs.Cases.{le_or_lt}
use Rattle.ladder.proofs.Ordinals.{sign_is, infinity_lt_sign}
use Rattle.std.proofs.Props.{props}
use Rattle.arith.specs.declared.format.Format.{Format}
use Rattle.arith.specs.Binaries.{IsBinary}
use Rattle.arith.specs.Formats.{format_of, Sound, is_finite, ordinal, pattern, negated}

-- a test of two parts
pub both : (p q : Bool) → (p && q) ≡ true → (p ≡ true) × (q ≡ true)
both true true e = (refl, refl)
both true false e = absurd (true≢false (sym e))
both false q e = absurd (true≢false (sym e))

pub sound : (width : ℕ) → Sound (format_of width)
sound width = (format_of width).sound

-- a format's numbers are shown to be one in one way alone
pub only_proof : {f e s i : ℕ} (p q : IsBinary f e s i) → p ≡ q
only_proof = hlevel props

module _ (F : Format) (ok : Sound F) where
  pub infinity_lt : F.infinity < F.sign
  infinity_lt = omega (arith, ok.sign, ok.infinity, infinity_lt_sign F.fraction F.exponent)

  pub smallest_normal : F.sign - F.infinity ≡ 2 ^ F.fraction
  smallest_normal = omega (arith, ok.sign, ok.infinity, sign_is F.fraction F.exponent)

  -- ---- patterns
  finite_is : (p : ℕ) → is_finite F p ≡ cond (ltb p F.sign) (ltb p F.infinity) (ltb (p - F.sign) F.infinity)
  finite_is p = ap₂ (λ (s i : ℕ). cond (ltb p s) (ltb p i) (ltb (p - s) i)) (sym ok.sign) (sym ok.infinity)

  pub finite_low : (p : ℕ) → p < F.sign → ltb p F.infinity ≡ is_finite F p
  finite_low p l = sym (finite_is p ∙ ap (λ (b : Bool). cond b (ltb p F.infinity) (ltb (p - F.sign) F.infinity)) (lt-ltb _ _ l))

  pub finite_high : (p : ℕ) → F.sign ≤ p → ltb (p - F.sign) F.infinity ≡ is_finite F p
  finite_high p l = sym (finite_is p ∙ ap (λ (b : Bool). cond b (ltb p F.infinity) (ltb (p - F.sign) F.infinity)) (le-ltb _ _ l))

  below_infinity : (p : ℕ) → is_finite F p ≡ true → F.sign ≤ p → p - F.sign < F.infinity
  below_infinity p h l = ltb-true _ _ (finite_high p l ∙ h)

  pub finite_fits : (p : ℕ) → is_finite F p ≡ true → p < 2 * F.sign
  finite_fits p h = elim (le_or_lt F.sign p) [ inl l ↦ omega (arith, infinity_lt, below_infinity p h l) | inr l ↦ omega arith ]

  pub ordinal_low : (p : ℕ) → p < F.sign → F.sign + p ≡ ordinal F p
  unfolding L.ordinal
  ordinal_low p l = sym (ap (λ (s : ℕ). cond (ltb p s) (s + p) (s - (p - s))) (sym ok.sign) ∙ ap (λ (b : Bool). cond b (F.sign + p) (F.sign - (p - F.sign))) (lt-ltb _ _ l))

  pub ordinal_high : (p : ℕ) → F.sign ≤ p → F.sign - (p - F.sign) ≡ ordinal F p
  unfolding L.ordinal
  ordinal_high p l = sym (ap (λ (s : ℕ). cond (ltb p s) (s + p) (s - (p - s))) (sym ok.sign) ∙ ap (λ (b : Bool). cond b (F.sign + p) (F.sign - (p - F.sign))) (le-ltb _ _ l))

  pub pattern_low : (r : ℕ) → r < F.sign → F.sign + (F.sign - r) ≡ pattern F r
  unfolding L.pattern
  pattern_low r l = sym (ap (λ (s : ℕ). cond (ltb r s) (s + (s - r)) (r - s)) (sym ok.sign) ∙ ap (λ (b : Bool). cond b (F.sign + (F.sign - r)) (r - F.sign)) (lt-ltb _ _ l))

  pub pattern_high : (r : ℕ) → F.sign ≤ r → r - F.sign ≡ pattern F r
  unfolding L.pattern
  pattern_high r l = sym (ap (λ (s : ℕ). cond (ltb r s) (s + (s - r)) (r - s)) (sym ok.sign) ∙ ap (λ (b : Bool). cond b (F.sign + (F.sign - r)) (r - F.sign)) (le-ltb _ _ l))

  -- the other sign, by the format's own number
  pub negated_by : (p : ℕ) → cond (eqb p 0) 0 (cond (ltb p F.sign) (p + F.sign) (p - F.sign)) ≡ negated F p
  unfolding L.negated
  negated_by p = ap (λ (s : ℕ). cond (eqb p 0) 0 (cond (ltb p s) (p + s) (p - s))) ok.sign
