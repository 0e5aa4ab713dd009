-- The operand from which on the sum with a is at least b, from the exact difference halved. Rests on `ladder`'s Threshold.
use Rattle.std.proofs.Common.{◌≡◌, ℕ, ◌+◌, ◌-◌, ◌*◌, ◌/◌, ◌%◌, ◌^◌, ◌<◌, Bool, true, false, cond, eqb, ◌⊎◌, sym, ap, ◌∙◌, subst, inl, inr, arith, eqb-true}
use borrow.Author.Tests.{eqb-false}
use Rattle.ladder.specs.Magnitude.{magnitude}
use Rattle.ladder.specs.Rounding.{truncated}
use Rattle.ladder.specs.Search.{crossing_up, crossing_down}
use Rattle.ladder.proofs.Cases.{le_or_lt}
use Rattle.ladder.proofs.Threshold.{half_under, threshold_up, threshold_up_inexact, threshold_down, threshold_down_inexact, threshold_high, threshold_low}
use Rattle.arith.specs.declared.threshold.Difference.{Difference}
use Rattle.arith.specs.declared.format.Format.{Format}
use Rattle.arith.specs.declared.sum.Rounded.{Rounded}
use Rattle.arith.specs.declared.sum.Scaled.{Scaled}
use Rattle.arith.specs.Formats.{Sound, Finite}
use Rattle.arith.specs.Exacts.{size_of, Scales}
use Rattle.arith.specs.Thresholds.{Crosses, halved_of, Threshold}
use Rattle.arith.proofs.Halving.{halving_alike}

-- a difference by its sign and size
difference : (n p q : ℕ) → 0 ≡ p - q → n ≡ q - p → q ≡ p + n
difference n p q u d = omega arith

module _ (F : Format) (a b : ℕ) (t : Difference) (s : Scaled) (r : Rounded) (ok : Sound F) (A : Finite F a) (B : Finite F b) (T : Crosses F a b t) (S : Scales (F.fraction + 1) t.size s) (R : r ≡ halved_of F.fraction (s.significand * 2 ^ s.shift)) where
  abbrev f : ℕ
  f = F.fraction

  abbrev e : ℕ
  e = F.exponent

  abbrev n : ℕ
  n = size_of t.size

  abbrev h : ℕ
  h = r.m

  halved : r ≡ halved_of f n
  halved = R ∙ halving_alike f (s.significand * 2 ^ s.shift) n S.alike

  m_is : h ≡ truncated f (n / 2)
  unfolding halved_of
  m_is = ap (λ (x : Rounded). x.m) halved

  exact_is : r.exact ≡ eqb (2 * magnitude f (truncated f (n / 2))) n
  unfolding halved_of
  exact_is = ap (λ (x : Rounded). x.exact) halved

  exact : r.exact ≡ true → 2 * magnitude f h ≡ n
  exact x = ap (λ (y : ℕ). 2 * magnitude f y) m_is ∙ eqb-true _ _ (sym exact_is ∙ x)

  inexact : r.exact ≡ false → 2 * magnitude f h < n
  inexact x =
      let u = half_under f n h m_is in
      let d = eqb-false (2 * magnitude f (truncated f (n / 2))) n (sym exact_is ∙ x) in
      let p = ap (λ (y : ℕ). 2 * magnitude f y) m_is in
      elim (le_or_lt n (2 * magnitude f h)) [ inl l ↦ absurd (d (omega arith)) | inr l ↦ l ]

  -- the step up from where half the difference is
  abbrev pub Step : ℕ → ℕ → Type 0
  Step other up = ((r.exact ≡ true) × (up ≡ b % 2)) ⊎ ((r.exact ≡ false) × (up ≡ other))

  module _ (up : ℕ) where
    module _ (neg : t.negative ≡ true) where
      size_down : crossing_down f e a b ≡ crossing_up f e a b + n
      size_down = difference n (crossing_up f e a b) (crossing_down f e a b) (subst (λ (x : Bool). cond x 0 n ≡ crossing_up f e a b - crossing_down f e a b) neg T.up) (subst (λ (x : Bool). cond x n 0 ≡ crossing_down f e a b - crossing_up f e a b) neg T.down)

      pub below_fits : h < F.sign
      below_fits = omega (arith, ok.sign, threshold_low f e a b ok.some B n h m_is A size_down)

      pub below_is : Step 0 up → Threshold F a b (F.sign + up - h)
      below_is (inl x) = subst (λ (y : ℕ). Threshold F a b (y - h)) (omega (arith, ok.sign, x.1)) (threshold_down f e a b ok.some B n h m_is size_down (exact x.0))
      below_is (inr x) = subst (λ (y : ℕ). Threshold F a b (y - h)) (omega (arith, ok.sign, x.1)) (threshold_down_inexact f e a b ok.some B n h m_is size_down (inexact x.0))

    module _ (pos : t.negative ≡ false) where
      size_up : crossing_up f e a b ≡ crossing_down f e a b + n
      size_up = difference n (crossing_down f e a b) (crossing_up f e a b) (subst (λ (x : Bool). cond x n 0 ≡ crossing_down f e a b - crossing_up f e a b) pos T.down) (subst (λ (x : Bool). cond x 0 n ≡ crossing_up f e a b - crossing_down f e a b) pos T.up)

      pub above_fits : h + 1 < F.sign
      above_fits = omega (arith, ok.sign, threshold_high f e a b ok.some B n h m_is A size_up)

      pub above_is : Step 1 up → Threshold F a b (F.sign + h + up)
      above_is (inl x) = subst (Threshold F a b) (omega (arith, ok.sign, x.1)) (threshold_up f e a b ok.some B n h m_is size_up (exact x.0))
      above_is (inr x) = subst (Threshold F a b) (omega (arith, ok.sign, x.1)) (threshold_up_inexact f e a b ok.some B n h m_is size_up (inexact x.0))
