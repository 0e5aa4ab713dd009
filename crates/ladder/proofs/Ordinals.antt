-- Patterns and ordinals: a finite pattern's ordinal is finite, one leads back to the other, and the order of ordinals is the order of values, so that a value determines its ordinal. Assumes nothing.
use mathlib.Core.Path.{◌≡◌, sym, ap, ◌∙◌}
use mathlib.Core.Logic.{◌↔◌, inl, inr}
use mathlib.Core.Bool.{Bool, true, false, cond}
use Prim.Native.Nat.{ℕ, ◌+◌, ◌-◌, ◌*◌, ◌^◌, ◌≤◌, ◌<◌}
use native.Mathlib.Omega.{arith}
use lib.Pow.{pow_pos, pow-add}
use borrow.Author.Tests.{lt-ltb, le-ltb, eq-eqb, ne_eqb, ltb-true}
use Rattle.ladder.specs.Magnitude.{magnitude}
use Rattle.ladder.specs.Ordinal.{sign, infinity, is_finite, ordinal, pattern, canonical, negated, mirrored, Finite, above, below}
use Rattle.ladder.proofs.Cases.{le_or_lt, trichotomy}
use Rattle.ladder.proofs.Magnitude.{magnitude_lt, magnitude_le, magnitude_zero}
use Rattle.ladder.proofs.Rounding.{even_pow}

-- one binade from infinity's pattern to the sign bit
pub sign_is : (f e : ℕ) → infinity f e + 2 ^ f ≡ sign f e
unfolding sign infinity
sign_is f e = omega (arith, pow-add 2 f e, sub_one (2 ^ e) (2 ^ f) (pow_pos e))
  where
    sub_one : (a b : ℕ) → 0 < a → (a - 1) * b + b ≡ a * b
    sub_one a b p = let z : a ≡ (a - 1) + 1 = omega arith in sym (ap (λ (x : ℕ). x * b) z ∙ omega arith)

pub infinity_lt_sign : (f e : ℕ) → infinity f e < sign f e
infinity_lt_sign f e = omega (arith, sign_is f e, pow_pos f)

pub sign_even : (f e : ℕ) → 1 ≤ f → sign f e ≡ 2 * 2 ^ (f + e - 1)
unfolding sign
sign_even f e some = even_pow (f + e) (omega arith)

-- ---- patterns
module _ (f e : ℕ) where
  abbrev s : ℕ
  s = sign f e

  pub finite_low : (p : ℕ) → is_finite f e p ≡ true → p < s → p < infinity f e
  finite_low p h l = ltb-true _ _ (simp (lt-ltb _ _ l) at h)

  pub finite_high : (p : ℕ) → is_finite f e p ≡ true → s ≤ p → p - s < infinity f e
  finite_high p h l = ltb-true _ _ (simp (le-ltb _ _ l) at h)

  pub ordinal_low : (p : ℕ) → p < s → ordinal f e p ≡ s + p
  unfolding ordinal
  ordinal_low p l = simp (lt-ltb _ _ l)

  pub ordinal_high : (p : ℕ) → s ≤ p → ordinal f e p ≡ s - (p - s)
  unfolding ordinal
  ordinal_high p l = simp (le-ltb _ _ l)

  pattern_low : (r : ℕ) → r < s → pattern f e r ≡ s + (s - r)
  unfolding pattern
  pattern_low r l = simp (lt-ltb _ _ l)

  pattern_high : (r : ℕ) → s ≤ r → pattern f e r ≡ r - s
  unfolding pattern
  pattern_high r l = simp (le-ltb _ _ l)

  pub ordinal_finite : (p : ℕ) → is_finite f e p ≡ true → Finite f e (ordinal f e p)
  ordinal_finite p h = elim (le_or_lt s p) [
    | inl l ↦ let q = finite_high p h l in rw (ordinal_high p l) (record { low = omega (arith, infinity_lt_sign f e); high = omega (arith, infinity_lt_sign f e) })
    | inr l ↦ let q = finite_low p h l in rw (ordinal_low p l) (record { low = omega (arith, infinity_lt_sign f e); high = omega arith })
  ]

  pub pattern_finite : (r : ℕ) → Finite f e r → is_finite f e (pattern f e r) ≡ true
  pattern_finite r h = elim (le_or_lt s r) [
    | inl l ↦
        let a : r - s < s = omega (arith, infinity_lt_sign f e) in
        let b : r - s < infinity f e = omega arith in
        rw (pattern_high r l) (simp (lt-ltb _ _ a, lt-ltb _ _ b))
    | inr l ↦
        let a : s ≤ s + (s - r) = omega arith in
        let b : s + (s - r) - s < infinity f e = omega arith in
        rw (pattern_low r l) (simp (le-ltb _ _ a, lt-ltb _ _ b))
  ]

  -- the canonical pattern
  canonical_zero : (p : ℕ) → p ≡ s → canonical f e p ≡ 0
  unfolding canonical
  canonical_zero p h = simp (eq-eqb _ _ h)

  canonical_same : (p : ℕ) → (p ≡ s → ⊥) → canonical f e p ≡ p
  unfolding canonical
  canonical_same p h = simp (ne_eqb _ _ h)

  -- pattern to ordinal to pattern
  pub pattern_ordinal : (p : ℕ) → is_finite f e p ≡ true → pattern f e (ordinal f e p) ≡ canonical f e p
  pattern_ordinal p h = elim (trichotomy p s) [
    | inl l ↦
        ap (pattern f e) (ordinal_low p l) ∙ pattern_high (s + p) (omega arith) ∙ omega arith ∙ sym (canonical_same p (λ e. omega arith))
    | inr r ↦ elim r [
      | inl z ↦ ap (pattern f e) (ordinal_high p (omega arith)) ∙ pattern_high (s - (p - s)) (omega arith) ∙ omega arith ∙ sym (canonical_zero p z)
      | inr l ↦
          let q = finite_high p h (omega arith) in
          ap (pattern f e) (ordinal_high p (omega arith)) ∙ pattern_low (s - (p - s)) (omega (arith, infinity_lt_sign f e))
          ∙ omega (arith, infinity_lt_sign f e) ∙ sym (canonical_same p (λ e. omega arith))
    ]
  ]

  -- ordinal to pattern to ordinal
  pub ordinal_pattern : (r : ℕ) → Finite f e r → ordinal f e (pattern f e r) ≡ r
  ordinal_pattern r h = elim (le_or_lt s r) [
    | inl l ↦ ap (ordinal f e) (pattern_high r l) ∙ ordinal_low (r - s) (omega (arith, infinity_lt_sign f e)) ∙ omega arith
    | inr l ↦ ap (ordinal f e) (pattern_low r l) ∙ ordinal_high (s + (s - r)) (omega arith) ∙ omega arith
  ]

  -- the other sign, by patterns and by ordinals
  pub negated_is : (p : ℕ) → is_finite f e p ≡ true → negated f e p ≡ pattern f e (mirrored f e (ordinal f e p))
  unfolding negated
  negated_is p h = elim (trichotomy p 0) [
    | inl l ↦ absurd (omega arith)
    | inr r ↦ elim r [
      | inl z ↦ rw (eq-eqb p 0 z, ordinal_low p (omega (arith, infinity_lt_sign f e)), pattern_high (2 * s - (s + p)) (omega arith)) (omega arith)
      | inr l ↦ elim (le_or_lt s p) [
        | inl k ↦
            let q = finite_high p h k in
            rw (ne_eqb p 0 (λ z. omega arith), le-ltb p s k, ordinal_high p k, pattern_high (2 * s - (s - (p - s))) (omega (arith, infinity_lt_sign f e)))
            (omega (arith, infinity_lt_sign f e))
        | inr k ↦
            rw (ne_eqb p 0 (λ z. omega arith), lt-ltb p s k, ordinal_low p k, pattern_low (2 * s - (s + p)) (omega arith)) (omega arith)
      ]
    ]
  ]

  -- ---- values
  ordinal_lt : (x y : ℕ) → x < y → above f e x + below f e y < above f e y + below f e x
  ordinal_lt x y h =
      let u = magnitude_le f (x - s) (y - s) (omega arith) in
      let d = magnitude_le f (s - y) (s - x) (omega arith) in
      elim (le_or_lt y s) [
        | inl l ↦ omega (arith, magnitude_lt f (s - y) (s - x) (omega arith))
        | inr l ↦ omega (arith, magnitude_lt f (x - s) (y - s) (omega arith))
      ]

  -- the order of ordinals is the order of values
  pub order : (x y : ℕ) → (x < y) ↔ (above f e x + below f e y < above f e y + below f e x)
  order x y = (
    ordinal_lt x y,
    λ h. elim (trichotomy x y) [
      | inl l ↦ l
      | inr r ↦ elim r [ inl z ↦ absurd (omega (arith, ap (above f e) z, ap (below f e) z)) | inr g ↦ absurd (omega (arith, ordinal_lt y x g)) ]
    ],
  )

  -- a value determines its ordinal
  pub determines : (x y : ℕ) → above f e x + below f e y ≡ above f e y + below f e x → x ≡ y
  determines x y h = elim (trichotomy x y) [
    | inl l ↦ absurd (omega (arith, ordinal_lt x y l))
    | inr r ↦ elim r [ inl z ↦ z | inr g ↦ absurd (omega (arith, ordinal_lt y x g)) ]
  ]

  -- one side of a value is zero
  pub above_none : (r : ℕ) → r ≤ s → above f e r ≡ 0
  above_none r h = magnitude_zero f (r - s) (omega arith)

  pub below_none : (r : ℕ) → s ≤ r → below f e r ≡ 0
  below_none r h = magnitude_zero f (s - r) (omega arith)

  -- m with a sign, set where b is true
  pub signed_value : (b : Bool) (r m : ℕ) → r + cond b m 0 ≡ s + cond b 0 m → (above f e r ≡ cond b 0 (magnitude f m)) × (below f e r ≡ cond b (magnitude f m) 0)
  signed_value true r m h = (above_none r (omega arith), ap (magnitude f) (omega arith))
  signed_value false r m h = (ap (magnitude f) (omega arith), below_none r (omega arith))

-- ---- mirrored
pub mirror_finite : (f e r : ℕ) → Finite f e r → Finite f e (mirrored f e r)
mirror_finite f e r n = let c = infinity_lt_sign f e in record { low = omega arith; high = omega arith }

pub finite_twice : (f e r : ℕ) → Finite f e r → r ≤ 2 * sign f e
finite_twice f e r n = omega (arith, infinity_lt_sign f e)
