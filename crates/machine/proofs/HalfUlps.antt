-- Half an ulp on machine words: by the exponent field, a subnormal one or a normal one, and the size of a pattern. Rests on `ladder`'s Granularity.
use mathlib.Core.Path.{◌≡◌, sym, ap, ◌∙◌}
use mathlib.Core.Logic.{inl, inr}
use mathlib.Core.Bool.{true}
use Prim.Native.Nat.{ℕ, ◌+◌, ◌-◌, ◌*◌, ◌/◌, ◌^◌, ◌≤◌, ◌<◌}
use native.Mathlib.Nat.{mul-le-mul_right}
use native.Mathlib.Omega.{arith}
use lib.Dec.{ltb}
use lib.Pow.{pow_mono}
use borrow.Author.Tests.{lt-ltb, le-ltb, ltb-true}
use Rattle.ladder.specs.Magnitude.{magnitude}
use Rattle.ladder.proofs.Cases.{le_or_lt}
use Rattle.ladder.proofs.Magnitude.{magnitude_small}
use Rattle.ladder.proofs.Granularity.{magnitude_power}
use Rattle.ladder.proofs.Ordinals.{sign_is}
use Rattle.arith.specs.declared.format.Format.{Format}
use Rattle.arith.specs.Formats.{Sound, is_finite}
use Rattle.arith.proofs.Formats.{infinity_lt, finite_low, finite_high}
use Rattle.arith.proofs.Clamping.{field}
use Rattle.machine.specs.Floats.{unsigned, HalfUlp}

module _ (F : Format) (ok : Sound F) where
  -- one binade from infinity's pattern to the sign bit
  pub sign_at : F.infinity + 2 ^ F.fraction ≡ F.sign
  sign_at = omega (arith, ok.sign, ok.infinity, sign_is F.fraction F.exponent)

  -- ---- patterns by their size
  pub low_finite : (r : ℕ) → r < F.infinity → is_finite F r ≡ true
  low_finite r l = sym (finite_low F ok r (omega (arith, infinity_lt F ok))) ∙ lt-ltb _ _ l

  pub size_low : (p : ℕ) → p < F.sign → unsigned F p ≡ p
  size_low p l = simp (lt-ltb _ _ l)

  pub size_high : (p : ℕ) → F.sign ≤ p → unsigned F p ≡ p - F.sign
  size_high p l = simp (le-ltb _ _ l)

  pub size_finite : (p : ℕ) → ltb (unsigned F p) F.infinity ≡ is_finite F p
  size_finite p = elim (le_or_lt F.sign p) [
    | inl l ↦ rw (size_high p l) (finite_high F ok p l)
    | inr l ↦ rw (size_low p l) (finite_low F ok p l)
  ]

  pub size_lt : (p : ℕ) → is_finite F p ≡ true → unsigned F p < F.infinity
  size_lt p h = ltb-true _ _ (size_finite p ∙ h)

  -- ---- half an ulp of m, by its exponent field q
  module _ (m q : ℕ) (fits : m < F.sign) (is : q ≡ m / 2 ^ F.fraction) where
    -- the field lies within the exponent bits
    field_fits : q * 2 ^ F.fraction < F.infinity + 2 ^ F.fraction
    field_fits = omega (arith, sign_at, (field F.fraction q m is).0)

    -- a subnormal one
    pub half_small : (r : ℕ) → 0 < F.infinity → q < F.fraction + 2 → (q < 2 → r ≡ 0) → (2 ≤ q → r ≡ 2 ^ (q - 2)) → HalfUlp F m r
    half_small r some l none power =
        record {
          low = elim (le_or_lt 2 q) [
            | inl h ↦
                let t : 2 * 2 ^ F.fraction ≤ q * 2 ^ F.fraction = mul-le-mul_right (2 ^ F.fraction) h in
                let u : 2 ^ (q - 2) ≤ 2 ^ F.fraction = pow_mono (omega arith) in
                omega (arith, field_fits, power h)
            | inr h ↦ omega (arith, none h)
          ];
          none = λ h. none (omega arith);
          power = λ h.
              let u : 2 ^ (q - 2) ≤ 2 ^ F.fraction = pow_mono (omega arith) in
              let e : r ≡ 2 ^ (q - 2) = power (omega arith) in
              magnitude_small F.fraction r (omega arith) ∙ e ∙ ap (λ (x : ℕ). 2 ^ (x - 2)) is;
        }

    -- a normal one
    pub half_large : (r : ℕ) → F.fraction + 2 ≤ q → r ≡ (q - (F.fraction + 1)) * 2 ^ F.fraction → HalfUlp F m r
    half_large r l e =
        let f = F.fraction in
        record {
          low = rw e (low_at (q - (f + 1)) (omega (arith, ok.some)));
          none = λ h. absurd (omega arith);
          power = λ h. ap (magnitude f) (e ∙ ap (λ (x : ℕ). x * 2 ^ f) (omega arith)) ∙ magnitude_power f (q - (f + 2)) ∙ ap (λ (x : ℕ). 2 ^ x) (omega arith);
        }
      where
        low_at : (t : ℕ) → t + 2 ≤ q → t * 2 ^ F.fraction < F.infinity
        low_at t h = let u : (t + 2) * 2 ^ F.fraction ≤ q * 2 ^ F.fraction = mul-le-mul_right (2 ^ F.fraction) h in omega (arith, field_fits)
