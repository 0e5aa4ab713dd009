-- Floats by their sign and m: that of an ordinal, that of a pattern, and the pattern back. Rests on Formats.
use Rattle.std.proofs.Common.{◌≡◌, ℕ, ◌+◌, ◌-◌, ◌<◌, ◌≤◌, Bool, true, false, cond, ◌∙◌, pos_of_ne-zero, arith, ltb-true, le-ltb, lt-ltb}
use Rattle.arith.specs.declared.format.Format.{Format}
use Rattle.arith.specs.declared.sum.Signed.{Signed}
use Rattle.arith.specs.Formats.{Sound, Finite, is_finite, ordinal, pattern}
use Rattle.arith.specs.Steps.{IsSign, clear, set, is_set, ordinal_at, Represents}
use Rattle.arith.proofs.Formats.{infinity_lt, finite_low, finite_high, ordinal_low, ordinal_high, pattern_low, pattern_high}

-- ---- whether a sign is set
pub sign_clear : (s : ℕ) → s ≡ 0 → is_set s ≡ false
sign_clear s e = le-ltb 0 s (omega arith)

pub sign_set : (F : Format) → Sound F → (s : ℕ) → s ≡ F.sign → is_set s ≡ true
sign_set F ok s e = lt-ltb 0 s (omega (arith, infinity_lt F ok))

module _ (F : Format) (ok : Sound F) where
  abbrev s : ℕ
  s = F.sign

  -- the ordinal of m with its sign set
  set_ordinal : (m r : ℕ) → s - m ≡ r → ordinal_at F (record { sign = s; m = m }) ≡ r
  set_ordinal m r e = simp (sign_set F ok s (omega arith)) e

  -- ---- by an ordinal
  module _ (r : ℕ) (fin : Finite F r) where
    pub above_represents : s ≤ r → Represents F r (record { sign = 0; m = r - s })
    above_represents l = record {
      ordinal = omega arith;
      finite = record { sign = clear (omega arith); m = omega (arith, ok.sign, ok.infinity, fin.high, infinity_lt F ok) };
    }

    pub below_represents : r < s → Represents F r (record { sign = s; m = s - r })
    below_represents l = record {
      ordinal = set_ordinal (s - r) r (omega arith);
      finite = record { sign = set (omega arith); m = omega (arith, ok.sign, ok.infinity, fin.low) };
    }

  -- ---- by a pattern
  module _ (p : ℕ) (fin : is_finite F p ≡ true) where
    pub positive_represents : p < s → Represents F (ordinal F p) (record { sign = 0; m = p })
    positive_represents l = record {
      ordinal = ordinal_low F ok p l;
      finite = record { sign = clear (omega arith); m = ltb-true p F.infinity (finite_low F ok p l ∙ fin) };
    }

    pub negative_represents : s ≤ p → Represents F (ordinal F p) (record { sign = s; m = p - s })
    negative_represents l = record {
      ordinal = set_ordinal (p - s) (ordinal F p) (ordinal_high F ok p l);
      finite = record { sign = set (omega arith); m = ltb-true (p - s) F.infinity (finite_high F ok p l ∙ fin) };
    }

  -- ---- and back
  pub zero_pattern : (b : Bool) (m : ℕ) → m ≡ 0 → 0 ≡ pattern F (cond b (s - m) (s + m))
  zero_pattern true m z = omega (arith, pattern_high F ok (s - m) (omega arith))
  zero_pattern false m z = omega (arith, pattern_high F ok (s + m) (omega arith))

  pub signed_pattern : (z : Signed) → IsSign F z.sign → (z.m ≡ 0 → ⊥) → z.m ≤ s → z.sign + z.m ≡ pattern F (ordinal_at F z)
  signed_pattern z (clear e) ne h = simp (sign_clear z.sign e) (omega (arith, pattern_high F ok (s + z.m) (omega arith)))
  signed_pattern z (set e) ne h = simp (sign_set F ok z.sign e) (omega (arith, pattern_low F ok (s - z.m) (omega (arith, pos_of_ne-zero ne))))
