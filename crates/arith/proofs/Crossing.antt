-- Twice the midpoint of b and its lower neighbour, less twice a, as an exact difference in half units. Rests on `ladder`'s Magnitude and Ordinals.
use Rattle.std.proofs.Common.{◌≡◌, ℕ, suc, ◌+◌, ◌-◌, ◌*◌, ◌^◌, ◌<◌, ◌≤◌, Bool, true, false, cond, ltb, leb, ◌⊎◌, sym, ap, ◌∙◌, ap₂, inl, inr, lt_of_mul-lt-mul_right, arith, pow_mono, pow-add, le-ltb, lt-ltb, le-leb}
use borrow.Author.Tests.{lt-leb}
use Rattle.ladder.specs.Magnitude.{magnitude, shift}
use Rattle.ladder.specs.Ordinal.{above, below}
use Rattle.ladder.proofs.Cases.{le_or_lt}
use Rattle.ladder.proofs.Magnitude.{parts, magnitude_parts, magnitude_suc, magnitude_le, magnitude_lt, shift_le}
use Rattle.ladder.proofs.Ordinals.{infinity_lt_sign, signed_value}
use Rattle.arith.specs.declared.sum.Exact.{Exact}
use Rattle.arith.specs.declared.format.Format.{Format}
use Rattle.arith.specs.Formats.{Sound, Finite}
use Rattle.arith.specs.Exacts.{exact_of, size_of, Shaped}
use Rattle.arith.specs.Thresholds.{doubled_of, Crosses}
use Rattle.arith.proofs.Decoding.{pow_gap, size_is, large, low, shaped, apart, apart_comm, signed_up, signed_down}

-- how far an ordinal is from zero's
abbrev from_zero : Format → ℕ → ℕ
from_zero F r = (r - F.sign) + (F.sign - r)

-- twice the midpoint of m and its upper neighbour
abbrev middle : ℕ → ℕ → ℕ
middle f m = magnitude f m + magnitude f (suc m)

-- ---- the doubled significands
module _ (f m n : ℕ) (o : Bool) (h : n ≤ m) where
  abbrev e : Exact
  e = exact_of f o m n

  step : 2 ^ e.gap * 2 ^ e.shift ≡ 2 ^ shift f m
  step = pow_gap (shift f n) (shift f m) (shift_le f m n h)

  -- the midpoint beyond m is the larger part
  size_first : size_of (doubled_of 1 0 e) ≡ cond o (middle f m - 2 * magnitude f n) (middle f m + 2 * magnitude f n)
  size_first =
      size_is (doubled_of 1 0 e) (middle f m) (2 * magnitude f n)
      (omega (arith, large f m n o h, magnitude_suc f m, step))
      (omega (arith, magnitude_parts f n))

  -- the midpoint beyond n is the smaller part
  size_second : size_of (doubled_of 0 1 e) ≡ cond o (2 * magnitude f m - middle f n) (2 * magnitude f m + middle f n)
  size_second =
      size_is (doubled_of 0 1 e) (2 * magnitude f m) (middle f n)
      (omega (arith, large f m n o h))
      (omega (arith, magnitude_parts f n, magnitude_suc f n))

  twice : 2 ^ (f + 1) ≡ 2 * 2 ^ f
  twice = pow-add 2 f 1 ∙ omega arith

  leading : (i : ℕ) → (e.gap ≡ 0) ⊎ (2 ^ f ≤ e.larger) → (e.gap ≡ 0) ⊎ (2 ^ (f + 1) ≤ 2 * e.larger + i)
  leading i (inl z) = inl z
  leading i (inr l) = inr (omega (arith, twice))

  module _ (l : m ≤ 2 ^ 63) where
    shaped_first : Shaped (f + 1) (doubled_of 1 0 e)
    shaped_first = let p = shaped f m n o h l in record {
      larger = omega (arith, p.larger, twice);
      smaller = omega (arith, p.smaller, twice);
      leading = leading 1 p.leading;
      order = omega (arith, p.order);
      height = p.height;
    }

    shaped_second : n < m → Shaped (f + 1) (doubled_of 0 1 e)
    shaped_second g =
        let p = shaped f m n o h l in
        let q : e.smaller < e.larger * 2 ^ e.gap = lt_of_mul-lt-mul_right (2 ^ e.shift) (omega (arith, large f m n o h, magnitude_parts f n, magnitude_lt f n m g)) in
        record {
          larger = omega (arith, p.larger, twice);
          smaller = omega (arith, p.smaller, twice);
          leading = leading 0 p.leading;
          order = omega arith;
          height = p.height;
        }

-- significands that `double` has room for
pub combined_fits : (f m n : ℕ) (o : Bool) (t : Exact) → f ≤ 52 → n ≤ m → t ≡ exact_of f o m n → (2 * t.larger < 2 ^ 63) × (2 * t.smaller < 2 ^ 63)
combined_fits f m n o t few h E =
    let p = pow_mono {j = 52} few in
    (omega (arith, p, (parts f m).below, ap (λ (x : Exact). x.larger) E), omega (arith, p, (parts f n).below, ap (λ (x : Exact). x.smaller) E))

-- ---- the difference
-- m is the one of b and its lower neighbour that is nearer to zero
abbrev pub Nearer : Format → ℕ → ℕ → Type 0
Nearer F b m = ((b ≤ F.sign) × (m ≡ F.sign - b)) ⊎ ((F.sign < b) × (m ≡ b - F.sign - 1))

module _ (F : Format) (a b m n : ℕ) (ok : Sound F) (A : Finite F a) (B : Finite F b) where
  abbrev f : ℕ
  f = F.fraction

  abbrev z : ℕ
  z = F.sign

  module _ (M : Nearer F b m) (N : n ≡ from_zero F a) where
    middle_signs : (above f F.exponent (b - 1) + above f F.exponent b ≡ cond (leb b z) 0 (middle f m)) × (below f F.exponent (b - 1) + below f F.exponent b ≡ cond (leb b z) (middle f m) 0)
    middle_signs = elim M [
      | inl h ↦
          let u = signed_value f F.exponent true b m (omega (arith, ok.sign)) in
          let v = signed_value f F.exponent true (b - 1) (suc m) (omega (arith, ok.sign, B.low, infinity_lt_sign f F.exponent)) in
          simp (le-leb _ _ h.0) (omega arith, omega arith)
      | inr h ↦
          let u = signed_value f F.exponent false (b - 1) m (omega (arith, ok.sign)) in
          let v = signed_value f F.exponent false b (suc m) (omega (arith, ok.sign)) in
          simp (lt-leb _ _ h.0) (omega arith, omega arith)
    ]

    operand_signs : (2 * below f F.exponent a ≡ cond (ltb z a) 0 (2 * magnitude f n)) × (2 * above f F.exponent a ≡ cond (ltb z a) (2 * magnitude f n) 0)
    operand_signs = elim (le_or_lt a z) [
      | inl h ↦ let v = signed_value f F.exponent true a n (omega (arith, ok.sign)) in simp (le-ltb _ _ h) (omega arith, omega arith)
      | inr h ↦ let v = signed_value f F.exponent false a n (omega (arith, ok.sign)) in simp (lt-ltb _ _ h) (omega arith, omega arith)
    ]

    high : (m ≤ 2 ^ 63) × (n ≤ 2 ^ 63)
    high =
        let i = infinity_lt_sign f F.exponent in
        let w = ok.word in
        (elim M [ inl h ↦ omega (arith, ok.sign, B.low) | inr h ↦ omega (arith, ok.sign, B.high) ], omega (arith, ok.sign, A.low, A.high))

    abbrev o : Bool
    o = apart (leb b z) (ltb z a)

    pub crosses_first : n ≤ m → (t : Exact) → t ≡ doubled_of 1 0 (exact_of f o m n) → Crosses F a b (record { negative = leb b z; size = t })
    crosses_first h t E =
        let g = size_first f m n o h in
        let d : 2 * magnitude f n ≤ middle f m = omega (arith, magnitude_le f n m h, magnitude_le f m (suc m) (omega arith)) in
        rw E (record {
          up = ap (cond (leb b z) 0) g ∙ signed_up (leb b z) (ltb z a) (middle f m) (2 * magnitude f n) d ∙ sym (ap₂ ◌-◌ (ap₂ ◌+◌ middle_signs.0 operand_signs.0) (ap₂ ◌+◌ middle_signs.1 operand_signs.1));
          down = ap (λ (x : ℕ). cond (leb b z) x 0) g ∙ signed_down (leb b z) (ltb z a) (middle f m) (2 * magnitude f n) d ∙ sym (ap₂ ◌-◌ (ap₂ ◌+◌ middle_signs.1 operand_signs.1) (ap₂ ◌+◌ middle_signs.0 operand_signs.0));
          shaped = shaped_first f m n o h high.0;
          low = low f m n o h high.0;
        })

    pub crosses_second : m < n → (t : Exact) → t ≡ doubled_of 0 1 (exact_of f o n m) → Crosses F a b (record { negative = ltb z a; size = t })
    crosses_second h t E =
        let l : m ≤ n = omega arith in
        let g = size_second f n m o l ∙ ap (λ (b : Bool). cond b (2 * magnitude f n - middle f m) (2 * magnitude f n + middle f m)) (apart_comm (leb b z) (ltb z a)) in
        let d : middle f m ≤ 2 * magnitude f n = omega (arith, magnitude_le f (suc m) n h, magnitude_le f m n l) in
        rw E (record {
          up = ap (cond (ltb z a) 0) g ∙ signed_up (ltb z a) (leb b z) (2 * magnitude f n) (middle f m) d ∙ sym (ap₂ ◌-◌ (ap₂ ◌+◌ middle_signs.0 operand_signs.0 ∙ omega arith) (ap₂ ◌+◌ middle_signs.1 operand_signs.1 ∙ omega arith));
          down = ap (λ (x : ℕ). cond (ltb z a) x 0) g ∙ signed_down (ltb z a) (leb b z) (2 * magnitude f n) (middle f m) d ∙ sym (ap₂ ◌-◌ (ap₂ ◌+◌ middle_signs.1 operand_signs.1 ∙ omega arith) (ap₂ ◌+◌ middle_signs.0 operand_signs.0 ∙ omega arith));
          shaped = shaped_second f n m o l high.1 h;
          low = low f n m o l high.1;
        })
