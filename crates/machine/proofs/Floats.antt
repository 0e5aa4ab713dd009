-- The machine's formats are the kit's two, and the kit's `+`, `<=` and `<` on the patterns of their numbers;
-- the pattern with the other sign, without its sign, and in the form that is written. Rests on `ladder`'s Numbers and Standard.
use mathlib.Core.Path.{◌≡◌, refl, sym, ap, ap₂, ◌∙◌, subst}
use mathlib.Core.Logic.{inl, inr}
use mathlib.Core.Bool.{Bool, true, false, not, cond}
use Prim.Native.Nat.{ℕ, ◌+◌, ◌-◌, ◌*◌, ◌%◌, ◌^◌, ◌≤◌, ◌<◌}
use native.Mathlib.Nat.{mod-eq_of_lt, add-mod_right}
use native.Mathlib.Omega.{arith}
use lib.Bits.{bit_xor, xor_self, xor_zero_l, xor_zero_r}
use lib.Dec.{T, eqb, leb, ltb, lit≤}
use lib.Pow.{pow_pos}
use Rattle.std.proofs.lemmas.Nat.{xor_block}
use lib.Ieee as I
use lib.Ieee.{of_bits, to_bits, nan_bits, is_nan, add, lt, le}
use borrow.Author.Tests.{lt-ltb, le-ltb, le-leb, leb-true, eq-eqb, ne_eqb}
use Rattle.ladder.specs.Ordinal as L
use Rattle.ladder.proofs.Cases.{le_or_lt}
use Rattle.ladder.proofs.Ieee.{frac}
use Rattle.ladder.proofs.Ordinals.{infinity_lt_sign, finite_low, finite_high, ordinal_low, ordinal_high, pattern_ordinal}
use Rattle.ladder.proofs.Standard.{exponents, add_sum}
use Rattle.ladder.proofs.Numbers.{finite_number, number_fits, number_bits, number_lt, number_le, number_add, number_sum}
use Rattle.arith.specs.declared.format.Format.{Format}
use Rattle.arith.specs.Binaries.{IsBinary}
use Rattle.arith.specs.Formats.{binary, fits32, fits64, Sound, is_finite, ordinal, pattern}
use Rattle.arith.specs.declared.interval.Interval.{Interval}
use Rattle.arith.specs.Intervals.{ends_finite}
use Rattle.arith.proofs.Intervals.{ends_both}
use Rattle.machine.specs.Floats.{machine, is_number, FitsWidth, Adds, Negates, unsigned}

-- ---- the formats
-- the kit's format by its bits, where a word holds its patterns
abbrev Fits : I.Format → Type 0
Fits F = IsBinary (frac F) (exponents F) (L.sign (frac F) (exponents F)) (L.infinity (frac F) (exponents F))

abbrev here : (F : I.Format) → Fits F → Format
here F ok = binary (frac F) (exponents F) ok

pub sound_machine : (wide : Bool) → Sound (machine wide)
sound_machine wide = (machine wide).sound

pub machine_some : (wide : Bool) → 0 < (machine wide).infinity
unfolding L.infinity
machine_some true = lit≤ tt
machine_some false = lit≤ tt

-- so that 1 is neither zero nor next to an infinity
pub machine_more : (wide : Bool) → 2 < (machine wide).infinity
unfolding L.infinity
machine_more true = lit≤ tt
machine_more false = lit≤ tt

-- a const parameter by its bits
abbrev pub flag : ℕ → Bool
flag w = not (eqb w 0)

flag_off : (w : ℕ) → w ≡ 0 → flag w ≡ false
flag_off w e = ap not (eq-eqb w 0 e)

pub wide_is : (w : ℕ) → (w ≡ 0 → ⊥) → machine (flag w) ≡ here I.binary64 fits64
wide_is w n = ap (λ (b : Bool). machine (not b)) (ne_eqb w 0 n)

pub narrow_is : (w : ℕ) → w ≡ 0 → machine (flag w) ≡ here I.binary32 fits32
narrow_is w e = ap machine (flag_off w e)

-- ---- finite patterns and numbers
pub number_of : (F : Format) (p : ℕ) → is_finite F p ≡ true → is_number F p ≡ true
number_of F p h = finite_number F.fraction F.exponent p h

-- what holds of both holds of the one chosen
pub chosen : (P : ℕ → Type 0) (t : Bool) (r x y : ℕ) → r ≡ cond t x y → P x → P y → P r
chosen P true r x y e h k = subst P (sym e) h
chosen P false r x y e h k = subst P (sym e) k

-- the ends of a finite interval are numbers
pub ends_numbers : (F : Format) (i : Interval) → ends_finite F i ≡ true → (is_number F i.low ≡ true) × (is_number F i.high ≡ true)
ends_numbers F i h = let k = ends_both F i h in (number_of F i.low k.0, number_of F i.high k.1)

-- ---- the kit's account, at a format that is the kit's
module _ (F : I.Format) (ok : Fits F) (G : Format) (g : G ≡ here F ok) where
  number_at : (p : ℕ) → is_number G p ≡ true → is_number (here F ok) p ≡ true
  number_at p h = subst (λ (K : Format). is_number K p ≡ true) g h

  finite_at : (p : ℕ) → is_finite G p ≡ true → is_finite (here F ok) p ≡ true
  finite_at p h = subst (λ (K : Format). is_finite K p ≡ true) g h

  fits : (p : ℕ) → is_number G p ≡ true → p < 2 * (here F ok).sign
  fits p h = number_fits (frac F) (exponents F) p (number_at p h)

  pub number : (p : ℕ) → is_number G p ≡ true → T (not (nan_bits F p))
  number p h = number_bits F p (number_at p h)

  pub adds_number : (p q : ℕ) → is_number G p ≡ true → is_finite G q ≡ true → T (not (is_nan (add F (of_bits F p) (of_bits F q))))
  adds_number p q P Q = number_add F p q (number_at p P) (finite_at q Q)

  pub adds : (p q : ℕ) → is_number G p ≡ true → is_finite G q ≡ true → Adds G p q (to_bits F (add F (of_bits F p) (of_bits F q)))
  adds p q P Q =
      subst (λ (K : Format). Adds K p q (to_bits F (add F (of_bits F p) (of_bits F q)))) (sym g)
      (record { number = number_sum F p q (number_at p P) (finite_at q Q); is = λ X. add_sum F p q X (finite_at q Q) })

  -- a test of two ordinals
  tests : (test : ℕ → ℕ → Bool) (p q : ℕ) → test (ordinal (here F ok) p) (ordinal (here F ok) q) ≡ test (ordinal G p) (ordinal G q)
  tests test p q = sym (ap (λ (K : Format). test (ordinal K p) (ordinal K q)) g)

  pub compares : (p q : ℕ) → is_number G p ≡ true → is_number G q ≡ true → le (of_bits F p) (of_bits F q) ≡ leb (ordinal G p) (ordinal G q)
  compares p q P Q = number_le F p q (number_at p P) (number_at q Q) ∙ tests leb p q

  pub precedes : (p q : ℕ) → is_number G p ≡ true → is_number G q ≡ true → lt (of_bits F p) (of_bits F q) ≡ ltb (ordinal G p) (ordinal G q)
  precedes p q P Q = number_lt F p q (number_at p P) (number_at q Q) ∙ tests ltb p q

-- ---- numbers fit the width
pub fits_width : (wide : Bool) (p : ℕ) → is_number (machine wide) p ≡ true → FitsWidth wide p
unfolding L.sign
fits_width wide p h e = omega (arith, fits I.binary32 fits32 (machine wide) (ap machine e) p h)

pub fits_word : (w : ℕ) → w ≡ 0 → (p : ℕ) → is_number (machine (flag w)) p ≡ true → p < 2 ^ 32
fits_word w e p h = fits_width (flag w) p h (flag_off w e)

pub finite_width : (wide : Bool) (p : ℕ) → is_finite (machine wide) p ≡ true → FitsWidth wide p
finite_width wide p h = fits_width wide p (number_of (machine wide) p h)

-- ---- the other sign
module _ (F : Format) (p : ℕ) (n : is_number F p ≡ true) where
  abbrev f : ℕ
  f = F.fraction

  abbrev e : ℕ
  e = F.exponent

  abbrev s : ℕ
  s = L.sign f e

  negates_low : (r : ℕ) → p < s → r ≡ p + s → Negates F p r
  negates_low r l h =
      let q : p ≤ L.infinity f e = leb-true _ _ (simp (lt-ltb _ _ l) at n) in
      let a : s ≤ r = omega arith in
      record {
        number = simp (le-ltb _ _ a, le-leb (r - s) (L.infinity f e) (omega arith));
        finite = λ t. simp (le-ltb _ _ a, lt-ltb (r - s) (L.infinity f e) (omega (arith, finite_low f e p t l)));
        is = omega (arith, ordinal_high f e r a, ordinal_low f e p l);
      }

  negates_high : (r : ℕ) → s ≤ p → r ≡ p - s → Negates F p r
  negates_high r l h =
      let q : p - s ≤ L.infinity f e = leb-true _ _ (simp (le-ltb _ _ l) at n) in
      let a : r < s = omega (arith, infinity_lt_sign f e) in
      record {
        number = simp (lt-ltb _ _ a, le-leb r (L.infinity f e) (omega arith));
        finite = λ t. simp (lt-ltb _ _ a, lt-ltb r (L.infinity f e) (omega (arith, finite_high f e p t l)));
        is = omega (arith, ordinal_low f e r a, ordinal_high f e p l);
      }

  negates_here : (r : ℕ) → r ≡ cond (ltb p s) (p + s) (p - s) → Negates F p r
  negates_here r h = elim (le_or_lt s p) [
    | inl l ↦ negates_high r l (simp (le-ltb _ _ l) at h)
    | inr l ↦ negates_low r l (simp (lt-ltb _ _ l) at h)
  ]

-- a power of two turned in a number below its double
flipped : (k p : ℕ) → p < 2 * 2 ^ k → bit_xor p (2 ^ k) ≡ cond (ltb p (2 ^ k)) (p + 2 ^ k) (p - 2 ^ k)
flipped k p l =
    let one : 2 ^ k ≡ 1 * 2 ^ k + 0 = omega arith in
    elim (le_or_lt (2 ^ k) p) [
      | inl h ↦ let e : p ≡ 1 * 2 ^ k + (p - 2 ^ k) = omega arith in simp (le-ltb _ _ h) (ap₂ bit_xor e one ∙ xor_block k 1 1 (p - 2 ^ k) 0 (omega arith) (pow_pos k) ∙ ap₂ (λ (x y : ℕ). x * 2 ^ k + y) (xor_self 1) (xor_zero_r (p - 2 ^ k)) ∙ omega arith)
      | inr h ↦ let e : p ≡ 0 * 2 ^ k + p = omega arith in simp (lt-ltb _ _ h) (ap₂ bit_xor e one ∙ xor_block k 0 1 p 0 h (pow_pos k) ∙ ap₂ (λ (x y : ℕ). x * 2 ^ k + y) (xor_zero_l 1) (xor_zero_r p) ∙ omega arith)
    ]

-- where G is known as F
pub negated : (F G : Format) → Sound F → G ≡ F → (p : ℕ) → is_number F p ≡ true → Negates F p (bit_xor p G.sign)
unfolding L.sign
negated F G ok g p n = negates_here F p n _ (ap (bit_xor p) (ap (λ (K : Format). K.sign) g ∙ ok.sign) ∙ flipped (F.fraction + F.exponent) p (number_fits F.fraction F.exponent p n))

-- ---- without the sign
pub sign_some : (wide : Bool) → 0 < (machine wide).sign
unfolding L.sign
sign_some true = lit≤ tt
sign_some false = lit≤ tt

pub width_bound : (wide : Bool) (p : ℕ) → FitsWidth wide p → p < 2 ^ 64 → p < 2 * (machine wide).sign
unfolding L.sign
width_bound true p h l = l
width_bound false p h l = h refl

pub size_rest : (F G : Format) → G ≡ F → (p : ℕ) → p < 2 * F.sign → p % G.sign ≡ unsigned F p
size_rest F G g p l =
    ap (λ (K : Format). p % K.sign) g ∙ elim (le_or_lt F.sign p) [
      | inl h ↦ let e : p ≡ (p - F.sign) + F.sign = omega arith in simp (le-ltb _ _ h) (ap (λ (n : ℕ). n % F.sign) e ∙ add-mod_right (p - F.sign) F.sign ∙ mod-eq_of_lt (omega arith))
      | inr h ↦ simp (lt-ltb _ _ h) (mod-eq_of_lt h)
    ]

-- ---- as it is written, where G is known as F
module _ (F G : Format) (g : G ≡ F) (p : ℕ) (ok : Sound F) (t : is_finite F p ≡ true) where
  sign_at : G.sign ≡ L.sign F.fraction F.exponent
  sign_at = ap (λ (K : Format). K.sign) g ∙ ok.sign

  pub canonical_zero : p ≡ G.sign → 0 ≡ pattern F (ordinal F p)
  unfolding L.canonical
  canonical_zero h = sym (pattern_ordinal F.fraction F.exponent p t ∙ ap (λ (b : Bool). cond b 0 p) (eq-eqb _ _ (h ∙ sign_at)))

  pub canonical_same : (p ≡ G.sign → ⊥) → p ≡ pattern F (ordinal F p)
  unfolding L.canonical
  canonical_same h = sym (pattern_ordinal F.fraction F.exponent p t ∙ ap (λ (b : Bool). cond b 0 p) (ne_eqb _ _ (λ z. h (z ∙ sym sign_at))))
