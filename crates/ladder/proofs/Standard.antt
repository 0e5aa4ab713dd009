-- The sum is the one of the kit's account of IEEE 754, lib.Ieee's `add`, which `f32` and `f64` have: for two finite patterns the ordinal of its bits is the sum of their ordinals, overflow included. Neither they nor their sum are NaN's.
-- Assumes nothing.
use mathlib.Core.Path.{◌≡◌, refl, sym, ap, ap₂, ◌∙◌, subst}
use mathlib.Core.Logic.{◌⊎◌, inl, inr}
use mathlib.Core.Bool.{Bool, true, false, not, cond, ◌&&◌, beq}
use Prim.Native.Nat.{ℕ, zero, suc, ◌+◌, ◌-◌, ◌*◌, ◌/◌, ◌%◌, ◌^◌, min, ◌≤◌, ◌<◌}
use native.Mathlib.Nat.{lt_of_mul-lt-mul_right, mul-lt-mul_of_pos_right, mul-pos, add-mod_left, mod-eq_of_lt, mul-add-mod_self_left, div-lt_iff_lt-mul}
use native.Mathlib.Omega.{arith}
use lib.Dec.{T, leb, ltb, eqb, lt→ltb, le→leb, not_T, eqb→eq, lit≤}
use lib.Arith.{le→nltb, lt→nleb}
use lib.Pow.{pow_pos}
use lib.Ieee as I
use lib.Ieee.{Float, nan, inf, fin, Format, binary32, binary64, prec, low, up, down, odd, hid, ones, top, of_fields, of_bits, to_bits, is_nan, nan_bits, add}
use lib.Ieee.Fits.{two, down_pos}
use lib.Ieee.Bits.{cond_no, is_true, is_false, nan_bits_is, to_bits-of_bits}
use lib.Ieee.Exact.{HasValue, odd_sign}
use lib.Ieee.Scale.{round_same}
use Rattle.ladder.specs.Magnitude.{scaled, magnitude}
use Rattle.ladder.specs.Rounding.{round}
use Rattle.ladder.specs.Ordinal.{sign, infinity, is_finite, ordinal, above, below}
use Rattle.ladder.specs.Sum.{rounded, sum}
use Rattle.ladder.proofs.Cases.{le_or_lt}
use Rattle.ladder.proofs.Multiples.{sub_mul}
use Rattle.ladder.proofs.Ordinals.{infinity_lt_sign, finite_low, finite_high, ordinal_low, ordinal_high, signed_value}
use Rattle.ladder.proofs.Sum.{rounded_up, rounded_down, sum_range}
use Rattle.ladder.proofs.Ieee.{frac, round_bits}

-- ---- the sum of two fractions turns on their values alone
pub same_ltb : (a b c d : ℕ) → (a < b → c < d) → (c < d → a < b) → ltb a b ≡ ltb c d
same_ltb a b c d p q = elim (le_or_lt b a) [
  | inr l ↦ is_true (ltb a b) (lt→ltb a b l) ∙ sym (is_true (ltb c d) (lt→ltb c d (p l)))
  | inl l ↦ elim (le_or_lt d c) [
    | inl g ↦ is_false (ltb a b) (le→nltb a b l) ∙ sym (is_false (ltb c d) (le→nltb c d g))
    | inr g ↦ is_true (ltb a b) (lt→ltb a b (q g)) ∙ sym (is_true (ltb c d) (lt→ltb c d g))
  ]
]

module _ (c L : ℕ) (C : 0 < c) (P : 0 < L) where
  pub lt_up : (a b A B : ℕ) → a * L ≡ A * c → b * L ≡ B * c → a < b → A < B
  lt_up a b A B p q l = lt_of_mul-lt-mul_right c (omega (arith, mul-lt-mul_of_pos_right l P))

  pub lt_down : (a b A B : ℕ) → a * L ≡ A * c → b * L ≡ B * c → A < B → a < b
  lt_down a b A B p q l = lt_of_mul-lt-mul_right L (omega (arith, mul-lt-mul_of_pos_right l C))

  less : (a b A B : ℕ) → a * L ≡ A * c → b * L ≡ B * c → (b - a) * L ≡ (B - A) * c
  less a b A B p q = omega (arith, sub_mul b a L, sub_mul B A c)

  sum_same : (F : Format) (s t : Bool) (a b A B : ℕ) → a * L ≡ A * c → b * L ≡ B * c → I.sum F s a t b c ≡ I.sum F s A t B L
  unfolding I.sum
  sum_same F s t a b A B p q =
      ap₂ (cond (beq s t)) (round_same F s (a + b) c (A + B) L C P (omega arith))
      (ap (λ (z : Bool). cond z (I.round F t (b - a) c) (I.round F (s && ltb b a) (a - b) c)) (same_ltb a b A B (lt_up a b A B p q) (lt_down a b A B p q))
      ∙ ap₂ (cond (ltb A B)) (round_same F t (b - a) c (B - A) L C P (less a b A B p q))
      (ap (λ (z : Bool). I.round F (s && z) (a - b) c) (same_ltb b a B A (lt_up b a B A q p) (lt_down b a B A q p))
      ∙ round_same F (s && ltb B A) (a - b) c (A - B) L C P (less b a B A q p)))

add_at : (F : Format) (x y : Float) (s t : Bool) (A B L : ℕ) → 0 < L → HasValue x s A L → HasValue y t B L → add F x y ≡ I.sum F s A t B L
unfolding add
add_at F nan y s t A B L P h g = absurd h
add_at F (inf u) y s t A B L P h g = absurd h
add_at F (fin u m e) nan s t A B L P h g = absurd g
add_at F (fin u m e) (inf v) s t A B L P h g = absurd g
add_at F (fin u m e) (fin v n d) s t A B L P h g =
    ap₂ (λ (x y : Bool). I.sum F x (m * up e * down d) y (n * up d * down e) (down e * down d)) h.0 g.0
    ∙ sum_same (down e * down d) L (mul-pos (down_pos e) (down_pos d)) P F s t (m * up e * down d) (n * up d * down e) A B
    (omega (arith, ap (λ (x : ℕ). x * down d) h.1)) (omega (arith, ap (λ (x : ℕ). x * down e) g.1))

-- ---- a finite pattern's value
abbrev pub signed_bits : Format → Bool → ℕ → ℕ
signed_bits F s m = cond s (top F) 0 + m

fields_value : (F : Format) (s : Bool) (x t : ℕ) → x < ones F → HasValue (of_fields F s x t) s (scaled (hid F) x t) (2 ^ low F)
unfolding of_fields
fields_value F s zero t h = subst (λ (x : ℕ). HasValue (odd (prec F) s t 0 (low F)) s x (2 ^ low F)) (omega arith) (odd_sign (prec F) s t 0 (low F))
fields_value F s (suc x) t h =
    subst (λ (z : Float). HasValue z s ((hid F + t) * 2 ^ x) (2 ^ low F))
    (sym (cond_no (eqb (suc x) (ones F)) (cond (eqb t 0) (inf s) nan) (odd (prec F) s (hid F + t) x (low F)) (not_T (eqb (suc x) (ones F)) (λ e. omega (arith, eqb→eq (suc x) (ones F) e)))))
    (odd_sign (prec F) s (hid F + t) x (low F))

under_top : (F : Format) (m : ℕ) → m ≤ ones F * hid F → m < top F
under_top F m h = omega (arith, pow_pos (frac F))

read : (F : Format) (s : Bool) (m : ℕ) → m < top F → (leb (top F) (signed_bits F s m) ≡ s) × (signed_bits F s m % top F ≡ m) × (signed_bits F s m % hid F ≡ m % hid F)
read F true m h = (is_true (leb (top F) (top F + m)) (le→leb (top F) (top F + m) (omega arith)), add-mod_left (top F) m ∙ mod-eq_of_lt h, mul-add-mod_self_left (hid F) (suc (ones F)) m)
read F false m h =
    let e : 0 + m ≡ m = omega arith in
    (is_false (leb (top F) (0 + m)) (lt→nleb (top F) (0 + m) (omega arith)), ap (λ (x : ℕ). x % top F) e ∙ mod-eq_of_lt h, ap (λ (x : ℕ). x % hid F) e)

pub value_of : (F : Format) (s : Bool) (m : ℕ) → m < ones F * hid F → HasValue (of_bits F (signed_bits F s m)) s (magnitude (frac F) m) (2 ^ low F)
unfolding of_bits magnitude
value_of F s m h =
    let r = read F s m (under_top F m (omega arith)) in
    let e : of_bits F (signed_bits F s m) ≡ of_fields F s (m / hid F) (m % hid F) = ap₂ (λ (b : Bool) (x : ℕ). of_fields F b (x / hid F) (signed_bits F s m % hid F)) r.0 r.1 ∙ ap (of_fields F s (m / hid F)) r.2 in
    subst (λ (z : Float). HasValue z s (scaled (hid F) (m / hid F) (m % hid F)) (2 ^ low F)) (sym e) (fields_value F s (m / hid F) (m % hid F) ((div-lt_iff_lt-mul (pow_pos (frac F))).1 h))

-- ---- what has a value is no NaN
valued : (z : Float) (s : Bool) (a c : ℕ) → HasValue z s a c → T (not (is_nan z))
unfolding is_nan
valued nan s a c h = absurd h
valued (inf t) s a c h = tt
valued (fin t m e) s a c h = tt

half : (F : Format) → 1 ≤ hid F / 2
half binary32 = lit≤ tt
half binary64 = lit≤ tt

-- ---- ordinals: the format of the kit, by its exponent bits
abbrev pub exponents : Format → ℕ
exponents binary32 = 8
exponents binary64 = 11

pub sign_is : (F : Format) → sign (frac F) (exponents F) ≡ top F
unfolding sign
sign_is binary32 = refl
sign_is binary64 = refl

pub infinity_is : (F : Format) → infinity (frac F) (exponents F) ≡ ones F * hid F
unfolding infinity
infinity_is binary32 = refl
infinity_is binary64 = refl

module _ (F : Format) where
  abbrev f : ℕ
  f = frac F

  abbrev e : ℕ
  e = exponents F

  abbrev s : ℕ
  s = sign f e

  abbrev cap : ℕ
  cap = infinity f e

  some : 1 ≤ f
  some = omega (arith, two F)

  -- a sign and m
  abbrev pub signed : Bool → ℕ → ℕ
  signed b m = cond b (s - m) (s + m)

  pub ordinal_bits : (b : Bool) (m : ℕ) → m ≤ cap → ordinal f e (signed_bits F b m) ≡ signed b m
  ordinal_bits true m h = ordinal_high f e (top F + m) (omega (arith, sign_is F)) ∙ omega (arith, sign_is F)
  ordinal_bits false m h = ordinal_low f e (0 + m) (omega (arith, infinity_lt_sign f e)) ∙ omega arith

  out : (b : Bool) (n : ℕ) → ordinal f e (to_bits F (I.round F b n (2 ^ low F))) ≡ signed b (min (round f n) cap)
  out b n =
      ap (ordinal f e) (round_bits F b n ∙ ap (λ (c : ℕ). cond b (top F) 0 + min (round f n) c) (sym (infinity_is F)))
      ∙ ordinal_bits b (min (round f n) cap) (omega arith)

  to_up : (p n v : ℕ) → n ≤ p → v ≡ p - n → s + min (round f v) cap ≡ rounded f e p n
  to_up p n v h w = ap (λ (z : ℕ). s + min (round f z) cap) w ∙ sym (rounded_up f e some p n h)

  to_down : (p n v : ℕ) → p ≤ n → v ≡ n - p → s - min (round f v) cap ≡ rounded f e p n
  to_down p n v h w = ap (λ (z : ℕ). s - min (round f z) cap) w ∙ sym (rounded_down f e some p n h)

  core : (b t : Bool) (A B : ℕ) → ordinal f e (to_bits F (I.sum F b A t B (2 ^ low F))) ≡ rounded f e (cond b 0 A + cond t 0 B) (cond b A 0 + cond t B 0)
  unfolding I.sum
  core false false A B = out false (A + B) ∙ to_up (A + B) (0 + 0) (A + B) (omega arith) (omega arith)
  core true true A B = out true (A + B) ∙ to_down (0 + 0) (A + B) (A + B) (omega arith) (omega arith)
  core false true A B =
      let D = 2 ^ low F in
      let yes· = I.round F true (B - A) D in
      let no· = I.round F false (A - B) D in
      elim (le_or_lt B A) [
        | inr l ↦ ap (λ (b : Bool). ordinal f e (to_bits F (cond b yes· no·))) (is_true (ltb A B) (lt→ltb A B l)) ∙ out true (B - A) ∙ to_down (A + 0) (0 + B) (B - A) (omega arith) (omega arith)
        | inl l ↦ ap (λ (b : Bool). ordinal f e (to_bits F (cond b yes· no·))) (is_false (ltb A B) (le→nltb A B l)) ∙ out false (A - B) ∙ to_up (A + 0) (0 + B) (A - B) (omega arith) (omega arith)
      ]
  core true false A B =
      let D = 2 ^ low F in
      let yes· = I.round F false (B - A) D in
      elim (le_or_lt B A) [
        | inr l ↦ ap (λ (b : Bool). ordinal f e (to_bits F (cond b yes· (I.round F (true && ltb B A) (A - B) D)))) (is_true (ltb A B) (lt→ltb A B l)) ∙ out false (B - A) ∙ to_up (0 + B) (A + 0) (B - A) (omega arith) (omega arith)
        | inl l ↦ ap (λ (b : Bool). ordinal f e (to_bits F (cond b yes· (I.round F (true && ltb B A) (A - B) D)))) (is_false (ltb A B) (le→nltb A B l)) ∙ elim (le_or_lt A B) [
          | inl g ↦ ap (λ (b : Bool). ordinal f e (to_bits F (I.round F (true && b) (A - B) D))) (is_false (ltb B A) (le→nltb B A g)) ∙ out false (A - B) ∙ to_up (0 + B) (A + 0) (A - B) (omega arith) (omega arith)
          | inr g ↦ ap (λ (b : Bool). ordinal f e (to_bits F (I.round F (true && b) (A - B) D))) (is_true (ltb B A) (lt→ltb B A g)) ∙ out true (A - B) ∙ to_down (0 + B) (A + 0) (A - B) (omega arith) (omega arith)
        ]
      ]

  -- a finite pattern by its sign and m, with the value that lib.Ieee reads
  pub record Read (p : ℕ) : Type 0 where
    pub b : Bool
    pub m : ℕ
    pub is : p ≡ signed_bits F b m
    pub low : m < ones F * hid F
    above_is : above f e (ordinal f e p) ≡ cond b 0 (magnitude f m)
    below_is : below f e (ordinal f e p) ≡ cond b (magnitude f m) 0

  pub read_pattern : (p : ℕ) → is_finite f e p ≡ true → Read p
  read_pattern p h = elim (le_or_lt s p) [
    | inl l ↦
        let q = finite_high f e p h l in
        let v = signed_value f e true (ordinal f e p) (p - s) (omega (arith, ordinal_high f e p l, infinity_lt_sign f e)) in
        record { b = true; m = p - s; is = omega (arith, sign_is F); low = omega (arith, infinity_is F); above_is = v.0; below_is = v.1 }
    | inr l ↦
        let q = finite_low f e p h l in
        let v = signed_value f e false (ordinal f e p) p (omega (arith, ordinal_low f e p l)) in
        record { b = false; m = p; is = omega arith; low = omega (arith, infinity_is F); above_is = v.0; below_is = v.1 }
  ]

  pub add_sum : (x a : ℕ) → is_finite f e x ≡ true → is_finite f e a ≡ true
      → ordinal f e (to_bits F (add F (of_bits F x) (of_bits F a))) ≡ sum f e (ordinal f e x) (ordinal f e a)
  unfolding sum
  add_sum x a X A =
      let i = read_pattern x X in
      let j = read_pattern a A in
      ap₂ (λ (y z : ℕ). ordinal f e (to_bits F (add F (of_bits F y) (of_bits F z)))) i.is j.is
      ∙ ap (λ (z : Float). ordinal f e (to_bits F z)) (add_at F (of_bits F (signed_bits F i.b i.m)) (of_bits F (signed_bits F j.b j.m)) i.b j.b (magnitude f i.m) (magnitude f j.m) (2 ^ low F) (pow_pos (low F)) (value_of F i.b i.m i.low) (value_of F j.b j.m j.low))
      ∙ core i.b j.b (magnitude f i.m) (magnitude f j.m)
      ∙ sym (ap₂ (rounded f e) (ap₂ ◌+◌ i.above_is j.above_is) (ap₂ ◌+◌ i.below_is j.below_is))

  -- ---- NaN's
  pub pattern_number : (p : ℕ) → is_finite f e p ≡ true → T (not (nan_bits F p))
  pattern_number p h =
      let i = read_pattern p h in
      rw (nan_bits_is F p) (subst (λ (n : ℕ). T (not (is_nan (of_bits F n)))) (sym i.is) (valued _ _ _ _ (value_of F i.b i.m i.low)))

  -- and the number that is read from it has this pattern
  pub pattern_read : (p : ℕ) → is_finite f e p ≡ true → to_bits F (of_bits F p) ≡ p
  pattern_read p h = to_bits-of_bits F p (fits (le_or_lt s p)) (subst (λ (b : Bool). T (not b)) (nan_bits_is F p) (pattern_number p h))
    where
      fits : (s ≤ p) ⊎ (p < s) → p < 2 * top F
      fits (inl l) = omega (arith, sign_is F, infinity_lt_sign f e, finite_high f e p h l)
      fits (inr l) = omega (arith, sign_is F)

  -- the ordinal of the pattern that lib.Ieee writes for a NaN lies beyond infinity's
  below_nan : (z : Float) → ordinal f e (to_bits F z) ≤ s + cap → T (not (is_nan z))
  unfolding is_nan to_bits
  below_nan nan h = absurd (omega (arith, half F, infinity_is F, ordinal_low f e (ones F * hid F + hid F / 2) (omega (arith, sign_is F, pow_pos (frac F)))))
  below_nan (inf t) h = tt
  below_nan (fin t m d) h = tt

  pub sum_number_lem : (x a : ℕ) → is_finite f e x ≡ true → is_finite f e a ≡ true → T (not (is_nan (add F (of_bits F x) (of_bits F a))))
  sum_number_lem x a X A = below_nan _ (subst (λ (r : ℕ). r ≤ s + cap) (sym (add_sum x a X A)) (sum_range f e some (ordinal f e x) (ordinal f e a)).1)

-- at the two widths
pub add_sum_32 : (x a : ℕ) → is_finite 23 8 x ≡ true → is_finite 23 8 a ≡ true → ordinal 23 8 (to_bits binary32 (add binary32 (of_bits binary32 x) (of_bits binary32 a))) ≡ sum 23 8 (ordinal 23 8 x) (ordinal 23 8 a)
add_sum_32 = add_sum binary32

pub add_sum_64 : (x a : ℕ) → is_finite 52 11 x ≡ true → is_finite 52 11 a ≡ true → ordinal 52 11 (to_bits binary64 (add binary64 (of_bits binary64 x) (of_bits binary64 a))) ≡ sum 52 11 (ordinal 52 11 x) (ordinal 52 11 a)
add_sum_64 = add_sum binary64
