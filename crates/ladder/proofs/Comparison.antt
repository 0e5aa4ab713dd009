-- The order is the one of the kit's account of IEEE 754, lib.Ieee's `lt`, `eq` and `le`, which `<`, `==` and `<=` on `f32` and `f64` have: two finite patterns compare as their ordinals do, so that both zeros are equal. Rests on Standard.
use mathlib.Core.Path.{◌≡◌, refl, sym, ap, ap₂, ◌∙◌}
use mathlib.Core.Logic.{inl, inr}
use mathlib.Core.Bool.{Bool, true, false, not, ◌&&◌, ◌||◌, and-true, and_comm}
use Prim.Native.Nat.{ℕ, ◌+◌, ◌-◌, ◌*◌, ◌^◌, ◌≤◌, ◌<◌}
use native.Mathlib.Nat.{add_comm, mul-pos}
use native.Mathlib.Omega.{arith}
use lib.Dec.{leb, ltb, eqb}
use lib.Pow.{pow_pos}
use lib.Ieee as I
use lib.Ieee.{Float, nan, inf, fin, Format, low, up, down, hid, ones, of_bits, lt, eq, le}
use lib.Ieee.Fits.{down_pos}
use lib.Ieee.Exact.{HasValue}
use borrow.Author.Tests.{lt-ltb, le-ltb, eq-eqb, ne_eqb, le-leb, lt-leb}
use Rattle.ladder.specs.Magnitude.{magnitude}
use Rattle.ladder.specs.Ordinal.{sign, infinity, is_finite, ordinal}
use Rattle.ladder.proofs.Cases.{le_or_lt, trichotomy}
use Rattle.ladder.proofs.Magnitude.{magnitude_lt, lt_of_magnitude, magnitude_zero}
use Rattle.ladder.proofs.Ordinals.{infinity_lt_sign}
use Rattle.ladder.proofs.Ieee.{frac}
use Rattle.ladder.proofs.Standard.{same_ltb, lt_up, lt_down, exponents, infinity_is, signed_bits, signed, ordinal_bits, value_of, read_pattern}

-- ---- equal is neither less nor greater
abbrev pub neither : Bool → Bool → Bool
neither p q = not p && not q

pub eqb_neither : (a b : ℕ) → eqb a b ≡ neither (ltb a b) (ltb b a)
eqb_neither a b = elim (trichotomy a b) [
  | inl l ↦ simp (lt-ltb _ _ l, ne_eqb _ _ (λ (e : a ≡ b). omega arith))
  | inr r ↦ elim r [
    | inl e ↦ simp (eq-eqb _ _ e, le-ltb a b (omega arith), le-ltb b a (omega arith))
    | inr g ↦ simp (lt-ltb _ _ g, ne_eqb _ _ (λ (e : a ≡ b). omega arith), le-ltb a b (omega arith))
  ]
]

pub leb_or : (a b : ℕ) → leb a b ≡ (ltb a b || eqb a b)
leb_or a b = elim (trichotomy a b) [
  | inl l ↦ simp (lt-ltb _ _ l, le-leb a b (omega arith))
  | inr r ↦ elim r [
    | inl e ↦ simp (eq-eqb _ _ e, le-ltb a b (omega arith), le-leb a b (omega arith))
    | inr g ↦ simp (lt-leb _ _ g, le-ltb a b (omega arith), ne_eqb a b (λ (e : a ≡ b). omega arith))
  ]
]

both_zero : (a b : ℕ) → (eqb a b && eqb a 0) ≡ not (ltb 0 (a + b))
both_zero a b = elim (trichotomy a 0) [
  | inl l ↦ absurd (omega arith)
  | inr r ↦ elim r [
    | inr g ↦ ap (λ (p : Bool). eqb a b && p) (ne_eqb a 0 (λ (e : a ≡ 0). omega arith)) ∙ and_comm (eqb a b) false ∙ sym (ap not (lt-ltb 0 (a + b) (omega arith)))
    | inl e ↦ elim (trichotomy b 0) [
      | inl l ↦ absurd (omega arith)
      | inr t ↦ elim t [
        | inr g ↦ ap (λ (p : Bool). p && eqb a 0) (ne_eqb a b (λ (i : a ≡ b). omega arith)) ∙ sym (ap not (lt-ltb 0 (a + b) (omega arith)))
        | inl i ↦ ap₂ ◌&&◌ (eq-eqb a b (omega arith)) (eq-eqb a 0 e) ∙ sym (ap not (le-ltb 0 (a + b) (omega arith)))
      ]
    ]
  ]
]

pub level_neither : (s t : Bool) (a b : ℕ) → I.level s a t b ≡ neither (I.below s a t b) (I.below t b s a)
level_neither false false a b = and-true (eqb a b) ∙ eqb_neither a b
level_neither true true a b = and-true (eqb a b) ∙ eqb_neither a b ∙ and_comm (not (ltb a b)) (not (ltb b a))
level_neither false true a b = both_zero a b ∙ ap (λ (n : ℕ). not (ltb 0 n)) (add_comm a b)
level_neither true false a b = both_zero a b ∙ sym (and-true (not (ltb 0 (a + b))))

-- ---- comparisons turn on the values alone
module _ (c L : ℕ) (C : 0 < c) (P : 0 < L) where
  below_same : (s t : Bool) (a b A B : ℕ) → a * L ≡ A * c → b * L ≡ B * c → I.below s a t b ≡ I.below s A t B
  below_same false false a b A B p q = same_ltb a b A B (lt_up c L C P a b A B p q) (lt_down c L C P a b A B p q)
  below_same false true a b A B p q = refl
  below_same true false a b A B p q = same_ltb 0 (a + b) 0 (A + B) (lt_up c L C P 0 (a + b) 0 (A + B) (omega arith) (omega arith)) (lt_down c L C P 0 (a + b) 0 (A + B) (omega arith) (omega arith))
  below_same true true a b A B p q = same_ltb b a B A (lt_up c L C P b a B A q p) (lt_down c L C P b a B A q p)

module _ (L : ℕ) (P : 0 < L) where
  lt_at : (x y : Float) (s t : Bool) (A B : ℕ) → HasValue x s A L → HasValue y t B L → lt x y ≡ I.below s A t B
  unfolding lt
  lt_at nan y s t A B h g = absurd h
  lt_at (inf u) y s t A B h g = absurd h
  lt_at (fin u m e) nan s t A B h g = absurd g
  lt_at (fin u m e) (inf v) s t A B h g = absurd g
  lt_at (fin u m e) (fin v n d) s t A B h g =
      ap₂ (λ (x y : Bool). I.below x (m * up e * down d) y (n * up d * down e)) h.0 g.0
      ∙ below_same (down e * down d) L (mul-pos (down_pos e) (down_pos d)) P s t (m * up e * down d) (n * up d * down e) A B
      (omega (arith, ap (λ (x : ℕ). x * down d) h.1)) (omega (arith, ap (λ (x : ℕ). x * down e) g.1))

  eq_neither : (x y : Float) (s t : Bool) (A B : ℕ) → HasValue x s A L → HasValue y t B L → eq x y ≡ neither (lt x y) (lt y x)
  unfolding lt eq
  eq_neither nan y s t A B h g = absurd h
  eq_neither (inf u) y s t A B h g = absurd h
  eq_neither (fin u m e) nan s t A B h g = absurd g
  eq_neither (fin u m e) (inf v) s t A B h g = absurd g
  eq_neither (fin u m e) (fin v n d) s t A B h g = level_neither u v (m * up e * down d) (n * up d * down e)

-- ---- and so on the ordinals
module _ (F : Format) where
  abbrev f : ℕ
  f = frac F

  abbrev e : ℕ
  e = exponents F

  abbrev s : ℕ
  s = sign f e

  -- of two values one is not zero where one m is not
  some_value : (m n : ℕ) → 0 < m + n → 0 < magnitude f m + magnitude f n
  some_value m n l = elim (le_or_lt m 0) [ inl g ↦ omega (arith, magnitude_lt f 0 n (omega arith)) | inr g ↦ omega (arith, magnitude_lt f 0 m g) ]

  some_place : (m n : ℕ) → 0 < magnitude f m + magnitude f n → 0 < m + n
  some_place m n l = elim (le_or_lt (m + n) 0) [ inl g ↦ absurd (omega (arith, magnitude_zero f m (omega arith), magnitude_zero f n (omega arith))) | inr g ↦ g ]

  below_ordinals : (b c : Bool) (m n : ℕ) → m < s → n < s → I.below b (magnitude f m) c (magnitude f n) ≡ ltb (signed F b m) (signed F c n)
  below_ordinals false false m n h g = same_ltb (magnitude f m) (magnitude f n) (s + m) (s + n) (λ l. omega (arith, lt_of_magnitude f m n l)) (λ l. magnitude_lt f m n (omega arith))
  below_ordinals false true m n h g = sym (le-ltb (s + m) (s - n) (omega arith))
  below_ordinals true false m n h g = same_ltb 0 (magnitude f m + magnitude f n) (s - m) (s + n) (λ l. omega (arith, some_place m n l)) (λ l. some_value m n (omega arith))
  below_ordinals true true m n h g = same_ltb (magnitude f n) (magnitude f m) (s - m) (s - n) (λ l. omega (arith, lt_of_magnitude f n m l)) (λ l. magnitude_lt f n m (omega arith))

  -- ---- the comparisons of two finite patterns
  finite_place : (m : ℕ) → m < ones F * hid F → (m < s) × (m ≤ infinity f e)
  finite_place m l = (omega (arith, infinity_is F, infinity_lt_sign f e), omega (arith, infinity_is F))

  pub lt_order : (x y : ℕ) → is_finite f e x ≡ true → is_finite f e y ≡ true → lt (of_bits F x) (of_bits F y) ≡ ltb (ordinal f e x) (ordinal f e y)
  lt_order x y X Y =
      let i = read_pattern F x X in
      let j = read_pattern F y Y in
      let p = finite_place i.m i.low in
      let q = finite_place j.m j.low in
      ap₂ (λ (u v : ℕ). lt (of_bits F u) (of_bits F v)) i.is j.is
      ∙ lt_at (2 ^ low F) (pow_pos (low F)) (of_bits F (signed_bits F i.b i.m)) (of_bits F (signed_bits F j.b j.m)) i.b j.b (magnitude f i.m) (magnitude f j.m) (value_of F i.b i.m i.low) (value_of F j.b j.m j.low)
      ∙ below_ordinals i.b j.b i.m j.m p.0 q.0
      ∙ sym (ap₂ ltb (ap (ordinal f e) i.is ∙ ordinal_bits F i.b i.m p.1) (ap (ordinal f e) j.is ∙ ordinal_bits F j.b j.m q.1))

  pub eq_order : (x y : ℕ) → is_finite f e x ≡ true → is_finite f e y ≡ true → eq (of_bits F x) (of_bits F y) ≡ eqb (ordinal f e x) (ordinal f e y)
  eq_order x y X Y =
      let i = read_pattern F x X in
      let j = read_pattern F y Y in
      ap₂ (λ (u v : ℕ). eq (of_bits F u) (of_bits F v)) i.is j.is
      ∙ eq_neither (2 ^ low F) (pow_pos (low F)) (of_bits F (signed_bits F i.b i.m)) (of_bits F (signed_bits F j.b j.m)) i.b j.b (magnitude f i.m) (magnitude f j.m) (value_of F i.b i.m i.low) (value_of F j.b j.m j.low)
      ∙ sym (ap₂ (λ (u v : ℕ). neither (lt (of_bits F u) (of_bits F v)) (lt (of_bits F v) (of_bits F u))) i.is j.is)
      ∙ ap₂ neither (lt_order x y X Y) (lt_order y x Y X)
      ∙ sym (eqb_neither (ordinal f e x) (ordinal f e y))

  pub le_order : (x y : ℕ) → is_finite f e x ≡ true → is_finite f e y ≡ true → le (of_bits F x) (of_bits F y) ≡ leb (ordinal f e x) (ordinal f e y)
  unfolding le
  le_order x y X Y = ap₂ ◌||◌ (lt_order x y X Y) (eq_order x y X Y) ∙ sym (leb_or (ordinal f e x) (ordinal f e y))
