-- A number's pattern, finite or an infinity's, as the kit's lib.Ieee takes it: it is no NaN's, two of them compare as their ordinals do, and the sum of a number and a finite pattern is a number. Rests on Standard and Comparison.
use mathlib.Core.Path.{◌≡◌, refl, sym, ap, ap₂, ◌∙◌, subst}
use mathlib.Core.Logic.{inl, inr}
use mathlib.Core.Bool.{Bool, true, false, not, ◌&&◌, ◌||◌}
use Prim.Native.Nat.{ℕ, ◌+◌, ◌-◌, ◌*◌, ◌%◌, ◌^◌, ◌≤◌, ◌<◌}
use native.Mathlib.Nat.{mod-eq_of_lt, mod-eq-sub-mod}
use native.Mathlib.Omega.{arith}
use lib.Dec.{T, leb, ltb, eqb, nltb→le}
use lib.Arith.{le→nltb}
use lib.Pow.{pow_pos}
use lib.Ieee.{Float, nan, inf, fin, Format, low, up, down, hid, ones, top, of_bits, to_bits, is_nan, nan_bits, add, lt, eq, le}
use lib.Ieee.Fits.{add-fits, inf-fits}
use lib.Ieee.Bits.{nan_bits_is, nan_bits_above, of_bits-to_bits, to_bits-lt}
use lib.Ieee.Exact.{HasValue}
use borrow.Author.Tests.{lt-ltb, le-ltb, le-leb, leb-true}
use Rattle.ladder.specs.Magnitude.{magnitude}
use Rattle.ladder.specs.Ordinal.{sign, infinity, is_finite, is_number, ordinal, Finite}
use Rattle.ladder.proofs.Cases.{le_or_lt}
use Rattle.ladder.proofs.Ordinals.{infinity_lt_sign, finite_low, finite_high, ordinal_low, ordinal_high, ordinal_finite}
use Rattle.ladder.proofs.Ieee.{frac, bits_inf}
use Rattle.ladder.proofs.Standard.{exponents, sign_is, infinity_is, signed_bits, signed, ordinal_bits, value_of, read_pattern, sum_number_lem}
use Rattle.ladder.proofs.Comparison.{neither, eqb_neither, leb_or, level_neither, lt_order}

-- ---- numbers by their m
module _ (f e : ℕ) where
  abbrev s : ℕ
  s = sign f e

  number_low : (p : ℕ) → is_number f e p ≡ true → p < s → p ≤ infinity f e
  number_low p h l = leb-true _ _ (simp (lt-ltb _ _ l) at h)

  number_high : (p : ℕ) → is_number f e p ≡ true → s ≤ p → p - s ≤ infinity f e
  number_high p h l = leb-true _ _ (simp (le-ltb _ _ l) at h)

  low_number : (p : ℕ) → p < s → p ≤ infinity f e → is_number f e p ≡ true
  low_number p l h = simp (lt-ltb _ _ l, le-leb _ _ h)

  high_number : (p : ℕ) → s ≤ p → p - s ≤ infinity f e → is_number f e p ≡ true
  high_number p l h = simp (le-ltb _ _ l, le-leb _ _ h)

  low_finite : (p : ℕ) → p < s → p < infinity f e → is_finite f e p ≡ true
  low_finite p l h = simp (lt-ltb _ _ l, lt-ltb _ _ h)

  high_finite : (p : ℕ) → s ≤ p → p - s < infinity f e → is_finite f e p ≡ true
  high_finite p l h = simp (le-ltb _ _ l, lt-ltb _ _ h)

  pub finite_number : (p : ℕ) → is_finite f e p ≡ true → is_number f e p ≡ true
  finite_number p h = elim (le_or_lt s p) [
    | inl l ↦ high_number p l (omega (arith, finite_high f e p h l))
    | inr l ↦ low_number p l (omega (arith, finite_low f e p h l))
  ]

  -- a number is finite where its ordinal is
  pub number_finite : (p : ℕ) → is_number f e p ≡ true → Finite f e (ordinal f e p) → is_finite f e p ≡ true
  number_finite p h n = elim (le_or_lt s p) [
    | inl l ↦ high_finite p l (omega (arith, n.low, ordinal_high f e p l, number_high p h l, infinity_lt_sign f e))
    | inr l ↦ low_finite p l (omega (arith, n.high, ordinal_low f e p l))
  ]

  pub number_fits : (p : ℕ) → is_number f e p ≡ true → p < 2 * sign f e
  number_fits p h = elim (le_or_lt s p) [
    | inl l ↦ omega (arith, number_high p h l, infinity_lt_sign f e)
    | inr l ↦ omega arith
  ]

-- ---- equal is neither less nor greater, for any two values but NaN's
eq_neither : (x y : Float) → T (not (is_nan x)) → T (not (is_nan y)) → eq x y ≡ neither (lt x y) (lt y x)
unfolding lt eq is_nan
eq_neither nan y h g = absurd h
eq_neither (inf s) nan h g = absurd g
eq_neither (inf true) (inf true) h g = refl
eq_neither (inf true) (inf false) h g = refl
eq_neither (inf false) (inf true) h g = refl
eq_neither (inf false) (inf false) h g = refl
eq_neither (inf true) (fin t n d) h g = refl
eq_neither (inf false) (fin t n d) h g = refl
eq_neither (fin s m e) nan h g = absurd g
eq_neither (fin s m e) (inf true) h g = refl
eq_neither (fin s m e) (inf false) h g = refl
eq_neither (fin s m e) (fin t n d) h g = level_neither s t (m * up e * down d) (n * up d * down e)

-- ---- an infinity beside a finite value
inf_lt : (b : Bool) (y : Float) (t : Bool) (A L : ℕ) → HasValue y t A L → lt (inf b) y ≡ b
unfolding lt
inf_lt b nan t A L h = absurd h
inf_lt b (inf u) t A L h = absurd h
inf_lt b (fin u m d) t A L h = refl

lt_inf : (b : Bool) (y : Float) (t : Bool) (A L : ℕ) → HasValue y t A L → lt y (inf b) ≡ not b
unfolding lt
lt_inf b nan t A L h = absurd h
lt_inf b (inf u) t A L h = absurd h
lt_inf b (fin u m d) t A L h = refl

inf_add : (F : Format) (b : Bool) (y : Float) (t : Bool) (A L : ℕ) → HasValue y t A L → add F (inf b) y ≡ inf b
unfolding add
inf_add F b nan t A L h = absurd h
inf_add F b (inf u) t A L h = absurd h
inf_add F b (fin u m d) t A L h = refl

lt_infs : (b c : Bool) → lt (inf b) (inf c) ≡ (b && not c)
unfolding lt
lt_infs b c = refl

inf_number : (b : Bool) → T (not (is_nan (inf b)))
unfolding is_nan
inf_number b = tt

module _ (F : Format) where
  abbrev f : ℕ
  f = frac F

  abbrev e : ℕ
  e = exponents F

  abbrev r : ℕ
  r = sign f e

  abbrev cap : ℕ
  cap = infinity f e

  -- ---- a number is no NaN, and what is no NaN is a number
  rest : (p : ℕ) → is_number f e p ≡ true → p % top F ≤ ones F * hid F
  rest p h = elim (le_or_lt r p) [
    | inl l ↦
        let q = number_high f e p h l in
        let z : p % top F ≡ p - top F = mod-eq-sub-mod (omega (arith, sign_is F)) ∙ mod-eq_of_lt (omega (arith, sign_is F, infinity_lt_sign f e)) in
        omega (arith, sign_is F, infinity_is F)
    | inr l ↦
        let z : p % top F ≡ p = mod-eq_of_lt (omega (arith, sign_is F)) in
        omega (arith, infinity_is F, number_low f e p h l)
  ]

  pub number_bits : (p : ℕ) → is_number f e p ≡ true → T (not (nan_bits F p))
  number_bits p h = rw (nan_bits_above F p) (le→nltb (ones F * hid F) (p % top F) (rest p h))

  number_value : (p : ℕ) → is_number f e p ≡ true → T (not (is_nan (of_bits F p)))
  number_value p h = subst (λ (b : Bool). T (not b)) (nan_bits_is F p) (number_bits p h)

  bits_number : (p : ℕ) → p < 2 * top F → T (not (nan_bits F p)) → is_number f e p ≡ true
  bits_number p w h =
      let g : p % top F ≤ ones F * hid F = nltb→le (ones F * hid F) (p % top F) (subst (λ (b : Bool). T (not b)) (nan_bits_above F p) h) in
      elim (le_or_lt r p) [
        | inl l ↦
            let z : p % top F ≡ p - top F = mod-eq-sub-mod (omega (arith, sign_is F)) ∙ mod-eq_of_lt (omega (arith, sign_is F)) in
            high_number f e p l (omega (arith, sign_is F, infinity_is F))
        | inr l ↦
            let z : p % top F ≡ p = mod-eq_of_lt (omega (arith, sign_is F)) in
            low_number f e p l (omega (arith, infinity_is F))
      ]

  -- ---- finite, or one of the two infinities
  data Kind (p : ℕ) : Type 0 where
    finite : is_finite f e p ≡ true → Kind p
    infinite : (b : Bool) → of_bits F p ≡ inf b → ordinal f e p ≡ signed F b cap → Kind p

  infinite_at : (b : Bool) (p : ℕ) → p ≡ signed_bits F b cap → Kind p
  infinite_at b p h =
      infinite b
      (ap (of_bits F) (h ∙ ap (signed_bits F b) (infinity_is F) ∙ sym (bits_inf F b)) ∙ of_bits-to_bits F (inf b) (inf-fits F b))
      (ap (ordinal f e) h ∙ ordinal_bits F b cap (omega arith))

  kind : (p : ℕ) → is_number f e p ≡ true → Kind p
  kind p h = elim (le_or_lt r p) [
    | inl l ↦ elim (le_or_lt cap (p - r)) [
      | inl g ↦ infinite_at true p (omega (arith, sign_is F, number_high f e p h l))
      | inr g ↦ finite (high_finite f e p l g)
    ]
    | inr l ↦ elim (le_or_lt cap p) [
      | inl g ↦ infinite_at false p (omega (arith, number_low f e p h l))
      | inr g ↦ finite (low_finite f e p l g)
    ]
  ]

  -- a finite pattern's value, whatever it is
  record Value (p : ℕ) : Type 0 where
    b : Bool
    n : ℕ
    has : HasValue (of_bits F p) b n (2 ^ low F)

  finite_value : (p : ℕ) → is_finite f e p ≡ true → Value p
  finite_value p h =
      let i = read_pattern F p h in
      record { b = i.b; n = magnitude f i.m; has = subst (λ (q : ℕ). HasValue (of_bits F q) i.b (magnitude f i.m) (2 ^ low F)) (sym i.is) (value_of F i.b i.m i.low) }

  -- ---- the order: an infinity's ordinal lies beyond all finite ones
  infinity_lt : (b : Bool) (n : ℕ) → Finite f e n → ltb (signed F b cap) n ≡ b
  infinity_lt true n h = lt-ltb (r - cap) n (omega (arith, h.low, infinity_lt_sign f e))
  infinity_lt false n h = le-ltb (r + cap) n (omega (arith, h.high))

  lt_infinity : (b : Bool) (n : ℕ) → Finite f e n → ltb n (signed F b cap) ≡ not b
  lt_infinity true n h = le-ltb n (r - cap) (omega (arith, h.low, infinity_lt_sign f e))
  lt_infinity false n h = lt-ltb n (r + cap) (omega (arith, h.high))

  infinities_lt : (b c : Bool) → 0 < cap → ltb (signed F b cap) (signed F c cap) ≡ (b && not c)
  infinities_lt true true h = le-ltb (r - cap) (r - cap) (omega arith)
  infinities_lt true false h = lt-ltb (r - cap) (r + cap) (omega arith)
  infinities_lt false true h = le-ltb (r + cap) (r - cap) (omega arith)
  infinities_lt false false h = le-ltb (r + cap) (r + cap) (omega arith)

  some : 0 < cap
  some = omega (arith, infinity_is F, pow_pos f)

  pub number_lt : (x y : ℕ) → is_number f e x ≡ true → is_number f e y ≡ true → lt (of_bits F x) (of_bits F y) ≡ ltb (ordinal f e x) (ordinal f e y)
  number_lt x y X Y = go (kind x X) (kind y Y)
    where
      go : Kind x → Kind y → lt (of_bits F x) (of_bits F y) ≡ ltb (ordinal f e x) (ordinal f e y)
      go (finite A) (finite B) = lt_order F x y A B
      go (finite A) (infinite c j q) =
          let v = finite_value x A in
          ap (lt (of_bits F x)) j ∙ lt_inf c (of_bits F x) v.b v.n (2 ^ low F) v.has
          ∙ sym (ap (ltb (ordinal f e x)) q ∙ lt_infinity c (ordinal f e x) (ordinal_finite f e x A))
      go (infinite b i p) (finite B) =
          let v = finite_value y B in
          ap (λ (z : Float). lt z (of_bits F y)) i ∙ inf_lt b (of_bits F y) v.b v.n (2 ^ low F) v.has
          ∙ sym (ap (λ (n : ℕ). ltb n (ordinal f e y)) p ∙ infinity_lt b (ordinal f e y) (ordinal_finite f e y B))
      go (infinite b i p) (infinite c j q) = ap₂ lt i j ∙ lt_infs b c ∙ sym (ap₂ ltb p q ∙ infinities_lt b c some)

  number_eq : (x y : ℕ) → is_number f e x ≡ true → is_number f e y ≡ true → eq (of_bits F x) (of_bits F y) ≡ eqb (ordinal f e x) (ordinal f e y)
  number_eq x y X Y =
      eq_neither (of_bits F x) (of_bits F y) (number_value x X) (number_value y Y)
      ∙ ap₂ neither (number_lt x y X Y) (number_lt y x Y X)
      ∙ sym (eqb_neither (ordinal f e x) (ordinal f e y))

  pub number_le : (x y : ℕ) → is_number f e x ≡ true → is_number f e y ≡ true → le (of_bits F x) (of_bits F y) ≡ leb (ordinal f e x) (ordinal f e y)
  unfolding le
  number_le x y X Y = ap₂ ◌||◌ (number_lt x y X Y) (number_eq x y X Y) ∙ sym (leb_or (ordinal f e x) (ordinal f e y))

  -- ---- the sum
  pub number_add : (x a : ℕ) → is_number f e x ≡ true → is_finite f e a ≡ true → T (not (is_nan (add F (of_bits F x) (of_bits F a))))
  number_add x a X A = go (kind x X)
    where
      go : Kind x → T (not (is_nan (add F (of_bits F x) (of_bits F a))))
      go (finite B) = sum_number_lem F x a B A
      go (infinite b i p) =
          let v = finite_value a A in
          subst (λ (z : Float). T (not (is_nan z))) (sym (ap (λ (z : Float). add F z (of_bits F a)) i ∙ inf_add F b (of_bits F a) v.b v.n (2 ^ low F) v.has)) (inf_number b)

  pub number_sum : (x a : ℕ) → is_number f e x ≡ true → is_finite f e a ≡ true → is_number f e (to_bits F (add F (of_bits F x) (of_bits F a))) ≡ true
  number_sum x a X A =
      let z = add F (of_bits F x) (of_bits F a) in
      let w = add-fits F (of_bits F x) (of_bits F a) in
      bits_number (to_bits F z) (to_bits-lt F z w) (subst (λ (b : Bool). T (not b)) (sym (nan_bits_is F (to_bits F z) ∙ ap is_nan (of_bits-to_bits F z w))) (number_add x a X A))
