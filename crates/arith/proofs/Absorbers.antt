-- x ⊕ a = x at a format: what the calls found is how much is absorbed, the least and the greatest x that absorb one a, and so the narrowing. Rests on `ladder`'s Absorption.
use Rattle.std.proofs.Common.{◌≡◌, ℕ, ◌+◌, ◌-◌, ◌*◌, ◌/◌, ◌%◌, ◌^◌, ◌<◌, ◌≤◌, min, max, Bool, true, false, None, Some, sym, refl, ap, ◌∙◌, subst, true≢false, mul-le-mul_right, div-mul-le_self, arith, pow_pos, pow_mono, pow-add, eq-eqb, eqb-true}
use lib.Ieee.{size}
use lib.Ieee.Digits.{size-le}
use Rattle.ladder.specs.Magnitude.{magnitude, shift, significand}
use Rattle.ladder.specs.Ordinal as O
use Rattle.ladder.specs.Solution as L
use Rattle.ladder.specs.Search.{Least, Greatest}
use Rattle.ladder.specs.Pairing as P
use Rattle.ladder.specs.Pairing.{none}
use Rattle.ladder.specs.Absorption.{step_place, Coarse}
use Rattle.ladder.proofs.Magnitude.{parts}
use Rattle.ladder.proofs.Solutions.{finite_in}
use Rattle.ladder.proofs.Pairing.{pairing_unique, pairing_none, pairing_hull}
use Rattle.ladder.proofs.Absorption.{half_step_le, power_pos, absorbs_zero, absorbs_half_step, around_absorbed, absorbed_zero, absorbed_greatest, absorbed_none, mirror_none, mirror_least, mirror_hull, around_hull, above_none, above_hull, absorbs_far, absorbs_far_below, least_bounds, greatest_bounds}
use Rattle.arith.specs.declared.format.Format.{Format}
use Rattle.arith.specs.declared.range.Range.{Range}
use Rattle.arith.specs.declared.repeated.Couple.{Couple}
use Rattle.arith.specs.Formats.{Sound, Finite, sum, mirrored}
use Rattle.arith.specs.Exacts.{Encodable}
use Rattle.arith.specs.Intervals.{Bounded, span, reflected}
use Rattle.arith.specs.Repeats.{absorbing}
use Rattle.arith.specs.PairSearches.{Filled, BothFilled, coupled, absorbs, AbsorbsTo, AbsorbedTo, Absorber, Sought, LowMisses, HighMisses}
use Rattle.arith.proofs.Formats.{infinity_lt}
use Rattle.arith.proofs.Intervals.{reflected_ends}

-- ---- how much one x absorbs: d is the place of its step, q the field of that
module _ (F : Format) (ok : Sound F) (x : ℕ) (n : Finite F x) {d q : ℕ} (at : d ≡ step_place F.fraction F.exponent x) (field : q ≡ d / 2 ^ F.fraction) where
  shift_is : shift F.fraction (step_place F.fraction F.exponent x) ≡ q - 1
  unfolding shift
  shift_is = omega (arith, field, ap (λ (m : ℕ). m / 2 ^ F.fraction) at)

  place_lt : d < F.infinity
  place_lt = omega (arith, at, n.low, n.high, ok.infinity)

  pub unit_step : q < 2 → AbsorbsTo F x F.sign
  unit_step l = subst (AbsorbsTo F x) (sym ok.sign) (absorbs_zero F.fraction F.exponent ok.some x n (shift_is ∙ omega arith))

  module _ (l : 2 ≤ q) where
    pub half_encodable : Encodable F.fraction 1 (q - 2)
    half_encodable =
        let h = div-mul-le_self d (2 ^ F.fraction) in
        let k = mul-le-mul_right {m = q - 2} {n = d / 2 ^ F.fraction} (2 ^ F.fraction) (omega arith) in
        record { fraction = (ok.some, ok.few); some = omega arith; few = omega (arith, pow_pos F.fraction); low = omega (arith, place_lt, infinity_lt F ok, ok.word) }

    -- m is the place of half the step
    module _ (m : ℕ) (half : magnitude F.fraction m ≡ 1 * 2 ^ (q - 2)) where
      shift_half : shift F.fraction (step_place F.fraction F.exponent x) ≡ q - 2 + 1
      shift_half = shift_is ∙ omega arith

      half_is : magnitude F.fraction m ≡ 2 ^ (q - 2)
      half_is = omega (arith, half)

      pub half_some : 0 < m
      half_some = power_pos F.fraction (q - 2) m half_is

      pub half_fits : m < F.infinity
      half_fits = omega (arith, half_step_le F.fraction _ (q - 2) m shift_half half_is, at, place_lt)

      pub half_step : AbsorbsTo F x (F.sign + (m - x % 2))
      half_step =
          subst (λ (s : ℕ). AbsorbsTo F x (s + (m - x % 2))) (sym ok.sign)
          (absorbs_half_step F.fraction F.exponent ok.some x n (q - 2) m shift_half half_is)

-- ---- a range with zero inside, by its parts
module _ (F : Format) (X : Range) (g : Filled F X) where
  abbrev below_part : Range
  below_part = record { low = X.low; high = F.sign - 1 }

  abbrev above_part : Range
  above_part = record { low = F.sign; high = X.high }

  pub around_absorbs : X.low < F.sign → F.sign ≤ X.high → {p q : ℕ} → AbsorbedTo F below_part p → AbsorbedTo F above_part q → AbsorbedTo F X (max p q)
  around_absorbs l h {p} {q} P Q =
      let e = F.sound.sign in
      around_absorbed F.fraction F.exponent F.sound.some (span X) g.ends g.order (omega arith) (omega arith) p q
      (subst (λ (s : ℕ). AbsorbedTo F (record { low = X.low; high = s - 1 }) p) e P)
      (subst (λ (s : ℕ). AbsorbedTo F (record { low = s; high = X.high }) q) e Q)

-- ---- the place with a coarse enough step fits a word
pub coarse_fits : (f m n : ℕ) → f ≤ 52 → n ≡ size (significand f m - 1) → (n ≤ 53) × ((n + 2) * 2 ^ f ≤ 55 * 2 ^ 52)
coarse_fits f m n l e =
    let p = parts f m in
    let k : size (significand f m - 1) ≤ f + 1 = size-le (significand f m - 1) (f + 1) (below (significand f m) p.below) in
    let b : n + 2 ≤ 55 = omega arith in
    (omega arith, omega (arith, mul-le-mul_right (2 ^ f) b, pow_mono l))
  where
    below : (q : ℕ) → q < 2 * 2 ^ f → q - 1 < 2 ^ (f + 1)
    below q h = omega (arith, pow-add 2 f 1)

-- ---- the x that absorb c, by the test
pub absorber : (F : Format) (c : ℕ) (X : Range) (x : ℕ) {r : Bool} → r ≡ absorbs F x c → r ≡ true → X.low ≤ x → x ≤ X.high → Absorber F c X x
absorber F c X x e t l h = record { inside = record { low = l; high = h }; is = eqb-true _ _ (sym e ∙ t) }

pub no_absorber : (F : Format) (c x : ℕ) {r : Bool} → r ≡ absorbs F x c → r ≡ false → sum F x c ≡ x → ⊥
no_absorber F c x e t is = true≢false (sym (eq-eqb (sum F x c) x is) ∙ sym e ∙ t)

-- else the place with a coarse enough step
module _ (F : Format) (c : ℕ) (X : Range) (g : Sought F c X) (t : ℕ) (C : Coarse F.fraction (c - F.sign) t) where
  abbrev ok : Sound F
  ok = F.sound

  abbrev f : ℕ
  f = F.fraction

  abbrev d : ℕ
  d = F.exponent

  C' : Coarse f (c - O.sign f d) t
  C' = subst (λ (s : ℕ). Coarse f (c - s) t) ok.sign C

  up : O.sign f d < c
  up = omega (arith, ok.sign, g.positive)

  pub low_bounds : LowMisses F c X → (z : ℕ) → Absorber F c X z → (X.low ≤ F.sign + t) × (F.sign + t ≤ z)
  low_bounds m z k =
      let r = least_bounds f d ok.some c t up C' (span X) g.range.ends (no_absorber F c _ refl m.end) (no_absorber F c _ refl m.next) z k in
      (omega (arith, r.0, ok.sign), omega (arith, r.1, ok.sign))

  pub high_bounds : HighMisses F c X → (z : ℕ) → Absorber F c X z → (z + (t + 1) ≤ F.sign) × (F.sign ≤ X.high + (t + 1))
  high_bounds m z k =
      let r = greatest_bounds f d ok.some c t up C' (span X) g.range.ends (no_absorber F c _ refl m.end) (no_absorber F c _ refl m.next) z k in
      (omega (arith, r.0, ok.sign), omega (arith, r.1, ok.sign))

  pub far_absorber : t < F.infinity → X.low ≤ F.sign + t → F.sign + t ≤ X.high → Absorber F c X (F.sign + t)
  far_absorber l lo hi = record {
    inside = record { low = lo; high = hi };
    is = subst (λ (s : ℕ). sum F (s + t) c ≡ s + t) (sym ok.sign) (absorbs_far f d ok.some c t up C' (omega (arith, ok.infinity)));
  }

  pub far_absorber_below : (y : ℕ) → y + (t + 2) ≡ F.sign → X.low ≤ y → y ≤ X.high → Absorber F c X y
  far_absorber_below y e lo hi =
      let i : L.In (span X) y = record { low = lo; high = hi } in
      let eq : y ≡ O.sign f d - (t + 2) = omega (arith, ok.sign) in
      record {
        inside = i;
        is = subst (λ (v : ℕ). sum F v c ≡ v) (sym eq) (absorbs_far_below f d ok.some c t up C' (omega (arith, ok.sign)) (subst (Finite F) eq (finite_in f d (span X) g.range.ends y i)));
      }

-- ---- the narrowing
module _ (F : Format) (X A : Range) (g : BothFilled F X A) where
  abbrev sound : Sound F
  sound = F.sound

  abbrev test : ℕ → ℕ → Bool
  test = P.absorbs F.fraction F.exponent

  abbrev nx : Bounded F X
  nx = g.first.ends

  abbrev na : Bounded F A
  na = g.second.ends

  is_none : ((x a : ℕ) → P.Pair test (span X) (span A) x a → ⊥) → coupled None ≡ absorbing F X A
  is_none = pairing_unique test (span X) (span A) none

  -- no a is small enough
  pub too_large : (r : ℕ) → AbsorbedTo F X r → F.sign < A.low → r < A.low → coupled None ≡ absorbing F X A
  too_large r R l k =
      is_none (absorbed_none F.fraction F.exponent sound.some (span X) nx g.first.order (span A) r R (omega (arith, sound.sign)) k)

  -- no x absorbs the least a
  pub absorber_none : F.sign < A.low → ((z : ℕ) → Absorber F A.low X z → ⊥) → coupled None ≡ absorbing F X A
  absorber_none l N =
      is_none (above_none F.fraction F.exponent sound.some (span X) (span A) nx (omega (arith, sound.sign)) g.second.order N)

  greatest : (r : ℕ) → AbsorbedTo F X r → F.sign ≤ A.high → A.low ≤ r → Greatest (P.HasSecond test (span X) (span A)) (min A.high r)
  greatest r R l k = absorbed_greatest F.fraction F.exponent sound.some (span X) nx g.first.order (span A) r R (omega (arith, sound.sign)) g.second.order k

  pub above_ends :
      F.sign < A.low → (l u r : ℕ) → Least (Absorber F A.low X) l → Greatest (Absorber F A.low X) u → AbsorbedTo F X r → A.low ≤ r →
      coupled (Some (record { p = record { low = l; high = u }; q = record { low = A.low; high = min A.high r } })) ≡ absorbing F X A
  above_ends p l u r L U R k =
      pairing_unique test (span X) (span A) _
      (above_hull F.fraction F.exponent sound.some (span X) (span A) nx (omega (arith, sound.sign)) g.second.order l u (min A.high r) L U
      (greatest r R (omega (arith, g.second.order)) k))

  -- ---- in the mirror
  pub mirror_filled : BothFilled F (reflected F X) (reflected F A)
  mirror_filled = record {
    first = record { ends = reflected_ends F X _ refl nx; order = omega (arith, g.first.order) };
    second = record { ends = reflected_ends F A _ refl na; order = omega (arith, g.second.order) };
  }

  pub mirrored_none : coupled None ≡ absorbing F (reflected F X) (reflected F A) → coupled None ≡ absorbing F X A
  mirrored_none e = is_none (mirror_none F.fraction F.exponent sound.some (span X) (span A) nx na (pairing_none test _ _ (sym e)))

  pub mirrored_ends_lem : (c : Couple) → coupled (Some c) ≡ absorbing F (reflected F X) (reflected F A) → coupled (Some (record { p = reflected F c.p; q = reflected F c.q })) ≡ absorbing F X A
  mirrored_ends_lem c e =
      pairing_unique test (span X) (span A) _
      (mirror_hull F.fraction F.exponent sound.some (span X) (span A) nx na (span c.p) (span c.q) (pairing_hull test _ _ (span c.p) (span c.q) (sym e)))

-- zero inside A: r is what is absorbed, m what is absorbed in the mirror
pub around_ends :
    (F : Format) (X A : Range) → BothFilled F X A → A.low ≤ F.sign → F.sign ≤ A.high → (r m : ℕ) → AbsorbedTo F X r → AbsorbedTo F (reflected F X) m →
    coupled (Some (record { p = X; q = record { low = mirrored F (min (reflected F A).high m); high = min A.high r } })) ≡ absorbing F X A
around_ends F X A g dn up r m R M =
    let f = F.fraction in
    let d = F.exponent in
    let ok = F.sound in
    let some = ok.some in
    let n = mirror_filled F X A g in
    let z = absorbed_zero f d some (span X) g.first.ends g.first.order r R in
    let y = absorbed_zero f d some (span (reflected F X)) n.first.ends n.first.order m M in
    pairing_unique (P.absorbs f d) (span X) (span A) _
    (around_hull f d some (span X) (span A) g.first.ends g.first.order (omega (arith, ok.sign)) (omega (arith, ok.sign)) _ _
    (mirror_least f d some (span X) (span A) g.first.ends g.second.ends _ (greatest F (reflected F X) (reflected F A) n m M (omega (arith, ok.sign)) (omega (arith, ok.sign, y))))
    (greatest F X A g r R up (omega (arith, ok.sign, z))))

-- the ends found there are finite
pub around_finite : (F : Format) (X A : Range) → BothFilled F X A → A.low ≤ F.sign → (m : ℕ) → AbsorbedTo F (reflected F X) m → Finite F (min (reflected F A).high m)
around_finite F X A g dn m M =
    let ok = F.sound in
    let n = mirror_filled F X A g in
    let y = absorbed_zero F.fraction F.exponent ok.some (span (reflected F X)) n.first.ends n.first.order m M in
    record { low = omega (arith, y, ok.sign, g.second.ends.low.low); high = omega (arith, n.second.ends.high.high) }
