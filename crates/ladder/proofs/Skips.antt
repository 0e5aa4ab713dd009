-- No turn of the walk that skips B is followed by another that does; Walk concludes that two turns are enough. A turn that goes too far skips B: one number's sum falls short, the next one's is past B. Below zero the clamp excludes that, since the step divides a value of B;
-- above zero the smaller of the two operands skips nothing, since its step divides the other and every larger value. So of two turns at most one skips B; that x, going up in the second, does not become the larger operand is monotonicity. Also on which side of an ordinal a sum lies, in exact values. Assumes nothing.
use mathlib.Core.Path.{◌≡◌, sym, ap, ◌∙◌, subst}
use mathlib.Core.Logic.{inl, inr}
use Prim.Native.Nat.{ℕ, ◌+◌, ◌-◌, ◌*◌, ◌/◌, ◌^◌, ◌≤◌, ◌<◌, ◌∣◌}
use native.Mathlib.Nat.{le_refl, le_of_dvd, dvd-sub, dvd-add, dvd_trans, div-lt_iff_lt-mul}
use native.Mathlib.Omega.{arith}
use lib.Pow.{pow_pos}
use Rattle.ladder.specs.Magnitude.{magnitude, shift, significand}
use Rattle.ladder.specs.Ordinal.{sign, infinity, above, below, mirrored}
use Rattle.ladder.specs.Sum.{rounded, gains, losses, sum}
use Rattle.ladder.specs.Solution.{Interval, Bounded}
use Rattle.ladder.specs.Search.{reflection, SomeMultiple, Skips, Fine, zero_in, positive, negative}
use Rattle.ladder.proofs.Cases.{le_or_lt}
use Rattle.ladder.proofs.Magnitude.{magnitude_parts, magnitude_suc, lt_of_magnitude, shift_le}
use Rattle.ladder.proofs.Multiples.{pow_dvd, times_dvd}
use Rattle.ladder.proofs.Ordinals.{infinity_lt_sign, above_none, below_none, order}
use Rattle.ladder.proofs.Solutions.{mirror_bounded}
use Rattle.ladder.proofs.Sum.{rounded_mono, rounded_value, above_mirror, below_mirror, sum_mono, sum_mirror, sum_range}

-- ---- multiples
-- the next multiple of g is g further on
pub apart : (g u v : ℕ) → g ∣ u → g ∣ v → u < v → u + g ≤ v
apart g u v d c l =
    let t = le_of_dvd (omega arith) (dvd-sub g c d) in
    omega arith

-- none lies between
between : (g u v : ℕ) → g ∣ u → g ∣ v → u < v → v < u + g → ⊥
between g u v d c l h = omega (arith, apart g u v d c l)

-- the step after m divides every value from m on
pub step_dvd : (f m m' : ℕ) → m ≤ m' → 2 ^ shift f m ∣ magnitude f m'
step_dvd f m m' h = rw (magnitude_parts f m') (times_dvd (shift f m) (shift f m') (significand f m') (shift_le f m' m h))

small : (f k m : ℕ) → m < (k + 1) * 2 ^ f → shift f m ≤ k - 1
unfolding shift
small f k m h = let q : m / 2 ^ f < k + 1 = (div-lt_iff_lt-mul (pow_pos f)).1 h in omega arith

module _ (f e : ℕ) (some : 1 ≤ f) where
  abbrev s : ℕ
  s = sign f e

  -- ---- a sum on one side of an ordinal, in exact values
  pub rounded_shift : (p n t : ℕ) → rounded f e (p + t) (n + t) ≡ rounded f e p n
  unfolding rounded
  rounded_shift p n t =
      let u : (p + t) - (n + t) ≡ p - n = omega arith in
      let v : (n + t) - (p + t) ≡ n - p = omega arith in
      rw (u, v)

  -- what lies at or above the value of b rounds to b or above
  reaches : (p n b : ℕ) → s ≤ b + infinity f e → b ≤ s + infinity f e → above f e b + n ≤ p + below f e b → b ≤ rounded f e p n
  reaches p n b l h v =
      let at = rounded_value f e some (above f e b + n) (below f e b + n) b l h (omega arith) in
      let c = rounded_mono f e some (above f e b + n) (below f e b + n) (p + below f e b) (n + below f e b) v (omega arith) in
      omega (arith, rounded_shift p n (below f e b))

  stays : (p n b : ℕ) → s ≤ b + infinity f e → b ≤ s + infinity f e → p + below f e b ≤ above f e b + n → rounded f e p n ≤ b
  stays p n b l h v =
      let at = rounded_value f e some (above f e b + n) (below f e b + n) b l h (omega arith) in
      let c = rounded_mono f e some (p + below f e b) (n + below f e b) (above f e b + n) (below f e b + n) v (omega arith) in
      omega (arith, rounded_shift p n (below f e b))

  pub short_value : (x a b : ℕ) → s ≤ b + infinity f e → b ≤ s + infinity f e → sum f e x a < b → gains f e x a + below f e b < above f e b + losses f e x a
  unfolding sum
  short_value x a b l h v = elim (le_or_lt (above f e b + losses f e x a) (gains f e x a + below f e b)) [
    | inl g ↦ absurd (omega (arith, reaches (gains f e x a) (losses f e x a) b l h g))
    | inr g ↦ g
  ]

  pub past_value : (x a b : ℕ) → s ≤ b + infinity f e → b ≤ s + infinity f e → b < sum f e x a → above f e b + losses f e x a < gains f e x a + below f e b
  unfolding sum
  past_value x a b l h v = elim (le_or_lt (gains f e x a + below f e b) (above f e b + losses f e x a)) [
    | inl g ↦ absurd (omega (arith, stays (gains f e x a) (losses f e x a) b l h g))
    | inr g ↦ g
  ]

  -- ---- above zero: the step after y divides z, which is no smaller, and b, which is larger
  module _ (B : Interval) (n : Bounded f e B) (some-b : B.low ≤ B.high) where
    pub skips_none : (z y : ℕ) → s ≤ y → y ≤ z → Skips f e B z y → ⊥
    skips_none z y l h k =
        let b = B.low in
        let g = 2 ^ shift f (y - s) in
        let i = n.low in
        let u = short_value z y b (omega arith) (omega arith) k.short in
        let v = past_value z (y + 1) b (omega arith) (omega arith) (omega (arith, k.past)) in
        let yz = below_none f e y l in
        let y1 = below_none f e (y + 1) (omega arith) in
        let zz = below_none f e z (omega arith) in
        let next : above f e (y + 1) ≡ above f e y + g = ap (magnitude f) (omega arith) ∙ magnitude_suc f (y - s) in
        elim (le_or_lt b s) [
          | inl o ↦ omega (arith, above_none f e b o)
          | inr o ↦
              let bz = below_none f e b (omega arith) in
              let m : y - s < b - s = lt_of_magnitude f (y - s) (b - s) (omega arith) in
              between g (above f e z + above f e y) (above f e b) (dvd-add g (step_dvd f (y - s) (z - s) (omega arith)) (step_dvd f (y - s) (y - s) (le_refl (y - s)))) (step_dvd f (y - s) (b - s) (omega arith)) (omega arith) (omega arith)
        ]

    -- ---- below zero: the step after y divides z, which is larger in size, and by the clamp a value of B
    module _ (k : ℕ) (up : s < B.low) (t : SomeMultiple f (k - 1) (B.low - s) (B.high - s)) where
      skips_below : (z y : ℕ) → y < s → s < y + (k + 1) * 2 ^ f → Skips f e B z y → ⊥
      skips_below z y l c w =
          let b = s + t.m in
          let j = s - y - 1 in
          let g = 2 ^ shift f j in
          let tl = t.low in
          let th = t.high in
          let i = n.low in
          let i' = n.high in
          let u = short_value z y b (omega arith) (omega arith) (omega (arith, w.short)) in
          let v = past_value z (y + 1) b (omega arith) (omega arith) (omega (arith, w.past)) in
          let y0 = above_none f e y (omega arith) in
          let y1 = above_none f e (y + 1) (omega arith) in
          let bz = below_none f e b (omega arith) in
          let bm : above f e b ≡ magnitude f t.m = ap (magnitude f) (omega arith) in
          let here : below f e (y + 1) ≡ magnitude f j = ap (magnitude f) (omega arith) in
          let next : below f e y ≡ magnitude f j + g = ap (magnitude f) (omega arith) ∙ magnitude_suc f j in
          elim (le_or_lt z s) [
            | inl o ↦ omega (arith, above_none f e z o)
            | inr o ↦
                let zz = below_none f e z (omega arith) in
                let m : j < z - s = lt_of_magnitude f j (z - s) (omega arith) in
                let d : g ∣ magnitude f t.m = dvd_trans g (pow_dvd (shift f j) (k - 1) (small f k j (omega arith))) t.divides in
                between g (magnitude f t.m + magnitude f j) (above f e z) (dvd-add g d (step_dvd f j j (le_refl j))) (step_dvd f j (z - s) (omega arith)) (omega arith) (omega arith)
          ]

      above_zero : (z y : ℕ) → s < y + (k + 1) * 2 ^ f → Skips f e B z y → s ≤ y
      above_zero z y c w = elim (le_or_lt s y) [ inl o ↦ o | inr o ↦ absurd (skips_below z y o c w) ]

      -- up, then down
      positive_up : (y q c : ℕ) → c < q → s < y + (k + 1) * 2 ^ f → s < c + (k + 1) * 2 ^ f → Skips f e B q y → Skips f e B (y + 1) c → ⊥
      positive_up y q c l i j v w =
          let sy = above_zero q y i v in
          let sc = above_zero (y + 1) c j w in
          elim (le_or_lt c (y + 1)) [
            | inl o ↦ skips_none (y + 1) c sc o w
            | inr o ↦ skips_none q y sy (omega arith) v
          ]

      -- down, then up
      positive_down : (p c y : ℕ) → p ≤ y → s < y + (k + 1) * 2 ^ f → s < c + (k + 1) * 2 ^ f → Skips f e B p c → Skips f e B c y → ⊥
      positive_down p c y l i j v w =
          let sy = above_zero c y i w in
          let sc = above_zero p c j v in
          elim (le_or_lt y c) [
            | inl o ↦ skips_none c y sy o w
            | inr o ↦ elim (le_or_lt c p) [
              | inl r ↦ skips_none p c sc r v
              | inr r ↦ omega (arith, sum_mono f e some p c (c + 1) y (omega arith) (omega arith), v.past, w.short)
            ]
          ]

  -- ---- zero inside B: no number lies between two neighbours
  pub zero_in_none : (B : Interval) → B.low ≤ s → s ≤ B.high → (z y : ℕ) → z ≤ 2 * s → Skips f e B z y → ⊥
  zero_in_none B l h z y r w =
      let o = above_none f e s (le_refl s) in
      let o' = below_none f e s (le_refl s) in
      let u = short_value z y s (omega arith) (omega arith) (omega (arith, w.short)) in
      let v = past_value z (y + 1) s (omega arith) (omega arith) (omega (arith, w.past)) in
      let a = above_mirror f e some z in
      let b = below_mirror f e some z r in
      let i = (order f e y (mirrored f e z)).1 (omega arith) in
      let j = (order f e (mirrored f e z) (y + 1)).1 (omega arith) in
      omega arith

  -- ---- mirrored
  -- what does not lie above a bounded interval has a mirror image
  under_twice : (I : Interval) → Bounded f e I → (y : ℕ) → y ≤ I.high → y ≤ 2 * s
  under_twice I n y h = omega (arith, n.high.high, infinity_lt_sign f e)

  module _ (B : Interval) (n : Bounded f e B) where
    pub mirror_skips : (z y : ℕ) → z ≤ 2 * s → y + 1 ≤ 2 * s → Skips f e B z y → Skips f e (reflection f e B) (mirrored f e z) (mirrored f e (y + 1))
    mirror_skips z y h l w =
        let c = infinity_lt_sign f e in
        let at : mirrored f e (y + 1) + 1 ≡ mirrored f e y = omega arith in
        record {
          short = omega (arith, sum_mirror f e some z (y + 1) h l, w.past, (sum_range f e some z (y + 1)).1);
          past = omega (arith, ap (sum f e (mirrored f e z)) at, sum_mirror f e some z y h (omega arith), w.short, n.low.high);
        }

    mirror_multiple : (k : ℕ) → SomeMultiple f k (s - B.high) (s - B.low) → SomeMultiple f k ((reflection f e B).low - s) ((reflection f e B).high - s)
    mirror_multiple k t = record { m = t.m; low = omega (arith, t.low); high = omega (arith, t.high); divides = t.divides }

  -- ---- no turn that skips B is followed by another
  module _ (X A B : Interval) (nx : Bounded f e X) (na : Bounded f e A) (nb : Bounded f e B) where
    -- up past B with q, then down short of it
    pub once_up : Fine f e X A B → (y q c : ℕ) → X.low ≤ y → y + 1 ≤ X.high → A.low ≤ c → c < q → q ≤ A.high → Skips f e B q y → Skips f e B (y + 1) c → ⊥
    once_up (zero_in l h) y q c i i' j o j' v w = zero_in_none B l h q y (under_twice A na q j') v
    once_up (positive k u t x a) y q c i i' j o j' v w = positive_up B nb (omega (arith, t.low, t.high)) k u t y q c o (omega arith) (omega arith) v w
    once_up (negative k u t x a) y q c i i' j o j' v w =
        let b = under_twice X nx (y + 1) i' in
        let d = under_twice A na q j' in
        let v' = mirror_skips B nb q y d b v in
        let w' = mirror_skips B nb (y + 1) c b (omega arith) w in
        positive_down (reflection f e B) (mirror_bounded f e B nb) (omega (arith, t.low, t.high)) k (omega arith) (mirror_multiple B nb (k - 1) t) (mirrored f e q) (mirrored f e (y + 1)) (mirrored f e (c + 1)) (omega arith) (omega arith) (omega arith) v' w'

    -- down short of B with p, then up past it
    pub once_down : Fine f e X A B → (p c y : ℕ) → X.low ≤ p → p ≤ y → y + 1 ≤ X.high → A.low ≤ c → c + 1 ≤ A.high → Skips f e B p c → Skips f e B c y → ⊥
    once_down (zero_in l h) p c y i o i' j j' v w = zero_in_none B l h p c (under_twice X nx p (omega arith)) v
    once_down (positive k u t x a) p c y i o i' j j' v w = positive_down B nb (omega (arith, t.low, t.high)) k u t p c y o (omega arith) (omega arith) v w
    once_down (negative k u t x a) p c y i o i' j j' v w =
        let b = under_twice X nx (y + 1) i' in
        let d = under_twice A na (c + 1) j' in
        let v' = mirror_skips B nb p c (omega arith) d v in
        let w' = mirror_skips B nb c y (omega arith) b w in
        let at : mirrored f e (c + 1) + 1 ≡ mirrored f e c = omega arith in
        positive_up (reflection f e B) (mirror_bounded f e B nb) (omega (arith, t.low, t.high)) k (omega arith) (mirror_multiple B nb (k - 1) t) (mirrored f e (c + 1)) (mirrored f e p) (mirrored f e (y + 1)) (omega arith) (omega arith) (omega arith) v' (subst (λ (z : ℕ). Skips f e (reflection f e B) z (mirrored f e (y + 1))) (sym at) w')
