-- The least sum that is not below b, where b itself is no sum: from any pair of operands one goes down, one step in x or in a at a time, as long as the sum does not fall below b. That ends at a low end, or where each next step
-- skips b. Then the operands have opposite signs, and the exact sum is the least multiple above b of the smaller one's step; so the smallest such operand is the best. Hence a few pairs decide. Assumes nothing.
use mathlib.Core.Path.{◌≡◌, sym, ap, ◌∙◌, subst}
use mathlib.Core.Logic.{inl, inr}
use Prim.Native.Nat.{ℕ, zero, suc, ◌+◌, ◌-◌, ◌^◌, ◌≤◌, ◌<◌, ◌∣◌}
use native.Mathlib.Nat.{le_refl, le_trans, dvd-add}
use native.Mathlib.Omega.{arith}
use Rattle.ladder.specs.Magnitude.{magnitude, shift}
use Rattle.ladder.specs.Ordinal.{sign, above, below, mirrored, Finite}
use Rattle.ladder.specs.Sum.{gains, losses, sum}
use Rattle.ladder.specs.Solution.{Interval, In, Bounded}
use Rattle.ladder.specs.Narrowing.{HasB}
use Rattle.ladder.specs.Search.{Least, Attains, AtMost, none, least, reflection, Skips}
use Rattle.ladder.proofs.Cases.{le_or_lt, trichotomy}
use Rattle.ladder.proofs.Magnitude.{magnitude_suc, lt_of_magnitude, shift_le}
use Rattle.ladder.proofs.Multiples.{pow_dvd}
use Rattle.ladder.proofs.Ordinals.{infinity_lt_sign, above_none, below_none}
use Rattle.ladder.proofs.Solutions.{finite_in, mirror_bounded}
use Rattle.ladder.proofs.Sum.{rounded_mono, rounded_value, sum_comm, sum_mono}
use Rattle.ladder.proofs.Neighbours.{short_below, skips_to, skips_before}
use Rattle.ladder.proofs.Skips.{apart, step_dvd, rounded_shift, short_value, past_value, skips_none, zero_in_none, mirror_skips}

module _ (f e : ℕ) (some : 1 ≤ f) where
  abbrev s : ℕ
  s = sign f e

  -- a smaller exact sum rounds to no more
  value_mono : (x a y c : ℕ) → gains f e x a + losses f e y c ≤ gains f e y c + losses f e x a → sum f e x a ≤ sum f e y c
  unfolding sum
  value_mono x a y c h =
      let P = gains f e x a in
      let N = losses f e x a in
      let Q = gains f e y c in
      let M = losses f e y c in
      let m = rounded_mono f e some (P + M) (N + M) (Q + N) (M + N) h (omega arith) in
      omega (arith, rounded_shift f e some P N M, rounded_shift f e some Q M N)

  -- zero adds nothing
  sum_zero : (r : ℕ) → Finite f e r → sum f e s r ≡ r
  unfolding sum
  sum_zero r n = rounded_value f e some (gains f e s r) (losses f e s r) r (omega arith) (omega arith) (omega (arith, above_none f e s (le_refl s), below_none f e s (le_refl s)))

  module _ (b : ℕ) (n : Finite f e b) where
    abbrev B : Interval
    B = record { low = b; high = b }

    -- ---- two steps below zero that skip b: the one nearer to zero ends at the lesser sum
    below_steps : s < b → (p q a c : ℕ) → p ≤ q → q < s → Skips f e B a p → Skips f e B c q → sum f e c (q + 1) ≤ sum f e a (p + 1)
    below_steps up p q a c l h v w =
        let i = s - p - 1 in
        let j = s - q - 1 in
        let g = 2 ^ shift f j in
        let bz = below_none f e b (omega arith) in
        let v1 = short_value f e some a p b (omega arith) (omega arith) v.short in
        let v2 = past_value f e some a (p + 1) b (omega arith) (omega arith) v.past in
        let w1 = short_value f e some c q b (omega arith) (omega arith) w.short in
        let w2 = past_value f e some c (q + 1) b (omega arith) (omega arith) w.past in
        let p0 = above_none f e p (omega arith) in
        let p1 = above_none f e (p + 1) (omega arith) in
        let q0 = above_none f e q (omega arith) in
        let q1 = above_none f e (q + 1) (omega arith) in
        let pi : below f e (p + 1) ≡ magnitude f i = ap (magnitude f) (omega arith) in
        let qj : below f e (q + 1) ≡ magnitude f j = ap (magnitude f) (omega arith) in
        let qn : below f e q ≡ magnitude f j + g = ap (magnitude f) (omega arith) ∙ magnitude_suc f j in
        let positive : (d t : ℕ) → above f e b + (below f e d + t) < above f e d + 0 + 0 → s < d = λ d t o. elim (le_or_lt d s) [ inl z ↦ absurd (omega (arith, above_none f e d z)) | inr z ↦ z ] in
        let sa = positive a (magnitude f i) (omega arith) in
        let sc = positive c (magnitude f j) (omega arith) in
        let az = below_none f e a (omega arith) in
        let cz = below_none f e c (omega arith) in
        let ma : i < a - s = lt_of_magnitude f i (a - s) (omega arith) in
        let mc : j < c - s = lt_of_magnitude f j (c - s) (omega arith) in
        let d1 = dvd-add g (step_dvd f j (a - s) (omega arith)) (step_dvd f j j (le_refl j)) in
        let d2 = dvd-add g (step_dvd f j (c - s) (omega arith)) (step_dvd f j i (omega arith)) in
        value_mono c (q + 1) a (p + 1)
        (elim (le_or_lt (above f e c + magnitude f i) (above f e a + magnitude f j)) [
          | inl z ↦ omega arith
          | inr z ↦ absurd (omega (arith, apart g (above f e a + magnitude f j) (above f e c + magnitude f i) d1 d2 z))
        ])

    -- ---- and two above zero, for b below zero
    above_steps : b < s → (p q a c : ℕ) → q ≤ p → s ≤ q → Skips f e B a p → Skips f e B c q → sum f e c (q + 1) ≤ sum f e a (p + 1)
    above_steps down p q a c l h v w =
        let i = p - s in
        let j = q - s in
        let g = 2 ^ shift f j in
        let G = 2 ^ shift f i in
        let bz = above_none f e b (omega arith) in
        let v1 = short_value f e some a p b (omega arith) (omega arith) v.short in
        let v2 = past_value f e some a (p + 1) b (omega arith) (omega arith) v.past in
        let w1 = short_value f e some c q b (omega arith) (omega arith) w.short in
        let w2 = past_value f e some c (q + 1) b (omega arith) (omega arith) w.past in
        let p0 = below_none f e p (omega arith) in
        let p1 = below_none f e (p + 1) (omega arith) in
        let q0 = below_none f e q (omega arith) in
        let q1 = below_none f e (q + 1) (omega arith) in
        let pn : above f e (p + 1) ≡ magnitude f i + G = ap (magnitude f) (omega arith) ∙ magnitude_suc f i in
        let qn : above f e (q + 1) ≡ magnitude f j + g = ap (magnitude f) (omega arith) ∙ magnitude_suc f j in
        let negative : (d t : ℕ) → above f e d + t + below f e b < 0 + below f e d + 0 → d < s = λ d t o. elim (le_or_lt s d) [ inl z ↦ absurd (omega (arith, below_none f e d z)) | inr z ↦ z ] in
        let sa = negative a (magnitude f i) (omega arith) in
        let sc = negative c (magnitude f j) (omega arith) in
        let az = above_none f e a (omega arith) in
        let cz = above_none f e c (omega arith) in
        let ma : i < s - a = lt_of_magnitude f i (s - a) (omega arith) in
        let mc : j < s - c = lt_of_magnitude f j (s - c) (omega arith) in
        let dG : g ∣ G = pow_dvd (shift f j) (shift f i) (shift_le f i j (omega arith)) in
        let d1 = dvd-add g (dvd-add g (step_dvd f j i (omega arith)) dG) (step_dvd f j (s - c) (omega arith)) in
        let d2 = dvd-add g (dvd-add g (step_dvd f j j (le_refl j)) (pow_dvd (shift f j) (shift f j) (le_refl (shift f j)))) (step_dvd f j (s - a) (omega arith)) in
        value_mono c (q + 1) a (p + 1)
        (elim (le_or_lt (magnitude f j + g + below f e a) (magnitude f i + G + below f e c)) [
          | inl z ↦ omega arith
          | inr z ↦ absurd (omega (arith, apart g (magnitude f i + G + below f e c) (magnitude f j + g + below f e a) d1 d2 z))
        ])

    -- ---- the pairs that decide
    module _ (X A : Interval) (nx : Bounded f e X) (na : Bounded f e A) (no-sum : (x a : ℕ) → In X x → In A a → sum f e x a ≡ b → ⊥) where
      -- what reaches b is past it
      past : (x a : ℕ) → In X x → In A a → b ≤ sum f e x a → b < sum f e x a
      past x a i j h = elim (trichotomy b (sum f e x a)) [
        | inl l ↦ l
        | inr r ↦ elim r [ inl z ↦ absurd (no-sum x a i j (sym z)) | inr l ↦ absurd (omega arith) ]
      ]

      -- zero with b would make the sum
      zero_out : In X s → In A b → ⊥
      zero_out i j = no-sum s b i j (sum_zero b n)

      -- the step to the least that reaches b with c
      skipped : (c y : ℕ) → In A c → Least (Attains f e c b X) y → X.low < y → Skips f e B c (y - 1)
      skipped c y j l h = skips_before f e c X B y l h (past y c l.holds.inside j l.holds.enough)

      -- b above zero, and a step of x below zero skips it: the least x with A's low end is no worse
      low_best : s < b → (y : ℕ) → Least (Attains f e A.low b X) y → (x a : ℕ) → In X x → In A a → X.low < x → A.low < a → x ≤ s → b < sum f e x a → Skips f e B a (x - 1) → sum f e x (a - 1) < b
          → sum f e y A.low ≤ sum f e x a
      low_best up y l x a i j hx ha z g k h =
          let o : x < y = elim (le_or_lt y x) [
            | inl t ↦ absurd (omega (arith, sum_mono f e some y x A.low (a - 1) t (omega arith), l.holds.enough))
            | inr t ↦ t
          ] in
          let yi = l.holds.inside in
          let fa = finite_in f e A na a j in
          let ys : y ≤ s = elim (le_or_lt y s) [
            | inl t ↦ t
            | inr t ↦
                let c1 = short_below f e A.low X b y s l (record { low = omega arith; high = omega arith }) t in
                let c2 : A.low < b = omega (arith, c1, sum_comm f e A.low s, sum_zero A.low na.low) in
                let c3 : b < a = omega (arith, sum_mono f e some x s a a z (le_refl a), sum_zero a fa) in
                absurd (zero_out (record { low = omega arith; high = omega arith }) (record { low = omega arith; high = omega arith }))
          ] in
          let w = skipped A.low y (record { low = le_refl A.low; high = omega arith }) l (omega arith) in
          let at : y - 1 + 1 ≡ y = omega arith in
          let at' : x - 1 + 1 ≡ x = omega arith in
          let r = below_steps up (x - 1) (y - 1) a A.low (omega arith) (omega arith) k w in
          omega (arith, r, ap (sum f e A.low) at, ap (sum f e a) at', sum_comm f e y A.low, sum_comm f e x a)

      -- b below zero, and a step of x above zero skips it: the least a with X's low end is no worse, or the least x with the a before that
      high_best : b < s → (z : ℕ) → Least (Attains f e X.low b A) z → (t : ℕ) → t ≤ sum f e z X.low → (A.low < z → AtMost f e (z - 1) b X t) → (x a : ℕ) → In X x → In A a → X.low < x → A.low < a → s < x → Skips f e B a (x - 1) → sum f e x (a - 1) < b
          → b ≤ sum f e x a → t ≤ sum f e x a
      high_best down z l t ht u x a i j hx ha o k h g =
          let zi = l.holds.inside in
          let fz = finite_in f e A na A.high (record { low = omega arith; high = le_refl A.high }) in
          let fa = finite_in f e A na (a - 1) (record { low = omega arith; high = omega arith }) in
          let xs : s < X.low = elim (le_or_lt X.low s) [
            | inl q ↦
                let c1 : a - 1 < b = omega (arith, sum_mono f e some s x (a - 1) (a - 1) (omega arith) (le_refl (a - 1)), sum_zero (a - 1) fa) in
                let c2 : b ≤ A.high = omega (arith, sum_mono f e some X.low s z A.high q zi.high, sum_comm f e z X.low, l.holds.enough, sum_zero A.high fz) in
                absurd (zero_out (record { low = q; high = omega arith }) (record { low = omega arith; high = c2 }))
            | inr q ↦ q
          ] in
          elim (le_or_lt z a) [
            | inl q ↦ omega (arith, sum_mono f e some X.low x z a (omega arith) q, sum_comm f e z X.low, ht)
            | inr q ↦ go xs q (u (omega arith))
          ]
        where
          go : s < X.low → a < z → AtMost f e (z - 1) b X t → t ≤ sum f e x a
          go xs q (none w) = absurd (w x (record { inside = i; enough = le_trans g (sum_mono f e some x x a (z - 1) (le_refl x) (omega arith)) }))
          go xs q (least y m hy) =
              let zi = l.holds.inside in
              let yi = m.holds.inside in
              let zj : In A (z - 1) = record { low = omega arith; high = omega arith } in
              let short = short_below f e X.low A b z (z - 1) l zj (omega arith) in
              let yl : X.low < y = elim (le_or_lt y X.low) [
                | inl c ↦ absurd (omega (arith, sum_mono f e some y X.low (z - 1) (z - 1) c (le_refl (z - 1)), m.holds.enough, short))
                | inr c ↦ c
              ] in
              let yx : y ≤ x = m.least x (record { inside = i; enough = le_trans g (sum_mono f e some x x a (z - 1) (le_refl x) (omega arith)) }) in
              let w = skipped (z - 1) y zj m yl in
              let at : y - 1 + 1 ≡ y = omega arith in
              let at' : x - 1 + 1 ≡ x = omega arith in
              let r = above_steps down (x - 1) (y - 1) a (z - 1) (omega arith) (omega arith) k w in
              omega (arith, r, hy, ap (sum f e (z - 1)) at, ap (sum f e a) at', sum_comm f e y (z - 1), sum_comm f e x a)

    -- ---- at X's low end t is no more than any sum that reaches b
    at_low : (X A : Interval) (t : ℕ) → AtMost f e X.low b A t → (x a : ℕ) → x ≤ X.low → In X x → In A a → b ≤ sum f e x a → t ≤ sum f e x a
    at_low X A t p x a l i j g = go p
      where
        reach : Attains f e X.low b A a
        reach = record { inside = j; enough = omega (arith, sum_mono f e some x X.low a a l (le_refl a), sum_comm f e a X.low, g) }

        go : AtMost f e X.low b A t → t ≤ sum f e x a
        go (none w) = absurd (w a reach)
        go (least z m h) = omega (arith, sum_mono f e some X.low x z a i.low (m.least a reach), sum_comm f e z X.low, h)

    -- ---- every sum that reaches b
    module _
        (X A : Interval) (nx : Bounded f e X) (na : Bounded f e A) (no-sum : (x a : ℕ) → In X x → In A a → sum f e x a ≡ b → ⊥) (r1 : b ≤ sum f e X.low A.high) (r2 : b ≤ sum f e X.high A.low)
        (t : ℕ) (p1 : AtMost f e A.low b X t) (p2 : AtMost f e X.low b A t)
        (p3 : b < s → (z : ℕ) → Least (Attains f e X.low b A) z → A.low < z → AtMost f e (z - 1) b X t) (p4 : b < s → (y : ℕ) → Least (Attains f e A.low b X) y → X.low < y → AtMost f e (y - 1) b A t) where
      swapped : (a x : ℕ) → In A a → In X x → sum f e a x ≡ b → ⊥
      swapped a x j i h = no-sum x a i j (sum_comm f e x a ∙ h)

      -- where each next step skips b
      module _ (x a : ℕ) (i : In X x) (j : In A a) (hx : X.low < x) (ha : A.low < a) (g : b < sum f e x a) (v : sum f e (x - 1) a < b) (w : sum f e x (a - 1) < b) where
        xp : x - 1 + 1 ≡ x
        xp = omega arith

        ap' : a - 1 + 1 ≡ a
        ap' = omega arith

        k1 : Skips f e B a (x - 1)
        k1 = skips_to f e a B x (omega arith) (omega (arith, sum_comm f e (x - 1) a)) (omega (arith, sum_comm f e x a))

        k2 : Skips f e B x (a - 1)
        k2 = skips_to f e x B a (omega arith) w g

        nb : Bounded f e B
        nb = record { low = n; high = n }

        -- with the least that reach b at the two low ends
        module _ (y z : ℕ) (l : Least (Attains f e A.low b X) y) (h : t ≤ sum f e y A.low) (m : Least (Attains f e X.low b A) z) (k : t ≤ sum f e z X.low) where
          positive_case : s < b → t ≤ sum f e x a
          positive_case up = elim (le_or_lt s (x - 1)) [
            | inl o ↦ elim (le_or_lt s (a - 1)) [
              | inl o' ↦ elim (le_or_lt (x - 1) a) [
                | inl q ↦ absurd (skips_none f e some B nb (le_refl b) a (x - 1) o q k1)
                | inr q ↦ absurd (skips_none f e some B nb (le_refl b) x (a - 1) o' (omega arith) k2)
              ]
              | inr o' ↦ omega (arith, low_best A X na nx swapped up z m a x j i ha hx (omega arith) (omega (arith, sum_comm f e x a)) k2 (omega (arith, sum_comm f e (x - 1) a)), k, sum_comm f e a x)
            ]
            | inr o ↦ omega (arith, low_best X A nx na no-sum up y l x a i j hx ha (omega arith) g k1 w, h)
          ]

          negative_case : b < s → t ≤ sum f e x a
          negative_case down = elim (le_or_lt s (x - 1)) [
            | inl o ↦ high_best X A nx na no-sum down z m t k (p3 down z m) x a i j hx ha (omega arith) k1 w (omega arith)
            | inr o ↦ elim (le_or_lt s (a - 1)) [
              | inl o' ↦ omega (arith, high_best A X na nx swapped down y l t h (p4 down y l) a x j i ha hx (omega arith) k2 (omega (arith, sum_comm f e (x - 1) a)) (omega (arith, sum_comm f e x a)), sum_comm f e a x)
              | inr o' ↦ absurd (both o o')
            ]
          ]
            where
              both : x - 1 < s → a - 1 < s → ⊥
              both o o' =
                  let r = infinity_lt_sign f e in
                  let R = reflection f e B in
                  let c1 = subst (λ (q : ℕ). Skips f e R (mirrored f e a) (mirrored f e q)) xp (mirror_skips f e some B nb a (x - 1) (omega arith) (omega arith) k1) in
                  let c2 = subst (λ (q : ℕ). Skips f e R (mirrored f e x) (mirrored f e q)) ap' (mirror_skips f e some B nb x (a - 1) (omega arith) (omega arith) k2) in
                  elim (le_or_lt a x) [
                    | inl q ↦ skips_none f e some R (mirror_bounded f e B nb) (le_refl R.low) (mirrored f e a) (mirrored f e x) (omega arith) (omega arith) c1
                    | inr q ↦ skips_none f e some R (mirror_bounded f e B nb) (le_refl R.low) (mirrored f e x) (mirrored f e a) (omega arith) (omega arith) c2
                  ]

        stuck : AtMost f e A.low b X t → AtMost f e X.low b A t → t ≤ sum f e x a
        stuck (none q) m = absurd (q X.high (record { inside = record { low = omega arith; high = le_refl X.high }; enough = r2 }))
        stuck (least y l h) (none q) = absurd (q A.high (record { inside = record { low = omega arith; high = le_refl A.high }; enough = omega (arith, r1, sum_comm f e A.high X.low) }))
        stuck (least y l h) (least z m k) = elim (trichotomy b s) [
          | inl o ↦ negative_case y z l h m k o
          | inr r ↦ elim r [
            | inl o ↦ absurd (zero_in_none f e some B (omega arith) (omega arith) a (x - 1) (omega (arith, na.high.high, infinity_lt_sign f e)) k1)
            | inr o ↦ positive_case y z l h m k o
          ]
        ]

      down_to : (k x a : ℕ) → x + a ≤ k → In X x → In A a → b ≤ sum f e x a → t ≤ sum f e x a
      down_to zero x a h i j g = at_low X A t p2 x a (omega arith) i j g
      down_to (suc k) x a h i j g = elim (le_or_lt x X.low) [
        | inl q ↦ at_low X A t p2 x a q i j g
        | inr q ↦ elim (le_or_lt a A.low) [
          | inl r ↦ omega (arith, at_low A X t p1 a x r j i (omega (arith, sum_comm f e x a)), sum_comm f e x a)
          | inr r ↦ elim (le_or_lt b (sum f e (x - 1) a)) [
            | inl u ↦ le_trans (down_to k (x - 1) a (omega arith) (record { low = omega arith; high = omega arith }) j u) (sum_mono f e some (x - 1) x a a (omega arith) (le_refl a))
            | inr u ↦ elim (le_or_lt b (sum f e x (a - 1))) [
              | inl w ↦ le_trans (down_to k x (a - 1) (omega arith) i (record { low = omega arith; high = omega arith }) w) (sum_mono f e some x x (a - 1) a (le_refl x) (omega arith))
              | inr w ↦ stuck x a i j q r (past X A nx na no-sum x a i j g) u w p1 p2
            ]
          ]
        ]
      ]

      -- t is no more than any of them
      pub lowest : (x a : ℕ) → In X x → In A a → b ≤ sum f e x a → t ≤ sum f e x a
      lowest x a = down_to (x + a) x a (le_refl (x + a))

      -- so where it stands in a triple, it is the least that does
      pub lowest_least : (B' : Interval) → B'.low ≡ b → HasB f e X A B' t → Least (HasB f e X A B') t
      lowest_least B' z w = record {
        holds = w;
        least = λ y v. let r = v.solution in let d = lowest v.x v.a r.x_in r.a_in (omega (arith, r.is, r.b_in.low)) in omega (arith, r.is);
      }

pub at_most_less : {f e b c t u : ℕ} {X : Interval} → u ≤ t → AtMost f e c b X t → AtMost f e c b X u
at_most_less l (none w) = none w
at_most_less l (least y m h) = least y m (le_trans l h)
