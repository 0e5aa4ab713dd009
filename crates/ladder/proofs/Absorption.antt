-- The narrowing of x ⊕ a = x from a few candidates. One x absorbs the a up to half its step; of all x the ends and their neighbours absorb the most; which x absorb the least a decides which x absorb any. Rests on Absorbing.
use mathlib.Core.Path.{◌≡◌, refl, sym, ap, ◌∙◌, subst}
use mathlib.Core.Logic.{inl, inr}
use Prim.Native.Nat.{ℕ, zero, suc, ◌+◌, ◌-◌, ◌*◌, ◌%◌, ◌^◌, ◌≤◌, ◌<◌, min, max}
use native.Mathlib.Nat.{le_refl, div-le_self, pow-succ', mul-le-mul_right, mul-lt-mul_of_pos_right}
use native.Mathlib.Omega.{arith}
use lib.Dec.{T, eqb, eqb→eq, eqb_refl}
use lib.Pow.{pow-add, pow_pos}
use lib.Ieee.{size}
use lib.Ieee.Digits.{size-lt, size-le}
use Rattle.ladder.specs.Magnitude.{magnitude, shift, significand}
use Rattle.ladder.specs.Ordinal.{sign, infinity, mirrored, Finite}
use Rattle.ladder.specs.Sum.{sum}
use Rattle.ladder.specs.Solution.{Interval, In, Bounded}
use Rattle.ladder.specs.Search.{Never, Least, Greatest, reflection}
use Rattle.ladder.specs.Pairing.{absorbs, Pair, HasFirst, HasSecond, PairHull}
use Rattle.ladder.specs.Absorption.{step_place, AbsorbsTo, Absorber, Absorbed, AbsorbedTo, Coarse}
use Rattle.ladder.proofs.Cases.{le_or_lt}
use Rattle.ladder.proofs.Magnitude.{parts, magnitude_parts, magnitude_lt, magnitude_le, magnitude_zero, lt_of_magnitude}
use Rattle.ladder.proofs.Ordinals.{infinity_lt_sign, finite_twice}
use Rattle.ladder.proofs.Sum.{sum_mono, sum_mirror}
use Rattle.ladder.proofs.Solutions.{finite_in, in_reflection, in_reflected, mirror_bounded}
use Rattle.ladder.proofs.Reflection.{in_twice, mirror_spans}
use Rattle.ladder.proofs.Hull.{same_spans}
use Rattle.ladder.proofs.Extremes.{spans_of}
use Rattle.ladder.proofs.Absorbing.{sum_zero, absorbs_step, absorbs_even, absorbs_low, absorbs_coarse, absorbs_coarse_below, least_far, greatest_far}

-- ---- the place with a coarse enough step, in closed form
pub significand_pos : (f m : ℕ) → 0 < m → 0 < significand f m
significand_pos f m pos = elim (le_or_lt (significand f m) 0) [
  | inl l ↦ absurd (omega (arith, magnitude_lt f 0 m pos, magnitude_parts f m, ap (λ (x : ℕ). x * 2 ^ shift f m) (zero_of l)))
  | inr l ↦ l
]
  where
    zero_of : {q : ℕ} → q ≤ 0 → q ≡ 0
    zero_of l = omega arith

pub coarse_is : (f m : ℕ) → 0 < m → Coarse f m ((m - significand f m) + (size (significand f m - 1) + 2) * 2 ^ f)
coarse_is f m pos =
    let q = significand f m in
    let j = shift f m in
    let n = size (q - 1) in
    let p = parts f m in
    let v = magnitude_parts f m in
    let some = significand_pos f m pos in
    let up : q ≤ 2 ^ n = omega (arith, size-lt (q - 1)) in
    let few : 2 ^ n < 2 * q = elim (le_or_lt (2 * q) (2 ^ n)) [
      | inl l ↦ absurd (small q n some l)
      | inr l ↦ l
    ] in
    let w : 2 ^ (j + 1 + n) ≡ 2 * (2 ^ n * 2 ^ j) = power j n in
    record {
      k = j + 1 + n;
      is = omega (arith, p.is);
      enough = omega (arith, mul-le-mul_right (2 ^ j) up);
      least = omega (arith, mul-lt-mul_of_pos_right few (pow_pos j));
    }
  where
    power : (j n : ℕ) → 2 ^ (j + 1 + n) ≡ 2 * (2 ^ n * 2 ^ j)
    power j n = pow-add 2 (j + 1) n ∙ ap (λ (x : ℕ). x * 2 ^ n) (pow-add 2 j 1) ∙ omega arith

    small : (q n : ℕ) → 0 < q → 2 * q ≤ 2 ^ size (q - 1) → ⊥
    small q n some l = go (size (q - 1)) (size-le (q - 1)) l
      where
        go : (k : ℕ) → ((j : ℕ) → q - 1 < 2 ^ j → k ≤ j) → 2 * q ≤ 2 ^ k → ⊥
        go zero h g = omega arith
        go (suc k) h g = omega (arith, h k (omega (arith, pow-succ' 2 k)))

-- ---- half a step lies nearer to zero than the step
shift_pos : (f d k : ℕ) → shift f d ≡ k + 1 → 0 < d
unfolding shift
shift_pos f d k is = elim (le_or_lt d 0) [ inl l ↦ absurd (omega (arith, is, div-le_self d (2 ^ f))) | inr l ↦ l ]

pub power_pos : (f k p : ℕ) → magnitude f p ≡ 2 ^ k → 0 < p
power_pos f k p is = lt_of_magnitude f 0 p (omega (arith, is, pow_pos k, magnitude_zero f 0 refl))

pub half_step_le : (f d k p : ℕ) → shift f d ≡ k + 1 → magnitude f p ≡ 2 ^ k → p ≤ d
half_step_le f d k p is half = elim (le_or_lt p d) [
  | inl l ↦ l
  | inr l ↦
      let q = mul-le-mul_right (2 ^ shift f d) (significand_pos f d (shift_pos f d k is)) in
      absurd (omega (arith, magnitude_lt f d p l, magnitude_parts f d, half, q, ap (λ (j : ℕ). 2 ^ j) is, pow-add 2 k 1, pow_pos k))
]

module _ (f e : ℕ) (some : 1 ≤ f) where
  abbrev s : ℕ
  s = sign f e

  passing : (x a : ℕ) → sum f e x a ≡ x → T (absorbs f e x a)
  passing x a is = subst (λ (z : ℕ). T (eqb (sum f e x a) z)) is (eqb_refl (sum f e x a))

  -- ---- what one x absorbs: up to half its step, at an odd x not the half itself
  module _ (x : ℕ) (n : Finite f e x) where
    pub absorbs_zero : shift f (step_place f e x) ≡ 0 → AbsorbsTo f e x s
    absorbs_zero k a h =
        let l = absorbs_step f e some x a n h in
        let one : 2 ^ shift f (step_place f e x) ≡ 1 = ap (λ (j : ℕ). 2 ^ j) k in (
          λ is. elim (le_or_lt a s) [ inl g ↦ g | inr g ↦ absurd (omega (arith, l.0 is, magnitude_lt f 0 (a - s) (omega arith))) ],
          λ g. let z : a ≡ s = omega arith in subst (λ (y : ℕ). sum f e x y ≡ x) (sym z) (sum_zero f e some x n),
        )

    pub absorbs_half_step : (k p : ℕ) → shift f (step_place f e x) ≡ k + 1 → magnitude f p ≡ 2 ^ k → AbsorbsTo f e x (s + (p - x % 2))
    absorbs_half_step k p is half a h =
        let l = absorbs_step f e some x a n h in
        let step : 2 ^ shift f (step_place f e x) ≡ 2 * magnitude f p = ap (λ (j : ℕ). 2 ^ j) is ∙ omega (arith, pow-add 2 k 1) in (
          λ q. elim (le_or_lt (a - s + x % 2) p) [
            | inl g ↦ omega arith
            | inr g ↦ absurd (elim (le_or_lt (x % 2) 0) [
              | inl o ↦ omega (arith, l.0 q, magnitude_lt f p (a - s) (omega arith))
              | inr o ↦ omega (arith, l.0 q, magnitude_le f p (a - s) (omega arith))
            ])
          ],
          λ g. l.1 (elim (le_or_lt (x % 2) 0) [
            | inl o ↦ omega (arith, magnitude_le f (a - s) p (omega arith))
            | inr o ↦ omega (arith, magnitude_lt f (a - s) p (odd k p half g o))
          ]),
        )
      where
        odd : (k p : ℕ) → magnitude f p ≡ 2 ^ k → {a : ℕ} → a ≤ s + (p - x % 2) → 0 < x % 2 → a - s < p
        odd k p half g o = omega (arith, power_pos f k p half)

  -- ---- what the x of an interval absorb
  absorbed : {X : Interval} {a : ℕ} (x : ℕ) → In X x → sum f e x a ≡ x → Absorbed f e X a
  absorbed x i is = record { x = x; absorber = record { inside = i; is = is } }

  module _ (X : Interval) (n : Bounded f e X) (o : X.low ≤ X.high) where
    -- from zero up the greatest even number absorbs what any absorbs, or the one number that there is
    pub above_absorbed : s ≤ X.low → (r : ℕ) → AbsorbsTo f e (max (X.high - X.high % 2) X.low) r → AbsorbedTo f e X r
    above_absorbed p r R a h = (
      λ w.
          let x = w.x in
          let i = w.absorber.inside in
          (R a h).0 (absorbs_even f e some a h x X.low X.high (finite_in f e X n x i) n.high (omega (arith, i.low)) i.low i.high w.absorber.is),
      λ l. absorbed (max (X.high - X.high % 2) X.low) (record { low = omega arith; high = omega arith }) ((R a h).1 l),
    )

    -- below zero the low end or the number after it does
    pub below_absorbed : X.high < s → (p q : ℕ) → AbsorbsTo f e X.low p → AbsorbsTo f e (min (X.low + 1) X.high) q → AbsorbedTo f e X (max p q)
    below_absorbed d p q P Q a h = (to, from)
      where
        to : Absorbed f e X a → a ≤ max p q
        to w =
            let x = w.x in
            let i = w.absorber.inside in
            elim (absorbs_low f e some a h x X.low (finite_in f e X n x i) n.low (omega (arith, i.high)) i.low w.absorber.is) [
              | inl k ↦ omega (arith, (P a h).0 k)
              | inr k ↦
                  let eq : X.low + 1 ≡ min (X.low + 1) X.high = omega (arith, k.0, i.high) in
                  omega (arith, (Q a h).0 (subst (λ (z : ℕ). sum f e z a ≡ z) eq k.1))
            ]

        from : a ≤ max p q → Absorbed f e X a
        from l = elim (le_or_lt a p) [
          | inl g ↦ absorbed X.low (record { low = le_refl X.low; high = o }) ((P a h).1 g)
          | inr g ↦ absorbed (min (X.low + 1) X.high) (record { low = omega arith; high = omega arith }) ((Q a h).1 (omega arith))
        ]

    -- with zero inside: both parts
    pub around_absorbed :
        X.low < s → s ≤ X.high → (p q : ℕ) → AbsorbedTo f e (record { low = X.low; high = s - 1 }) p → AbsorbedTo f e (record { low = s; high = X.high }) q →
        AbsorbedTo f e X (max p q)
    around_absorbed d u p q P Q a h = (
      λ w.
          let i = w.absorber.inside in
          elim (le_or_lt s w.x) [
            | inl g ↦ omega (arith, (Q a h).0 (absorbed w.x (record { low = g; high = i.high }) w.absorber.is))
            | inr g ↦ omega (arith, (P a h).0 (absorbed w.x (record { low = i.low; high = omega arith }) w.absorber.is))
          ],
      λ l. elim (le_or_lt a p) [
        | inl g ↦ let w = (P a h).1 g in absorbed w.x (record { low = w.absorber.inside.low; high = omega (arith, w.absorber.inside.high) }) w.absorber.is
        | inr g ↦ let w = (Q a h).1 (omega arith) in absorbed w.x (record { low = omega (arith, w.absorber.inside.low); high = w.absorber.inside.high }) w.absorber.is
      ],
    )

    -- zero among it
    pub absorbed_zero : (r : ℕ) → AbsorbedTo f e X r → s ≤ r
    absorbed_zero r R = (R s (le_refl s)).0 (record {
      x = X.low;
      absorber = record { inside = record { low = le_refl X.low; high = o }; is = sum_zero f e some X.low n.low };
    })

    module _ (A : Interval) (r : ℕ) (R : AbsorbedTo f e X r) where
      -- the greatest a inside A that is absorbed
      pub absorbed_greatest : s ≤ A.high → A.low ≤ A.high → A.low ≤ r → Greatest (HasSecond (absorbs f e) X A) (min A.high r)
      absorbed_greatest up ordered l =
          let g = min A.high r in
          let z = absorbed_zero r R in
          let w = (R g (omega arith)).1 (omega arith) in
          record {
            holds = record {
              p = w.x;
              pair = record { p_in = w.absorber.inside; q_in = record { low = omega arith; high = omega arith }; passes = passing w.x g w.absorber.is };
            };
            most = λ y v. elim (le_or_lt s y) [
              | inl h ↦ omega (arith, v.pair.q_in.high, absorbed_le y h v)
              | inr h ↦ omega arith
            ];
          }
        where
          absorbed_le : (y : ℕ) → s ≤ y → HasSecond (absorbs f e) X A y → y ≤ r
          absorbed_le y h v = (R y h).0 (record { x = v.p; absorber = record { inside = v.pair.p_in; is = eqb→eq (sum f e v.p y) v.p v.pair.passes } })

      -- none where even the least is too large
      pub absorbed_none : s ≤ A.low → r < A.low → (x a : ℕ) → Pair (absorbs f e) X A x a → ⊥
      absorbed_none up l x a w =
          let k = w.q_in.low in
          omega (arith, (R a (omega arith)).0 (record { x = x; absorber = record { inside = w.p_in; is = eqb→eq (sum f e x a) x w.passes } }))

  -- ---- mirrored
  module _ (X A : Interval) (nx : Bounded f e X) (na : Bounded f e A) where
    abbrev X' : Interval
    X' = reflection f e X

    abbrev A' : Interval
    A' = reflection f e A

    mirrors : (x a : ℕ) → Finite f e x → Finite f e a → T (absorbs f e x a) → T (absorbs f e (mirrored f e x) (mirrored f e a))
    mirrors x a fx fa t = passing (mirrored f e x) (mirrored f e a) (sum_mirror f e some x a (finite_twice f e x fx) (finite_twice f e a fa) ∙ ap (mirrored f e) (eqb→eq (sum f e x a) x t))

    pair_mirror : (x a : ℕ) → Pair (absorbs f e) X A x a → Pair (absorbs f e) X' A' (mirrored f e x) (mirrored f e a)
    pair_mirror x a w = record {
      p_in = in_reflection f e X x w.p_in;
      q_in = in_reflection f e A a w.q_in;
      passes = mirrors x a (finite_in f e X nx x w.p_in) (finite_in f e A na a w.q_in) w.passes;
    }

    pair_mirrored : (x a : ℕ) → Pair (absorbs f e) X' A' x a → Pair (absorbs f e) X A (mirrored f e x) (mirrored f e a)
    pair_mirrored x a w = record {
      p_in = in_reflected f e X nx x w.p_in;
      q_in = in_reflected f e A na a w.q_in;
      passes = mirrors x a (finite_in f e X' (mirror_bounded f e X nx) x w.p_in) (finite_in f e A' (mirror_bounded f e A na) a w.q_in) w.passes;
    }

    pub mirror_none : ((x a : ℕ) → Pair (absorbs f e) X' A' x a → ⊥) → (x a : ℕ) → Pair (absorbs f e) X A x a → ⊥
    mirror_none N x a w = N (mirrored f e x) (mirrored f e a) (pair_mirror x a w)

    second_mirror : (y : ℕ) → HasSecond (absorbs f e) X A y → HasSecond (absorbs f e) X' A' (mirrored f e y)
    second_mirror y w = record { p = mirrored f e w.p; pair = pair_mirror w.p y w.pair }

    second_mirrored : (y : ℕ) → HasSecond (absorbs f e) X' A' y → HasSecond (absorbs f e) X A (mirrored f e y)
    second_mirrored y w = record { p = mirrored f e w.p; pair = pair_mirrored w.p y w.pair }

    -- the least a is the mirror image of the greatest of the mirrored intervals
    pub mirror_least : (g : ℕ) → Greatest (HasSecond (absorbs f e) X' A') g → Least (HasSecond (absorbs f e) X A) (mirrored f e g)
    mirror_least g G = record {
      holds = second_mirrored g G.holds;
      least = λ z w. omega (arith, G.most (mirrored f e z) (second_mirror z w));
    }

    first_back : (y : ℕ) → In X y → HasFirst (absorbs f e) X' A' (mirrored f e y) → HasFirst (absorbs f e) X A y
    first_back y i w =
        let twice : mirrored f e (mirrored f e y) ≡ y = omega (arith, in_twice f e X nx y i) in
        record { q = mirrored f e w.q; pair = subst (λ (z : ℕ). Pair (absorbs f e) X A z (mirrored f e w.q)) twice (pair_mirrored (mirrored f e y) w.q w.pair) }

    second_back : (y : ℕ) → In A y → HasSecond (absorbs f e) X' A' (mirrored f e y) → HasSecond (absorbs f e) X A y
    second_back y i w =
        let twice : mirrored f e (mirrored f e y) ≡ y = omega (arith, in_twice f e A na y i) in
        subst (HasSecond (absorbs f e) X A) twice (second_mirrored (mirrored f e y) w)

    pub mirror_hull : (P Q : Interval) → PairHull (absorbs f e) X' A' P Q → PairHull (absorbs f e) X A (reflection f e P) (reflection f e Q)
    mirror_hull P Q h = record {
      firsts = same_spans (λ y w. first_back y w.0 w.1)
          (λ y w. (w.pair.p_in, record { q = mirrored f e w.q; pair = pair_mirror y w.q w.pair }))
          (reflection f e P) (mirror_spans f e X nx (HasFirst (absorbs f e) X' A') (λ y w. w.pair.p_in) P h.firsts);
      seconds = same_spans (λ y w. second_back y w.0 w.1) (λ y w. (w.pair.q_in, second_mirror y w))
          (reflection f e Q) (mirror_spans f e A na (HasSecond (absorbs f e) X' A') (λ y w. w.pair.q_in) Q h.seconds);
    }

  -- ---- zero is inside A: every x stays
  pub around_hull :
      (X A : Interval) → Bounded f e X → X.low ≤ X.high → A.low ≤ s → s ≤ A.high → (l g : ℕ) →
      Least (HasSecond (absorbs f e) X A) l → Greatest (HasSecond (absorbs f e) X A) g → PairHull (absorbs f e) X A X (record { low = l; high = g })
  around_hull X A n o dn up l g L G = record {
    firsts = record { low = any X.low (record { low = le_refl X.low; high = o }); high = any X.high (record { low = o; high = le_refl X.high }); all = λ y w. w.pair.p_in };
    seconds = spans_of L G;
  }
    where
      any : (y : ℕ) → In X y → HasFirst (absorbs f e) X A y
      any y i = record { q = s; pair = record { p_in = i; q_in = record { low = dn; high = up }; passes = passing y s (sum_zero f e some y (finite_in f e X n y i)) } }

  -- ---- A lies above zero: what absorbs any a absorbs the least
  module _ (X A : Interval) (n : Bounded f e X) (above : s < A.low) (o : A.low ≤ A.high) where
    first_absorber : (y : ℕ) → HasFirst (absorbs f e) X A y → Absorber f e A.low X y
    first_absorber y w =
        let i = w.pair.p_in in
        let is = eqb→eq (sum f e y w.q) y w.pair.passes in
        let fy = finite_in f e X n y i in
        record {
          inside = i;
          is = omega (arith, is, sum_zero f e some y fy, sum_mono f e some y y s A.low (le_refl y) (omega arith), sum_mono f e some y y A.low w.q (le_refl y) w.pair.q_in.low);
        }

    absorber_pair : (y : ℕ) → Absorber f e A.low X y → Pair (absorbs f e) X A y A.low
    absorber_pair y k = record { p_in = k.inside; q_in = record { low = le_refl A.low; high = o }; passes = passing y A.low k.is }

    pub above_none : Never (Absorber f e A.low X) → (x a : ℕ) → Pair (absorbs f e) X A x a → ⊥
    above_none N x a w = N x (first_absorber x (record { q = a; pair = w }))

    pub above_hull :
        (l u g : ℕ) → Least (Absorber f e A.low X) l → Greatest (Absorber f e A.low X) u → Greatest (HasSecond (absorbs f e) X A) g →
        PairHull (absorbs f e) X A (record { low = l; high = u }) (record { low = A.low; high = g })
    above_hull l u g L U G = record {
      firsts = record {
        low = record { q = A.low; pair = absorber_pair l L.holds };
        high = record { q = A.low; pair = absorber_pair u U.holds };
        all = λ y w. let k = first_absorber y w in record { low = L.least y k; high = U.most y k };
      };
      seconds = record {
        low = record { p = l; pair = absorber_pair l L.holds };
        high = G.holds;
        all = λ y w. record { low = w.pair.q_in.low; high = G.most y w };
      };
    }

  -- ---- which x absorb c
  module _ (c t : ℕ) (up : s < c) (C : Coarse f (c - s) t) where
    h : s ≤ c
    h = omega arith

    pub absorbs_far : t < infinity f e → sum f e (s + t) c ≡ s + t
    absorbs_far l = subst (λ (z : ℕ). sum f e (s + z) c ≡ s + z) (sym C.is)
        (absorbs_coarse f e some c h C.k C.enough C.least (record { low = omega (arith, infinity_lt_sign f e, C.is); high = omega (arith, C.is) }))

    pub absorbs_far_below : t + 2 ≤ s → Finite f e (s - (t + 2)) → sum f e (s - (t + 2)) c ≡ s - (t + 2)
    absorbs_far_below l n = subst (λ (z : ℕ). z + 2 ≤ s → Finite f e (s - (z + 2)) → sum f e (s - (z + 2)) c ≡ s - (z + 2)) (sym C.is)
        (absorbs_coarse_below f e some c h C.k C.enough C.least) l n

    module _ (X : Interval) (n : Bounded f e X) where
      pub least_bounds : (sum f e X.low c ≡ X.low → ⊥) → (let y = min (X.low + 1) X.high in sum f e y c ≡ y → ⊥) → (z : ℕ) → Absorber f e c X z → (X.low ≤ s + t) × (s + t ≤ z)
      least_bounds p q z k =
          let r = least_far f e some c h C.k C.enough C.least X.low X.high z n.low n.high p
          (λ l is. q (subst (λ (y : ℕ). sum f e y c ≡ y) (clamp l) is)) k.inside.low k.inside.high k.is in
          (omega (arith, r.0, C.is), omega (arith, r.1, C.is))
        where
          clamp : X.low + 1 ≤ X.high → X.low + 1 ≡ min (X.low + 1) X.high
          clamp l = omega arith

      pub greatest_bounds : (sum f e X.high c ≡ X.high → ⊥) → (let y = max (X.high - 1) X.low in sum f e y c ≡ y → ⊥) → (z : ℕ) → Absorber f e c X z → (z + (t + 1) ≤ s) × (s ≤ X.high + (t + 1))
      greatest_bounds p q z k =
          let r = greatest_far f e some c h C.k C.enough C.least X.low X.high z n.low n.high p
          (λ l is. q (subst (λ (y : ℕ). sum f e y c ≡ y) (clamp l) is)) k.inside.low k.inside.high k.is in
          (omega (arith, r.0, C.is), omega (arith, r.1, C.is))
        where
          clamp : X.low + 1 ≤ X.high → X.high - 1 ≡ max (X.high - 1) X.low
          clamp l = omega arith
