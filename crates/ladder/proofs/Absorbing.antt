-- Which x absorb a: x ⊕ a = x. For a at or above zero that turns on one number, the step after x: twice a, and 1 more where x is odd, is at most that step.
-- The step grows with the distance from zero on either side, so a few x decide. Assumes nothing.
use mathlib.Core.Path.{◌≡◌, sym, ap, subst, ◌∙◌}
use mathlib.Core.Logic.{◌↔◌, ◌⊎◌, inl, inr}
use Prim.Native.Nat.{ℕ, suc, ◌+◌, ◌-◌, ◌*◌, ◌/◌, ◌%◌, ◌^◌, ◌≤◌, ◌<◌, max}
use native.Mathlib.Nat.{le_trans, div-lt_iff_lt-mul, le-div_iff_mul-le, div-mul-le_self}
use native.Mathlib.Omega.{arith}
use lib.Pow.{pow_mono, pow_pos}
use Rattle.ladder.specs.Magnitude.{magnitude, shift}
use Rattle.ladder.specs.Ordinal.{sign, above, below, Finite}
use Rattle.ladder.specs.Sum.{gains, losses, sum}
use Rattle.ladder.specs.Absorption.{step_place}
use Rattle.ladder.proofs.Cases.{le_or_lt}
use Rattle.ladder.proofs.Magnitude.{magnitude_suc, shift_le}
use Rattle.ladder.proofs.Rounding.{even_pow}
use Rattle.ladder.proofs.Ordinals.{sign_even, above_none, below_none}
use Rattle.ladder.proofs.Signed.{le_sum}
use Rattle.ladder.proofs.Sum.{sum_mono, rounded_value}

module _ (f k d : ℕ) where
  -- the binade of a step
  shift_under : 1 ≤ k → d < (k + 1) * 2 ^ f → shift f d ≤ k - 1
  unfolding shift
  shift_under p l = omega (arith, (div-lt_iff_lt-mul {k = 2 ^ f} {x = d} {y = k + 1} (pow_pos f)).1 l)

  shift_from : (k + 1) * 2 ^ f ≤ d → k ≤ shift f d
  unfolding shift
  shift_from l = omega (arith, (le-div_iff_mul-le {k = 2 ^ f} {x = k + 1} {y = d} (pow_pos f)).1 l)

module _ (f e : ℕ) (some : 1 ≤ f) where
  abbrev s : ℕ
  s = sign f e

  -- one step up the ladder, in units
  step_above : (x : ℕ) → above f e (x + 1) + below f e x ≡ above f e x + below f e (x + 1) + 2 ^ shift f (step_place f e x)
  step_above x = elim (le_or_lt s x) [
    | inl h ↦
        let p : above f e (x + 1) ≡ magnitude f (suc (x - s)) = ap (magnitude f) (omega arith) in
        let q : 2 ^ shift f (step_place f e x) ≡ 2 ^ shift f (x - s) = ap (λ (z : ℕ). 2 ^ shift f z) (omega arith) in
        omega (arith, magnitude_suc f (x - s), below_none f e x h, below_none f e (x + 1) (omega arith))
    | inr h ↦
        let p : below f e x ≡ magnitude f (suc (s - 1 - x)) = ap (magnitude f) (omega arith) in
        let r : below f e (x + 1) ≡ magnitude f (s - 1 - x) = ap (magnitude f) (omega arith) in
        let q : 2 ^ shift f (step_place f e x) ≡ 2 ^ shift f (s - 1 - x) = ap (λ (z : ℕ). 2 ^ shift f z) (omega arith) in
        omega (arith, magnitude_suc f (s - 1 - x), above_none f e x (omega arith), above_none f e (x + 1) (omega arith))
  ]

  -- zero adds nothing
  pub sum_zero : (x : ℕ) → Finite f e x → sum f e x s ≡ x
  unfolding sum
  sum_zero x X = rounded_value f e some (gains f e x s) (losses f e x s) x (omega (arith, X.low)) (omega (arith, X.high)) (omega (arith, above_none f e s (omega arith), below_none f e s (omega arith)))

  -- x absorbs a exactly where twice a fits the step
  pub absorbs_step : (x a : ℕ) → Finite f e x → s ≤ a → (sum f e x a ≡ x) ↔ (2 * above f e a + x % 2 ≤ 2 ^ shift f (step_place f e x))
  absorbs_step x a X h =
      let l = le_sum f e some x a (x + 1) (omega (arith, X.low)) (omega (arith, X.high)) in
      let g = step_above x in
      let z = below_none f e a h in
      let at : x + 1 - 1 ≡ x = omega arith in
      let u : above f e (x + 1 - 1) ≡ above f e x = ap (above f e) at in
      let v : below f e (x + 1 - 1) ≡ below f e x = ap (below f e) at in
      let m : x ≤ sum f e x a = omega (arith, sum_mono f e some x x s a (omega arith) h, sum_zero x X) in (
        λ is. elim (le_or_lt (2 * above f e a + x % 2) (2 ^ shift f (step_place f e x))) [
          | inl k ↦ k
          | inr k ↦ absurd (omega (arith, l.1 (omega arith)))
        ],
        λ k. elim (le_or_lt (x + 1) (sum f e x a)) [
          | inl i ↦ absurd (omega (arith, l.0 i))
          | inr i ↦ omega arith
        ],
      )

  -- y is farther out than x on its side, and no odder
  absorbs_more : (x y a : ℕ) → Finite f e x → Finite f e y → s ≤ a → step_place f e x ≤ step_place f e y → y % 2 ≤ x % 2 → sum f e x a ≡ x → sum f e y a ≡ y
  absorbs_more x y a X Y h d o is =
      (absorbs_step y a Y h).1 (omega (arith, (absorbs_step x a X h).0 is, pow_mono (shift_le f (step_place f e y) (step_place f e x) d)))

  -- the number before an odd one above zero has the same step after it
  shift_odd : (d : ℕ) → d % 2 ≡ 1 → shift f d ≤ shift f (d - 1)
  unfolding shift
  shift_odd d o =
      let q = d / 2 ^ f in
      let l : q * 2 ^ f ≤ d - 1 = omega (arith, div-mul-le_self d (2 ^ f), ap (λ (z : ℕ). q * z) (even_pow f some)) in
      omega (arith, (le-div_iff_mul-le {k = 2 ^ f} {x = q} {y = d - 1} (pow_pos f)).1 l)

  above_place : (x : ℕ) → s ≤ x → step_place f e x ≡ x - s
  above_place x h = omega arith

  odd_above : (u : ℕ) → s ≤ u → u % 2 ≡ 1 → (s ≤ u - 1) × ((u - s) % 2 ≡ 1)
  odd_above u h o = let z = sign_even f e some in (omega arith, omega arith)

  -- so it absorbs what the odd one does
  absorbs_odd : (u a : ℕ) → Finite f e u → s ≤ a → s ≤ u → u % 2 ≡ 1 → sum f e u a ≡ u → sum f e (u - 1) a ≡ u - 1
  absorbs_odd u a U h g o is = (absorbs_step (u - 1) a before h).1 (odd_fits (2 * above f e a) ((absorbs_step u a U h).0 is) o (pow_mono same))
    where
      before : Finite f e (u - 1)
      before = record { low = omega (arith, U.high, (odd_above u g o).0); high = omega (arith, U.high) }

      same : shift f (step_place f e u) ≤ shift f (step_place f e (u - 1))
      same =
          subst (λ (d : ℕ). shift f (step_place f e u) ≤ shift f d) (one_less u s ∙ sym (above_place (u - 1) (odd_above u g o).0))
          (subst (λ (d : ℕ). shift f d ≤ shift f (u - s - 1)) (sym (above_place u g)) (shift_odd (u - s) (odd_above u g o).1))
        where
          one_less : (u t : ℕ) → u - t - 1 ≡ u - 1 - t
          one_less u t = omega arith

      odd_fits : (v : ℕ) {p q : ℕ} → v + u % 2 ≤ p → u % 2 ≡ 1 → p ≤ q → v + (u - 1) % 2 ≤ q
      odd_fits v l o k = omega arith

  -- ---- which x to try, for a above zero
  module _ (a : ℕ) (h : s ≤ a) where
    abbrev Absorbs : ℕ → Type 0
    Absorbs x = sum f e x a ≡ x

    even : (x : ℕ) → (x % 2 ≡ 0) ⊎ (x % 2 ≡ 1)
    even x = elim (le_or_lt (x % 2) 0) [ inl l ↦ inl (omega arith) | inr l ↦ inr (omega arith) ]

    -- at or above zero the high end, or the number before it, absorbs what any absorbs
    absorbs_high : (x u : ℕ) → Finite f e x → Finite f e u → s ≤ x → x ≤ u → Absorbs x → Absorbs u ⊎ ((x < u) × Absorbs (u - 1))
    absorbs_high x u X U p l k = elim (even u) [
      | inl o ↦ inl (absorbs_more x u a X U h (omega arith) (omega arith) k)
      | inr o ↦ elim (le_or_lt u x) [
        | inl g ↦ let is : x ≡ u = omega arith in inl (subst Absorbs is k)
        | inr g ↦ inr (g, absorbs_more x (u - 1) a X (record { low = omega (arith, U.low, X.low); high = omega (arith, U.high) }) h (omega arith) (omega arith) k)
      ]
    ]

    -- so there the greatest even number does, from l up to u, or l itself
    pub absorbs_even : (x l u : ℕ) → Finite f e x → Finite f e u → s ≤ x → l ≤ x → x ≤ u → Absorbs x → Absorbs (max (u - u % 2) l)
    absorbs_even x l u X U p lx xu k = elim (absorbs_high x u X U p xu k) [
      | inl at-u ↦ elim (even u) [
        | inl o ↦ subst Absorbs (even_is l u o (le_trans lx xu)) at-u
        | inr o ↦ elim (le_or_lt u l) [
          | inl g ↦ subst Absorbs (one_is l u g (le_trans lx xu)) at-u
          | inr g ↦ subst Absorbs (odd_is l u o g) (absorbs_odd u a U h (le_trans p xu) o at-u)
        ]
      ]
      | inr before ↦ elim (even u) [
        | inl o ↦ subst Absorbs (even_is l u o (le_trans lx xu)) (absorbs_more x u a X U h (omega arith) (omega arith) k)
        | inr o ↦ subst Absorbs (odd_is l u o (le_lt lx before.0)) before.1
      ]
    ]
      where
        even_is : (l u : ℕ) → u % 2 ≡ 0 → l ≤ u → u ≡ max (u - u % 2) l
        even_is l u o g = omega arith

        one_is : (l u : ℕ) → u ≤ l → l ≤ u → u ≡ max (u - u % 2) l
        one_is l u g i = omega arith

        odd_is : (l u : ℕ) → u % 2 ≡ 1 → l < u → u - 1 ≡ max (u - u % 2) l
        odd_is l u o g = omega arith

        le_lt : {l x u : ℕ} → l ≤ x → x < u → l < u
        le_lt g i = omega arith

    -- below zero the low end, or the number after it
    pub absorbs_low : (x l : ℕ) → Finite f e x → Finite f e l → x < s → l ≤ x → Absorbs x → Absorbs l ⊎ ((l < x) × Absorbs (l + 1))
    absorbs_low x l X L p g k = elim (even l) [
      | inl o ↦ inl (absorbs_more x l a X L h (omega arith) (omega arith) k)
      | inr o ↦ elim (le_or_lt x l) [
        | inl i ↦ let is : x ≡ l = omega arith in inl (subst Absorbs is k)
        | inr i ↦ inr (i, absorbs_more x (l + 1) a X (record { low = omega (arith, L.low); high = omega (arith, X.high) }) h (omega arith) (omega arith) k)
      ]
    ]

    -- ---- T, the least place with a step of at least twice a: k is the least exponent for that
    module _ (k : ℕ) (enough : 2 * above f e a ≤ 2 ^ k) (least : 2 ^ k < 4 * above f e a) where
      abbrev pub coarse : ℕ
      coarse = (k + 1) * 2 ^ f

      positive : 1 ≤ k
      positive = elim (le_or_lt 1 k) [ inl l ↦ l | inr l ↦ absurd (omega (arith, ap (λ (z : ℕ). 2 ^ z) (zero_of l))) ]
        where
          zero_of : {k : ℕ} → k < 1 → k ≡ 0
          zero_of l = omega arith

      -- what absorbs a lies that far out
      far : (x : ℕ) → Finite f e x → Absorbs x → coarse ≤ step_place f e x
      far x X is = elim (le_or_lt coarse (step_place f e x)) [
        | inl l ↦ l
        | inr l ↦
            let w = (absorbs_step x a X h).0 is in
            let d : 2 ^ shift f (step_place f e x) ≤ 2 ^ (k - 1) = pow_mono (shift_under f k (step_place f e x) positive l) in
            absurd (omega (arith, even_pow k positive))
      ]

      -- and an even x that far out absorbs it
      near : (x : ℕ) → Finite f e x → coarse ≤ step_place f e x → x % 2 ≡ 0 → Absorbs x
      near x X l o = (absorbs_step x a X h).1 (omega (arith, pow_mono (shift_from f k (step_place f e x) l)))

      even_coarse : coarse % 2 ≡ 0
      even_coarse = omega (arith, ap (λ (z : ℕ). (k + 1) * z) (even_pow f some))

      pub absorbs_coarse : Finite f e (s + coarse) → Absorbs (s + coarse)
      absorbs_coarse C = near (s + coarse) C (omega arith) (omega (arith, even_coarse, sign_even f e some))

      pub absorbs_coarse_below : coarse + 2 ≤ s → Finite f e (s - (coarse + 2)) → Absorbs (s - (coarse + 2))
      absorbs_coarse_below l C = near (s - (coarse + 2)) C (omega arith) (omega (arith, even_coarse, sign_even f e some))

      -- the least x from l to u: l, else l + 1, else s + coarse
      pub least_far : (l u z : ℕ) → Finite f e l → Finite f e u → (Absorbs l → ⊥) → (l + 1 ≤ u → Absorbs (l + 1) → ⊥) → l ≤ z → z ≤ u → Absorbs z → (l ≤ s + coarse) × (s + coarse ≤ z)
      least_far l u z L U not_end not-next lz zu is =
          let Z : Finite f e z = record { low = omega (arith, L.low); high = omega (arith, U.high) } in
          elim (le_or_lt s z) [
            | inr g ↦ absurd (elim (absorbs_low z l Z L g lz is) [ inl k ↦ not_end k | inr k ↦ not-next (omega (arith, k.0)) k.1 ])
            | inl g ↦
                let w : s + coarse ≤ z = omega (arith, far z Z is) in
                elim (le_or_lt l (s + coarse)) [
                  | inl i ↦ (i, w)
                  | inr i ↦ absurd (elim (even l) [
                    | inl o ↦ not_end (near l L (omega arith) o)
                    | inr o ↦ elim (le_or_lt z l) [
                      | inl j ↦ let eq : z ≡ l = omega arith in not_end (subst Absorbs eq is)
                      | inr j ↦ not-next (omega arith) (near (l + 1) (record { low = omega (arith, L.low); high = omega (arith, Z.high) }) (omega arith) (omega arith))
                    ]
                  ])
                ]
          ]

      -- the greatest: u, else u - 1, else s - (coarse + 1), else s - (coarse + 2)
      pub greatest_far : (l u z : ℕ) → Finite f e l → Finite f e u → (Absorbs u → ⊥) → (l + 1 ≤ u → Absorbs (u - 1) → ⊥) → l ≤ z → z ≤ u → Absorbs z → (z + (coarse + 1) ≤ s) × (s ≤ u + (coarse + 1))
      greatest_far l u z L U not_end not-next lz zu is =
          let Z : Finite f e z = record { low = omega (arith, L.low); high = omega (arith, U.high) } in
          elim (le_or_lt s z) [
            | inl g ↦ absurd (elim (absorbs_high z u Z U g zu is) [ inl k ↦ not_end k | inr k ↦ not-next (omega (arith, k.0)) k.1 ])
            | inr g ↦
                let w : z + (coarse + 1) ≤ s = omega (arith, far z Z is) in
                elim (le_or_lt s (u + (coarse + 1))) [
                  | inl i ↦ (w, i)
                  | inr i ↦ absurd (elim (even u) [
                    | inl o ↦ not_end (near u U (omega arith) o)
                    | inr o ↦ elim (le_or_lt u z) [
                      | inl j ↦ let eq : z ≡ u = omega arith in not_end (subst Absorbs eq is)
                      | inr j ↦ not-next (omega arith) (near (u - 1) (record { low = omega (arith, Z.low); high = omega (arith, U.high) }) (omega arith) (omega arith))
                    ]
                  ])
                ]
          ]
