-- The least operand without a search. By the signed central law x reaches b with a exactly when twice the value of x is at least twice the midpoint of b and its lower neighbour, less twice a, and more
-- than that where b is odd. So the operands that reach b are those from one float on: half that difference, rounded up. Assumes nothing.
use mathlib.Core.Path.{◌≡◌, ap, ◌∙◌}
use mathlib.Core.Logic.{◌↔◌, inl, inr}
use Prim.Native.Nat.{ℕ, ◌+◌, ◌-◌, ◌*◌, ◌/◌, ◌%◌, ◌^◌, ◌≤◌, ◌<◌}
use native.Mathlib.Omega.{arith}
use lib.Pow.{pow_pos}
use Rattle.ladder.specs.Magnitude.{magnitude}
use Rattle.ladder.specs.Rounding.{truncated}
use Rattle.ladder.specs.Ordinal.{sign, infinity, above, below, Finite}
use Rattle.ladder.specs.Sum.{sum}
use Rattle.ladder.specs.Search.{crossing_up, crossing_down, Threshold}
use Rattle.ladder.proofs.Cases.{le_or_lt, trichotomy}
use Rattle.ladder.proofs.Magnitude.{magnitude_small, magnitude_shift, magnitude_le, magnitude_lt, magnitude_zero}
use Rattle.ladder.proofs.Rounding.{even_pow}
use Rattle.ladder.proofs.Ordinals.{infinity_lt_sign, sign_is, above_none, below_none}
use Rattle.ladder.proofs.Truncation.{truncated_galois}
use Rattle.ladder.proofs.Signed.{le_sum}

-- ---- twice a value with p more, where p is none or one
twice_le : (f p u v : ℕ) → p < 2 → (2 * magnitude f u + p ≤ 2 * magnitude f v) ↔ (u + p ≤ v)
twice_le f p u v P = elim (trichotomy u v) [
  | inl l ↦ let g = magnitude_lt f u v l in (λ r. omega arith, λ r. omega arith)
  | inr c ↦ elim c [
    | inl q ↦ let g = ap (magnitude f) q in (λ r. omega arith, λ r. omega arith)
    | inr l ↦ let g = magnitude_lt f v u l in (λ r. absurd (omega arith), λ r. absurd (omega arith))
  ]
]

-- ---- half a number of units, rounded toward zero
half_galois : (f n m : ℕ) → (2 * magnitude f m ≤ n) ↔ (m ≤ truncated f (n / 2))
half_galois f n m = let g = truncated_galois f (n / 2) m in (λ h. g.0 (omega arith), λ h. omega (arith, g.1 h))

module _ (f n h : ℕ) (is : h ≡ truncated f (n / 2)) where
  half_le : (m : ℕ) → (2 * magnitude f m ≤ n) ↔ (m ≤ h)
  half_le m = let g = half_galois f n m in (λ l. omega (arith, g.0 l), λ l. g.1 (omega arith))

  pub half_under : 2 * magnitude f h ≤ n
  half_under = (half_le h).1 (omega arith)

  -- half of n lies between two floats
  module _ (inexact : 2 * magnitude f h < n) where
    inexact_under : (p m : ℕ) → p < 2 → (2 * magnitude f m + p ≤ n) ↔ (m ≤ h)
    inexact_under p m P = (λ r. (half_le m).0 (omega arith), λ r. omega (arith, magnitude_le f m h r))

    inexact_over : (p m : ℕ) → p < 2 → (n + p ≤ 2 * magnitude f m) ↔ (h + 1 ≤ m)
    inexact_over p m P = (
      λ r. elim (le_or_lt m h) [ inl g ↦ absurd (omega (arith, magnitude_le f m h g)) | inr g ↦ omega arith ],
      λ r. elim (le_or_lt (2 * magnitude f m) n) [ inl g ↦ absurd (omega (arith, (half_le m).0 g)) | inr g ↦ omega arith ],
    )

-- ---- twice a value is at most that of the binade above
magnitude_twice : (f m : ℕ) → 2 * magnitude f m ≤ magnitude f (m + 2 ^ f)
magnitude_twice f m = elim (le_or_lt (2 ^ f) m) [
  | inl l ↦ let e : magnitude f (m + 2 ^ f) ≡ magnitude f m * 2 ^ 1 = ap (magnitude f) (omega arith) ∙ magnitude_shift f 1 m l in omega arith
  | inr l ↦ omega (arith, magnitude_small f m (omega arith), magnitude_small f (m + 2 ^ f) (omega arith))
]

-- ---- the operands that reach b with a
module _ (f e a b : ℕ) (some : 1 ≤ f) (B : Finite f e b) where
  abbrev s : ℕ
  s = sign f e

  abbrev up : ℕ
  up = crossing_up f e a b

  abbrev down : ℕ
  down = crossing_down f e a b

  -- the signed central law, by the difference
  reach : (x : ℕ) → (b ≤ sum f e x a) ↔ (up + b % 2 + 2 * below f e x ≤ down + 2 * above f e x)
  reach x = let i = le_sum f e some x a b B.low (omega (arith, B.high)) in (λ l. omega (arith, i.0 l), λ l. i.1 (omega arith))

  -- which x of one side of zero reach b is asked of its magnitude
  module _ (y : ℕ) (low : (x : ℕ) → x ≤ s → (up + b % 2 + 2 * magnitude f (s - x) ≤ down) ↔ (y ≤ x)) (high : (x : ℕ) → s ≤ x → (up + b % 2 ≤ down + 2 * magnitude f (x - s)) ↔ (y ≤ x)) where
    by_side : Threshold f e a b y
    by_side x = let i = reach x in elim (le_or_lt x s) [
      | inl l ↦ let z = above_none f e x l in let g = low x l in (λ r. g.0 (omega (arith, i.0 r)), λ r. i.1 (omega (arith, g.1 r)))
      | inr l ↦ let z = below_none f e x (omega arith) in let g = high x (omega arith) in (λ r. g.0 (omega (arith, i.0 r)), λ r. i.1 (omega (arith, g.1 r)))
    ]

  -- the difference is n units, and h is half of them, rounded toward zero
  module _ (n h : ℕ) (is : h ≡ truncated f (n / 2)) where
    abbrev p : ℕ
    p = b % 2

    -- no magnitude but zero's is zero
    positive : (m : ℕ) → 0 < m → 0 < magnitude f m
    positive m l = omega (arith, magnitude_lt f 0 m l)

    nothing : (m : ℕ) → m ≡ 0 → magnitude f m ≡ 0
    nothing = magnitude_zero f

    -- above zero, or none
    module _ (N : up ≡ down + n) where
      pub threshold_up : 2 * magnitude f h ≡ n → Threshold f e a b (s + h + p)
      threshold_up exact =
          by_side (s + h + p)
          (λ x l. (
            λ r. elim (le_or_lt h 0) [
              | inl g ↦ elim (le_or_lt (s - x) 0) [ inl k ↦ omega arith | inr k ↦ absurd (omega (arith, positive (s - x) k)) ]
              | inr g ↦ absurd (omega (arith, positive h g))
            ],
            λ r. omega (arith, nothing (s - x) (omega arith), nothing h (omega arith)),
          ))
          (λ x l. let g = twice_le f p h (x - s) (omega arith) in (λ r. omega (arith, g.0 (omega arith)), λ r. omega (arith, g.1 (omega arith))))

      pub threshold_up_inexact : 2 * magnitude f h < n → Threshold f e a b (s + h + 1)
      threshold_up_inexact inexact =
          by_side (s + h + 1)
          (λ x l. (λ r. absurd (omega arith), λ r. absurd (omega arith)))
          (λ x l. let g = inexact_over f n h is inexact p (x - s) (omega arith) in (λ r. omega (arith, g.0 (omega arith)), λ r. omega (arith, g.1 (omega arith))))

    -- below zero, or none
    module _ (N : down ≡ up + n) where
      pub threshold_down : 2 * magnitude f h ≡ n → Threshold f e a b (s + p - h)
      threshold_down exact =
          by_side (s + p - h)
          (λ x l. let g = twice_le f p (s - x) h (omega arith) in (λ r. omega (arith, g.0 (omega arith)), λ r. omega (arith, g.1 (omega arith))))
          (λ x l. (
            λ r. elim (le_or_lt (x - s + h) 0) [
              | inl g ↦ omega (arith, nothing (x - s) (omega arith), nothing h (omega arith))
              | inr g ↦ omega arith
            ],
            λ r. elim (le_or_lt h 0) [
              | inl g ↦ elim (le_or_lt (x - s) 0) [ inl k ↦ omega arith | inr k ↦ omega (arith, positive (x - s) k) ]
              | inr g ↦ omega (arith, positive h g)
            ],
          ))

      pub threshold_down_inexact : 2 * magnitude f h < n → Threshold f e a b (s - h)
      threshold_down_inexact inexact =
          by_side (s - h)
          (λ x l. let g = inexact_under f n h is inexact p (s - x) (omega arith) in (λ r. omega (arith, g.0 (omega arith)), λ r. omega (arith, g.1 (omega arith))))
          (λ x l. (λ r. omega arith, λ r. omega arith))

    -- ---- how large h is
    module _ (A : Finite f e a) where
      -- the largest finite magnitude
      abbrev M : ℕ
      M = magnitude f (infinity f e - 1)

      within : (r : ℕ) → Finite f e r → (above f e r ≤ M) × (below f e r ≤ M)
      within r R = (magnitude_le f (r - s) (infinity f e - 1) (omega (arith, R.high)), magnitude_le f (s - r) (infinity f e - 1) (omega (arith, R.low)))

      pub threshold_high : up ≡ down + n → h + 1 < s
      threshold_high N = elim (le_or_lt s (h + 1)) [
        | inr g ↦ g
        | inl g ↦
            let u = half_under f n h is in
            let t : 4 * M ≤ n = omega (arith, magnitude_twice f (infinity f e - 1), magnitude_le f (infinity f e - 1 + 2 ^ f) h (omega (arith, sign_is f e, B.low, B.high))) in
            elim (le_or_lt b s) [
              | inl l ↦ absurd (omega (arith, above_none f e b l, above_none f e (b - 1) (omega arith), (within a A).1, positive h (omega (arith, sign_is f e, even_pow f some, pow_pos (f - 1)))))
              | inr l ↦ absurd (omega (arith, magnitude_lt f (b - 1 - s) (b - s) (omega arith), (within b B).0, (within a A).1))
            ]
      ]

      pub threshold_low : down ≡ up + n → h < s
      threshold_low N = elim (le_or_lt s h) [
        | inr g ↦ g
        | inl g ↦
            let i = infinity f e in
            let u = half_under f n h is in
            let t : 4 * magnitude f i ≤ n = omega (arith, magnitude_twice f i, magnitude_le f (i + 2 ^ f) h (omega (arith, sign_is f e))) in
            let v : below f e (b - 1) ≤ magnitude f i = magnitude_le f (s - (b - 1)) i (omega (arith, B.low, infinity_lt_sign f e)) in
            absurd (omega (arith, magnitude_lt f (i - 1) i (omega (arith, B.low, B.high)), (within b B).1, (within a A).0))
      ]
