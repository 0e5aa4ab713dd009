-- No finite sum exists exactly when the exact sum's size reaches the bound, half an ulp beyond the largest finite float; with 01's figures at widths 32 and 64. Assumes nothing.
use mathlib.Core.Path.{◌≡◌, ap, ap₂, ◌∙◌}
use mathlib.Core.Logic.{◌↔◌, inl, inr}
use Prim.Native.Nat.{ℕ, suc, ◌+◌, ◌-◌, ◌*◌, ◌^◌, ◌%◌, ◌≤◌}
use native.Mathlib.Nat.{pow-succ'}
use native.Mathlib.Omega.{arith}
use lib.Dec.{lit≤}
use lib.Pow.{pow_pos, pow_mono}
use Rattle.ladder.specs.Magnitude.{magnitude}
use Rattle.ladder.specs.Rounding.{round}
use Rattle.ladder.specs.Ordinal.{sign, infinity, Finite}
use Rattle.ladder.specs.Sum.{rounded, gains, losses, sum, bound}
use Rattle.ladder.specs.Nearest.{distance}
use Rattle.ladder.proofs.Cases.{le_or_lt}
use Rattle.ladder.proofs.Magnitude.{magnitude_high}
use Rattle.ladder.proofs.Rounding.{even_pow}
use Rattle.ladder.proofs.Central.{le_round}
use Rattle.ladder.proofs.Ordinals.{infinity_lt_sign}
use Rattle.ladder.proofs.Sum.{rounded_up, mirror_rounded}

halves : (d t s : ℕ) → s ≡ 2 * t → d * s + suc d * s ≡ 2 * ((2 * d + 1) * t)
halves d t s e = omega (arith, ap (λ (x : ℕ). d * x) e)

less_half : (d p s t : ℕ) → suc d ≡ 4 * p → s ≡ 2 * t → 2 * p * s - t ≡ d * t
less_half d p s t h e = omega (arith, ap (λ (x : ℕ). x * t) h, ap (λ (x : ℕ). 2 * p * x) e)

module _ (f : ℕ) (some : 1 ≤ f) where
  -- k + 3 is the exponent field of infinity: m is the largest finite one, suc m infinity
  twice_bound : (k m : ℕ) → suc m ≡ (k + 3) * 2 ^ f → magnitude f m + magnitude f (suc m) ≡ 2 * ((4 * 2 ^ f - 1) * 2 ^ k)
  twice_bound k m h =
      let d = 2 * 2 ^ f - 1 in
      let p = pow_pos f in
      ap₂ ◌+◌ (ap (magnitude f) (omega arith) ∙ magnitude_high f (suc k) d (omega arith) (omega arith)) (ap (magnitude f) (omega arith) ∙ magnitude_high f (suc k) (suc d) (omega arith) (omega arith))
      ∙ halves d (2 ^ k) (2 ^ suc k) (pow-succ' 2 k)
      ∙ ap (λ (x : ℕ). 2 * (x * 2 ^ k)) (omega arith)

  reaches : (n k m : ℕ) → suc m ≡ (k + 3) * 2 ^ f → (suc m ≤ round f n) ↔ ((4 * 2 ^ f - 1) * 2 ^ k ≤ n)
  reaches n k m h =
      let o : suc m % 2 ≡ 0 = omega (arith, even_pow f some, ap (λ (x : ℕ). (k + 3) * x) (even_pow f some)) in
      let c = le_round f some n m in
      (λ l. omega (arith, c.0 l, twice_bound k m h), λ l. c.1 (omega (arith, twice_bound k m h)))

module _ (f e : ℕ) (some : 1 ≤ f) (two : 2 ≤ e) where
  abbrev s : ℕ
  s = sign f e

  overflow : (n : ℕ) → (infinity f e ≤ round f n) ↔ (bound f e ≤ n)
  unfolding infinity bound
  overflow n =
      let k = 2 ^ e - 4 in
      let l : 4 ≤ 2 ^ e = pow_mono {i = 2} two in
      let z : 2 ^ e - 1 ≡ k + 3 = omega arith in
      let i : (2 ^ e - 1) * 2 ^ f ≡ (k + 3) * 2 ^ f = ap (λ (x : ℕ). x * 2 ^ f) z in
      let c = reaches f some n k ((k + 3) * 2 ^ f - 1) (omega (arith, pow_pos f)) in
      let v : magnitude f ((2 ^ e - 1) * 2 ^ f) ≡ 2 * 2 ^ f * 2 ^ suc k = ap (magnitude f) (i ∙ omega arith) ∙ magnitude_high f (suc k) (2 * 2 ^ f) (omega (arith, pow_pos f)) (omega arith) in
      let w : magnitude f ((2 ^ e - 1) * 2 ^ f) - 2 ^ k ≡ (4 * 2 ^ f - 1) * 2 ^ k = ap (λ (x : ℕ). x - 2 ^ k) v ∙ less_half (4 * 2 ^ f - 1) (2 ^ f) (2 ^ suc k) (2 ^ k) (omega (arith, pow_pos f)) (pow-succ' 2 k) in
      (λ h. omega (arith, c.0 (omega (arith, pow_pos f))), λ h. omega (arith, c.1 (omega arith)))

  -- p - n units are at least zero
  up : (p n : ℕ) → n ≤ p → (Finite f e (rounded f e p n) → ⊥) ↔ (bound f e ≤ p - n)
  up p n h =
      let c = infinity_lt_sign f e in
      let r = rounded_up f e some p n h in
      let o = overflow (p - n) in (
        λ no. elim (le_or_lt (infinity f e) (round f (p - n))) [
          | inl l ↦ o.0 l
          | inr l ↦ absurd (no (record { low = omega arith; high = omega arith }))
        ],
        λ b y. let l = o.1 b in omega (arith, y.high),
      )

  rounded_overflow : (p n : ℕ) → (Finite f e (rounded f e p n) → ⊥) ↔ (bound f e ≤ distance p n)
  rounded_overflow p n = elim (le_or_lt n p) [
    | inl h ↦ let u = up p n h in (λ no. omega (arith, u.0 no), λ b. u.1 (omega arith))
    | inr h ↦ let u = up n p (omega arith) in (λ no. omega (arith, u.0 (λ y. no (mirror_rounded f e some n p y))), λ b y. u.1 (omega arith) (mirror_rounded f e some p n y))
  ]

  pub no_finite_sum : (x a : ℕ) → (Finite f e (sum f e x a) → ⊥) ↔ (bound f e ≤ distance (gains f e x a) (losses f e x a))
  unfolding sum
  no_finite_sum x a = rounded_overflow (gains f e x a) (losses f e x a)

-- ---- 01's figures: the units are 2^-149 and 2^-1074
pub no_finite_sum_32 : (x a : ℕ) → (Finite 23 8 (sum 23 8 x a) → ⊥) ↔ ((2 ^ 128 - 2 ^ 103) * 2 ^ 149 ≤ distance (gains 23 8 x a) (losses 23 8 x a))
unfolding bound magnitude infinity
no_finite_sum_32 x a = no_finite_sum 23 8 (lit≤ tt) (lit≤ tt) x a

pub no_finite_sum_64 : (x a : ℕ) → (Finite 52 11 (sum 52 11 x a) → ⊥) ↔ ((2 ^ 1024 - 2 ^ 970) * 2 ^ 1074 ≤ distance (gains 52 11 x a) (losses 52 11 x a))
unfolding bound magnitude infinity
no_finite_sum_64 x a = no_finite_sum 52 11 (lit≤ tt) (lit≤ tt) x a
