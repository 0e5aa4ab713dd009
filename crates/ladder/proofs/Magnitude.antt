-- The exact value of m: it counts q * 2^k in the binade of step 2^k, up to and with the next binade's first m, and grows strictly with m. Assumes nothing.
use mathlib.Core.Path.{◌≡◌, refl, ap, ◌∙◌, subst}
use mathlib.Core.Logic.{◌⊎◌, inl, inr}
use Prim.Native.Nat.{ℕ, zero, suc, ◌+◌, ◌-◌, ◌*◌, ◌/◌, ◌%◌, ◌^◌, ◌≤◌, ◌<◌}
use native.Mathlib.Nat.{eq-or-lt_of_le, le_of_suc-le-suc, mod-lt, div-add-mod', not-suc-le-zero, lt_trans, pow-succ', le_of_eq, le_of_lt, lt_of_not-le, not-le_of_lt}
use native.Mathlib.Omega.{arith}
use lib.Arith.{digits_div, digits_mod}
use lib.Pow.{pow_pos, pow-add, shr_mono}
use Rattle.ladder.specs.Magnitude.{scaled, magnitude, shift, significand}
use Rattle.ladder.proofs.Cases.{le_or_lt}

-- by the exponent field and the fraction
magnitude_at : (f k t : ℕ) → t < 2 ^ f → magnitude f (k * 2 ^ f + t) ≡ scaled (2 ^ f) k t
unfolding magnitude
magnitude_at f k t l = rw (digits_div k l, digits_mod k l)

magnitude_low : (f m : ℕ) → m < 2 ^ f → magnitude f m ≡ m
magnitude_low f m l = ap (magnitude f) (omega arith) ∙ magnitude_at f 0 m l

-- a binade's step is 2^k; its end, the next power of two, is counted in
pub magnitude_high : (f k q : ℕ) → 2 ^ f ≤ q → q ≤ 2 * 2 ^ f → magnitude f (k * 2 ^ f + q) ≡ q * 2 ^ k
magnitude_high f k q a b = elim (eq-or-lt_of_le b) [
  | inl e ↦ ap (magnitude f) (omega arith) ∙ magnitude_at f (suc (suc k)) 0 (pow_pos f) ∙ omega (arith, ap (λ (x : ℕ). x * 2 ^ k) e, ap (λ (x : ℕ). 2 ^ f * x) (pow-succ' 2 k))
  | inr l ↦ ap (magnitude f) (omega arith) ∙ magnitude_at f (suc k) (q - 2 ^ f) (omega arith) ∙ ap (λ (x : ℕ). x * 2 ^ k) (omega arith)
]

-- a significand q with steps of 2^k: it is normal, or the step is one unit
abbrev pub Counted : ℕ → ℕ → ℕ → Type 0
Counted h k q = (k ≡ 0) ⊎ (h ≤ q)

pub counted_suc : (h k q : ℕ) → Counted h k q → Counted h k (suc q)
counted_suc h k q (inl e) = inl e
counted_suc h k q (inr l) = inr (omega arith)

pub counted_more : {h k p q : ℕ} → Counted h k p → p ≤ q → Counted h k q
counted_more (inl e) l = inl e
counted_more (inr g) l = inr (omega arith)

pub magnitude_is : (f k q : ℕ) → Counted (2 ^ f) k q → q ≤ 2 * 2 ^ f → magnitude f (k * 2 ^ f + q) ≡ q * 2 ^ k
magnitude_is f k q (inr a) b = magnitude_high f k q a b
magnitude_is f k q (inl e) b = elim (le_or_lt (2 ^ f) q) [
  | inl a ↦ magnitude_high f k q a b
  | inr l ↦ rw e (ap (magnitude f) (omega arith) ∙ magnitude_low f q l ∙ omega arith)
]

-- up to the end of the first normal binade the step is one unit
pub magnitude_small : (f q : ℕ) → q ≤ 2 * 2 ^ f → magnitude f q ≡ q
magnitude_small f q h = ap (magnitude f) (omega arith) ∙ magnitude_is f 0 q (inl refl) h ∙ omega arith

-- ---- m taken apart
pub record Parts (f m k q : ℕ) : Type 0 where
  pub is : m ≡ k * 2 ^ f + q
  pub counted : Counted (2 ^ f) k q
  pub below : q < 2 * 2 ^ f

pub parts : (f m : ℕ) → Parts f m (shift f m) (significand f m)
unfolding shift significand
parts f m = go (m / 2 ^ f) (m % 2 ^ f) (div-add-mod' m (2 ^ f)) (mod-lt m (pow_pos f))
  where
    go : (d t : ℕ) → d * 2 ^ f + t ≡ m → t < 2 ^ f → Parts f m (d - 1) (m - (d - 1) * 2 ^ f)
    go zero t e l = record { is = omega arith; counted = inl refl; below = omega arith }
    go (suc k) t e l =
        let z : k ≡ suc k - 1 = omega arith in
        subst (λ (s : ℕ). Parts f m s (m - s * 2 ^ f)) z (record { is = omega arith; counted = inr (omega arith); below = omega arith })

pub magnitude_parts : (f m : ℕ) → magnitude f m ≡ significand f m * 2 ^ shift f m
magnitude_parts f m = let p = parts f m in ap (magnitude f) p.is ∙ magnitude_is f (shift f m) (significand f m) p.counted (omega arith)

pub shift_le : (f m n : ℕ) → n ≤ m → shift f n ≤ shift f m
unfolding shift
shift_le f m n h = omega (arith, shr_mono f h)

-- t binades up
pub magnitude_shift : (f t m : ℕ) → 2 ^ f ≤ m → magnitude f (t * 2 ^ f + m) ≡ magnitude f m * 2 ^ t
magnitude_shift f t m h =
    let p = parts f m in
    let k = shift f m in
    let q = significand f m in
    let l : 2 ^ f ≤ q = elim p.counted [ inl e ↦ omega (arith, p.is, ap (λ (x : ℕ). x * 2 ^ f) e) | inr l ↦ l ] in
    ap (magnitude f) (omega (arith, p.is)) ∙ magnitude_is f (t + k) q (inr l) (omega (arith, p.below))
    ∙ omega (arith, ap (λ (x : ℕ). q * x) (pow-add 2 t k), ap (λ (x : ℕ). x * 2 ^ t) (magnitude_parts f m))

-- ---- one ulp up, and order
pub magnitude_suc : (f m : ℕ) → magnitude f (suc m) ≡ magnitude f m + 2 ^ shift f m
magnitude_suc f m =
    let p = parts f m in
    ap (magnitude f) (omega (arith, p.is))
    ∙ magnitude_is f (shift f m) (suc (significand f m)) (counted_suc (2 ^ f) (shift f m) (significand f m) p.counted) p.below
    ∙ omega (arith, magnitude_parts f m)

pub magnitude_lt : (f m m' : ℕ) → m < m' → magnitude f m < magnitude f m'
magnitude_lt f m zero h = absurd (not-suc-le-zero h)
magnitude_lt f m (suc m') h = elim (eq-or-lt_of_le (le_of_suc-le-suc h)) [
  | inl e ↦ rw e step
  | inr l ↦ lt_trans (magnitude_lt f m m' l) step
]
  where
    step : magnitude f m' < magnitude f (suc m')
    step = omega (arith, magnitude_suc f m', pow_pos (shift f m'))

pub magnitude_le : (f m m' : ℕ) → m ≤ m' → magnitude f m ≤ magnitude f m'
magnitude_le f m m' h = elim (eq-or-lt_of_le h) [ inl e ↦ le_of_eq (ap (magnitude f) e) | inr l ↦ le_of_lt (magnitude_lt f m m' l) ]

pub lt_of_magnitude : (f m m' : ℕ) → magnitude f m < magnitude f m' → m < m'
lt_of_magnitude f m m' h = lt_of_not-le (λ (g : m' ≤ m). not-le_of_lt h (magnitude_le f m' m g))

pub magnitude_zero : (f m : ℕ) → m ≡ 0 → magnitude f m ≡ 0
magnitude_zero f m e = ap (magnitude f) e ∙ magnitude_small f 0 (omega arith)

-- the value by the textbook's formula
pub magnitude_normal : (f m : ℕ) → 2 ^ f ≤ m → magnitude f m ≡ (2 ^ f + m % 2 ^ f) * 2 ^ (m / 2 ^ f - 1)
unfolding magnitude
magnitude_normal f m h = go (m / 2 ^ f) refl
  where
    go : (k : ℕ) → m / 2 ^ f ≡ k → scaled (2 ^ f) k (m % 2 ^ f) ≡ (2 ^ f + m % 2 ^ f) * 2 ^ (k - 1)
    go zero e = absurd (omega (arith, div-add-mod' m (2 ^ f), mod-lt m (pow_pos f), ap (λ (x : ℕ). x * 2 ^ f) e))
    go (suc k) e = ap (λ (x : ℕ). (2 ^ f + m % 2 ^ f) * 2 ^ x) (omega arith)
