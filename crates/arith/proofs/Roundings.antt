-- The rounding of a number of units: an exact one, one by its kept digits and the rest, and one of whose low digits only a sticky bit is kept. Rests on `ladder`'s Digits, Magnitude, Rounding, Nearest, Multiples and Sticky.
use Rattle.std.proofs.Common.{◌≡◌, ℕ, suc, ◌+◌, ◌-◌, ◌*◌, ◌/◌, ◌%◌, ◌^◌, ◌<◌, ◌≤◌, Bool, true, false, eqb, sym, refl, ap, ◌∙◌, subst, ap₂, inl, inr, true≢false, le_trans, le_of_eq, mul-le-mul_right, mod-lt, div-lt_iff_lt-mul, mul-le-mul_left, mul-lt-mul_of_pos_right, mul-pos, div-add-mod', arith, pow_pos, pow_mono, pow-add, eq-eqb, ne_eqb, eqb-true}
use Prim.Native.Nat.{Ordering}
use native.Mathlib.Nat.{eq_of_mul-eq-mul_right}
use native.Mathlib.Nat.{mod-eq-zero_of_dvd, pow-succ'}
use lib.Arith.{digits_mod}
use lib.Ieee.{size, nearest}
use lib.Ieee.Digits.{size-lt, size-le, size_reaches}
use lib.Ieee.Nearest.{closest}
use borrow.Author.Tests.{eqb-false}
use Rattle.ladder.specs.Magnitude.{magnitude}
use Rattle.ladder.specs.Rounding.{excess, round}
use Rattle.ladder.specs.Nearest.{NearestSize}
use Rattle.ladder.proofs.Cases.{le_or_lt, trichotomy, equal_or_not, Compares, compare_is}
use Rattle.ladder.proofs.Digits.{shifted_lt, shifted_ge, size_scale}
use Rattle.ladder.proofs.Magnitude.{magnitude_is, magnitude_small, magnitude_shift}
use Rattle.ladder.proofs.Rounding.{round_mono, round_magnitude}
use Rattle.ladder.proofs.Multiples.{magnitude_dvd, times_dvd}
use Rattle.ladder.proofs.Sticky.{round_sticky, round_scale}
use Rattle.ladder.proofs.Nearest.{round_nearest_size}
use Rattle.arith.specs.declared.sum.Exact.{Exact}
use Rattle.arith.specs.declared.sum.Scaled.{Scaled}
use Rattle.arith.specs.declared.sum.Rounded.{Rounded}
use Rattle.arith.specs.declared.sum.Rounding.{Rounding}
use Rattle.arith.specs.Exacts.{size_of, leading_of, kept_of, rounding_of, Alike, same, sticky, Scales, Fraction}
use Rattle.arith.specs.Steps.{RoundsUnits, Rounds}

pub same_eqb : (a b c d : ℕ) → (a ≡ b → c ≡ d) → (c ≡ d → a ≡ b) → eqb a b ≡ eqb c d
same_eqb a b c d p q = elim (equal_or_not a b) [
  | inl e ↦ eq-eqb a b e ∙ sym (eq-eqb c d (p e))
  | inr n ↦ ne_eqb a b n ∙ sym (ne_eqb c d (λ e. n (q e)))
]

rounding_is : (f n p : ℕ) (b : Bool) → round f n ≡ p → eqb (magnitude f (round f n)) n ≡ b → record { m = p; exact = b } ≡ rounding_of f n
unfolding rounding_of
rounding_is f n p b h g = sym (ap₂ (λ (x : ℕ) (y : Bool). record { m = x; exact = y }) h g)

-- ---- what a rounded number tells
module _ (f n : ℕ) (r : Rounded) (R : r ≡ rounding_of f n) where
  pub rounded_m : r.m ≡ round f n
  unfolding rounding_of
  rounded_m = ap (λ (z : Rounded). z.m) R

  pub rounded_exact : r.exact ≡ eqb (magnitude f r.m) n
  unfolding rounding_of
  rounded_exact = ap (λ (z : Rounded). z.exact) R ∙ ap (λ (z : ℕ). eqb (magnitude f z) n) (sym rounded_m)

  pub lossless : r.exact ≡ true → magnitude f r.m ≡ n
  lossless e = eqb-true _ _ (sym rounded_exact ∙ e)

  pub lossy : r.exact ≡ false → magnitude f r.m ≡ n → ⊥
  lossy e = eqb-false _ _ (sym rounded_exact ∙ e)

-- ---- nothing is lost
rounding_exact : (f m n : ℕ) → 1 ≤ f → magnitude f m ≡ n → record { m = m; exact = true } ≡ rounding_of f n
rounding_exact f m n some e =
    let r : round f n ≡ m = ap (round f) (sym e) ∙ round_magnitude f some m in
    rounding_is f n m true r (eq-eqb _ _ (ap (magnitude f) r ∙ e))

-- ---- digits below those that an m keeps
pub inexact : (f j a b m : ℕ) → 2 ^ f ≤ a → 0 < b → b < 2 ^ j → magnitude f m ≡ a * 2 ^ j + b → ⊥
inexact f j a b m big B l e =
    let g : 2 ^ (j + f) ≤ magnitude f m = omega (arith, pow-add 2 j f, mul-le-mul_right (2 ^ j) big) in
    let z : (a * 2 ^ j + b) % 2 ^ j ≡ 0 = ap (λ (x : ℕ). x % 2 ^ j) (sym e) ∙ mod-eq-zero_of_dvd (2 ^ j) (magnitude_dvd f m j g) in
    omega (arith, digits_mod a l)

rounding_sticky : (f j a b c : ℕ) → 1 ≤ f → 2 * 2 ^ f ≤ a → 0 < b → b < 2 ^ j → 0 < c → c < 2 ^ j → rounding_of f (a * 2 ^ j + b) ≡ rounding_of f (a * 2 ^ j + c)
rounding_sticky f j a b c some big B B' C C' =
    let no : (d : ℕ) → 0 < d → d < 2 ^ j → eqb (magnitude f (round f (a * 2 ^ j + d))) (a * 2 ^ j + d) ≡ false = λ d D D'. ne_eqb _ _ (inexact f j a d (round f (a * 2 ^ j + d)) (omega arith) D D') in
    sym (rounding_is f (a * 2 ^ j + b) (round f (a * 2 ^ j + c)) false (round_sticky f some j a b c big B B' C C') (no b B B'))
    ∙ rounding_is f (a * 2 ^ j + c) (round f (a * 2 ^ j + c)) false refl (no c C C')

pub rounding_alike : (f n m : ℕ) → 1 ≤ f → Alike f n m → rounding_of f n ≡ rounding_of f m
rounding_alike f n m some (same e) = ap (rounding_of f) e
rounding_alike f n m some (sticky j a b c big B B' C C' N M) = ap (rounding_of f) N ∙ rounding_sticky f j a b c some big B B' C C' ∙ sym (ap (rounding_of f) M)

-- by a scaled number that rounds as t does: the formula, and that none is nearer
pub rounds : (f : ℕ) (t : Exact) (s : Scaled) (r : Rounding) → 1 ≤ f → Scales f t s → RoundsUnits f s.significand s.shift r → Rounds f t r
unfolding rounding_of
rounds f t s r some S R =
    let e = R.is ∙ rounding_alike f _ _ some S.alike in
    record {
      is = e;
      nearest = subst (NearestSize f (size_of t)) (sym (rounded_m f (size_of t) r.result e)) (round_nearest_size f (size_of t) some);
      kept = R.kept;
      coarser = λ x. le_trans S.fine (R.coarser x);
    }

-- ---- the quotient
quotient_few : (j k n : ℕ) → n < 2 ^ (j + k) → n / 2 ^ k < 2 ^ j
quotient_few j k n h = (div-lt_iff_lt-mul (pow_pos k)).1 (omega (arith, pow-add 2 j k))

-- rounded, by how twice the rest compares
closest_at : (n d : ℕ) (o : Ordering) → Compares o (n % d * 2) d → closest n d ≡ nearest (n / d) o
closest_at n d o h = ap (nearest (n / d)) (compare_is (n % d * 2) d o h)

-- at most one up
closest_near : (n d : ℕ) → (n / d ≤ closest n d) × (closest n d ≤ n / d + 1)
closest_near n d = elim (trichotomy (n % d * 2) d) [
  | inl l ↦ let e = closest_at n d Ordering.lt l in (omega arith, omega arith)
  | inr o ↦ elim o [
    | inl z ↦ let e = closest_at n d Ordering.eq z in (omega arith, omega arith)
    | inr g ↦ let e = closest_at n d Ordering.gt g in (omega arith, omega arith)
  ]
]

-- ---- what `round_leading` makes of n: q is kept, and rest goes
pub rest_fits : (f n rest : ℕ) → rest ≡ n % 2 ^ (63 - f) → rest < 2 ^ 63
rest_fits f n rest R = omega (arith, mod-lt n (pow_pos (63 - f)), pow_mono {i = 63 - f} {j = 63} (omega arith))

pub significand_fits : (f n q : ℕ) → Fraction f → n < 2 ^ 64 → q ≡ n / 2 ^ (63 - f) → q < 2 ^ 53
significand_fits f n q ok word Q =
    let w : f + 1 + (63 - f) ≡ 64 = omega (arith, ok.1) in
    omega (arith, quotient_few (f + 1) (63 - f) n (omega (arith, ap (λ (x : ℕ). 2 ^ x) w)), pow_mono {i = f + 1} {j = 53} (omega (arith, ok.1)))

-- ---- n has f + 1 + k digits, and stands for n * 2 ^ s
module _ (f n s k : ℕ) (long : size n ≡ f + 1 + k) where
  reaches : 2 ^ f * 2 ^ k ≤ n
  reaches = omega (arith, pow-add 2 f k, size_reaches n (f + k) (omega arith))

  kept_big : 2 ^ f ≤ n / 2 ^ k
  kept_big = (native.Mathlib.Nat.le-div_iff_mul-le (pow_pos k)).1 reaches

  kept_few : n / 2 ^ k < 2 * 2 ^ f
  kept_few =
      let e : size n ≡ suc f + k = omega arith in
      omega (arith, quotient_few (suc f) k n (omega (arith, size-lt n, ap (λ (x : ℕ). 2 ^ x) e)), pow-succ' 2 f)

  round_long : round f (n * 2 ^ s) ≡ (s + k) * 2 ^ f + closest n (2 ^ k)
  unfolding round excess
  round_long =
      let l : 2 ^ f ≤ n = omega (arith, size_reaches n f (omega arith)) in
      let d : size n - suc f ≡ k = omega arith in
      round_scale f n s l ∙ ap (λ (x : ℕ). s * 2 ^ f + (x * 2 ^ f + closest n (2 ^ x))) d ∙ omega arith

  rest_inexact : 0 < n % 2 ^ k → eqb (magnitude f (round f (n * 2 ^ s))) (n * 2 ^ s) ≡ false
  rest_inexact p =
      ne_eqb _ _ (λ e. inexact f (k + s) (n / 2 ^ k) (n % 2 ^ k * 2 ^ s) (round f (n * 2 ^ s)) kept_big (mul-pos p (pow_pos s))
      (omega (arith, pow-add 2 k s, mul-lt-mul_of_pos_right (mod-lt n (pow_pos k)) (pow_pos s)))
      (e ∙ omega (arith, ap (λ (x : ℕ). x * 2 ^ s) (div-add-mod' n (2 ^ k)), ap (λ (x : ℕ). n / 2 ^ k * x) (pow-add 2 k s))))

  rest_none : n % 2 ^ k ≡ 0 → magnitude f ((s + k) * 2 ^ f + n / 2 ^ k) ≡ n * 2 ^ s
  rest_none z =
      magnitude_is f (s + k) (n / 2 ^ k) (inr kept_big) (omega (arith, kept_few))
      ∙ omega (arith, ap (λ (x : ℕ). x * 2 ^ s) (div-add-mod' n (2 ^ k)), ap (λ (x : ℕ). x * 2 ^ s) z, ap (λ (x : ℕ). n / 2 ^ k * x) (pow-add 2 s k))

  -- nothing is lost exactly where there is no rest
  rest_tells : 1 ≤ f → eqb (magnitude f (round f (n * 2 ^ s))) (n * 2 ^ s) ≡ eqb (n % 2 ^ k) 0
  rest_tells some = elim (le_or_lt (n % 2 ^ k) 0) [
    | inl l ↦
        let z : n % 2 ^ k ≡ 0 = omega arith in
        let r : round f (n * 2 ^ s) ≡ (s + k) * 2 ^ f + n / 2 ^ k = ap (round f) (sym (rest_none z)) ∙ round_magnitude f some ((s + k) * 2 ^ f + n / 2 ^ k) in
        eq-eqb _ _ (ap (magnitude f) r ∙ rest_none z) ∙ sym (eq-eqb _ _ z)
    | inr p ↦ rest_inexact p ∙ sym (ne_eqb (n % 2 ^ k) 0 (λ e. omega (arith, e)))
  ]

  long_is : 1 ≤ f → record { m = (s + k) * 2 ^ f + closest n (2 ^ k); exact = eqb (n % 2 ^ k) 0 } ≡ rounding_of f (n * 2 ^ s)
  long_is some = rounding_is f (n * 2 ^ s) ((s + k) * 2 ^ f + closest n (2 ^ k)) (eqb (n % 2 ^ k) 0) round_long (rest_tells some)

  -- what is kept is a significand, or one past it
  closest_value : (e : ℕ) → closest n (2 ^ k) * 2 ^ e ≡ magnitude f (e * 2 ^ f + closest n (2 ^ k))
  closest_value e = let c = closest_near n (2 ^ k) in sym (magnitude_is f e (closest n (2 ^ k)) (inr (omega (arith, kept_big))) (omega (arith, kept_few)))

-- ---- a shift of a number that has all its digits
-- N is n * 2 ^ z, and rounds to z binades more
shifted_back : (f n z N p q : ℕ) (b : Bool) → 1 ≤ f → 2 ^ f ≤ n → N ≡ n * 2 ^ z → q ≡ z * 2 ^ f + p → record { m = q; exact = b } ≡ rounding_of f N → record { m = p; exact = b } ≡ rounding_of f n
unfolding rounding_of
shifted_back f n z N p q b some big X Q h =
    let P : q ≡ round f N = ap (λ (x : Rounded). x.m) h in
    let B : b ≡ eqb (magnitude f (round f N)) N = ap (λ (x : Rounded). x.exact) h in
    let r : round f N ≡ z * 2 ^ f + round f n = ap (round f) X ∙ round_scale f n z big in
    let full : 2 ^ f ≤ round f n = le_trans (le_of_eq (sym (round_magnitude f some (2 ^ f)) ∙ ap (round f) (magnitude_small f (2 ^ f) (omega arith)))) (round_mono f some (2 ^ f) n big) in
    let v : magnitude f (round f N) ≡ magnitude f (round f n) * 2 ^ z = ap (magnitude f) r ∙ magnitude_shift f z (round f n) full in
    let same = same_eqb (magnitude f (round f n)) n (magnitude f (round f N)) N (λ e. v ∙ ap (λ (x : ℕ). x * 2 ^ z) e ∙ sym X)
    (λ e. eq_of_mul-eq-mul_right (2 ^ z) (pow_pos z) (magnitude f (round f n)) n (sym v ∙ e ∙ X))
    in
    rounding_is f n p b (omega arith) (same ∙ sym B)

-- ---- words have room for n, shifted, and for its digits
module _ (f n s : ℕ) (ok : Fraction f) (word : n < 2 ^ 64) (h : s * 2 ^ f ≤ 2 ^ 63) where
  pub digits_fit : size n ≤ 64
  digits_fit = size-le n 64 word

  pub shift_fits : s ≤ 2 ^ 62
  shift_fits = omega (arith, mul-le-mul_left s (pow_mono {i = 1} ok.0))

  pub leading_fits : n * 2 ^ (64 - size n) < 2 ^ 64
  leading_fits = shifted_lt n (64 - size n) 64 (omega (arith, digits_fit))

  pub excess_fits : (d : ℕ) → d ≤ size n + s → d * 2 ^ f ≤ 2 ^ 63 + 2 ^ 62
  excess_fits d l = omega (arith, mul-le-mul_right {m = d} {n = s + 64} (2 ^ f) (omega (arith, digits_fit)), pow_mono {j = 52} ok.1)

-- ---- what `round_units` makes of n, which stands for n * 2 ^ s
module _ (f n s : ℕ) (ok : Fraction f) where
  -- every digit is kept
  all_kept : (p : ℕ) → p ≡ n * 2 ^ s → p < 2 * 2 ^ f → RoundsUnits f n s (kept_of p)
  all_kept p e l =
      let v = magnitude_small f p (omega arith) in
      record { is = rounding_exact f p (n * 2 ^ s) ok.0 (v ∙ e); kept = omega arith; coarser = λ x. absurd (true≢false x) }

  pub units_zero : n ≡ 0 → (r : Rounding) → r ≡ kept_of 0 → RoundsUnits f n s r
  units_zero z r R = rw R (all_kept 0 (omega (arith, ap (λ (x : ℕ). x * 2 ^ s) z)) (omega (arith, pow_pos f)))

  -- at most f + 1 digits
  pub units_few : (p : ℕ) → p ≡ n * 2 ^ s → size n + s ≤ f + 1 → (r : Rounding) → r ≡ kept_of p → RoundsUnits f n s r
  units_few p e h r R =
      let g : size n + s ≤ suc f = omega arith in
      rw R (all_kept p e (omega (arith, shifted_lt n s (suc f) g, pow-succ' 2 f)))

  -- more, with the first digit on top of a word
  module _ (pos : 0 < n) (word : n < 2 ^ 64) (more : f + 1 < size n + s) where
    abbrev z : ℕ
    z = 64 - size n

    abbrev k : ℕ
    k = 63 - f

    abbrev e : ℕ
    e = size n + s - (f + 1)

    abbrev N : ℕ
    N = n * 2 ^ z

    top : size N ≡ f + 1 + k
    top = size_scale n z pos ∙ omega (arith, ok.1, size-le n 64 word)

    many_is : (leading_of f N e).result ≡ rounding_of f (n * 2 ^ s)
    many_is =
        let few = size-le n 64 word in
        let E : s + k ≡ z + e = omega (arith, ok.1) in
        shifted_back f (n * 2 ^ s) z (N * 2 ^ s) (e * 2 ^ f + closest N (2 ^ k)) ((s + k) * 2 ^ f + closest N (2 ^ k)) (eqb (N % 2 ^ k) 0) ok.0 (shifted_ge n s f pos (omega arith))
        (omega arith) (omega (arith, ap (λ (x : ℕ). x * 2 ^ f) E)) (long_is f N s k top ok.0)

    -- a rest is left only where n has more digits than are kept
    many_coarser : eqb (N % 2 ^ k) 0 ≡ false → s ≤ e
    many_coarser x = elim (le_or_lt (f + 1) (size n)) [
      | inl l ↦ omega arith
      | inr l ↦ absurd (eqb-false _ _ x (mod-eq-zero_of_dvd (2 ^ k) (times_dvd k z n (omega (arith, ok.1)))))
    ]

    pub units_many : (r : Rounding) → r ≡ leading_of f N e → RoundsUnits f n s r
    units_many r R = rw R (record { is = many_is; kept = closest_value f N s k top e; coarser = many_coarser })
