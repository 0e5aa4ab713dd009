-- Rounding gives the m nearest to a number of units, whatever its exponent, and the sum is the finite float nearest to the exact sum; at equal distance each is even, and no other is. Assumes nothing.
use mathlib.Core.Path.{◌≡◌, refl, sym, ap, ◌∙◌}
use mathlib.Core.Logic.{◌≢◌, inl, inr}
use Prim.Native.Nat.{ℕ, ◌+◌, ◌-◌, ◌*◌, ◌<◌, ◌≤◌}
use native.Mathlib.Omega.{arith}
use Rattle.ladder.specs.Magnitude.{magnitude}
use Rattle.ladder.specs.Rounding.{round}
use Rattle.ladder.specs.Ordinal.{sign, above, below, Finite, mirrored}
use Rattle.ladder.specs.Sum.{rounded, gains, losses, sum}
use Rattle.ladder.specs.Nearest.{distance, NearestEven, Any, NearestSize, error, Nearest}
use Rattle.ladder.proofs.Cases.{le_or_lt, trichotomy}
use Rattle.ladder.proofs.Magnitude.{magnitude_lt, magnitude_zero}
use Rattle.ladder.proofs.Rounding.{round_nearest, round_even}
use Rattle.ladder.proofs.Ordinals.{order, sign_even, above_none, below_none, mirror_finite, finite_twice}
use Rattle.ladder.proofs.Sum.{rounded_up, rounded_mirror, mirror_rounded, above_mirror, below_mirror}

-- ---- at most one candidate is nearest
-- of two that are equally far, with one between them, that one is nearer
between : (a b c d x y : ℕ) → a + d < c + b → c + y < x + d → distance a b ≡ distance x y → distance c d < distance a b
between a b c d x y l m s = omega arith

-- u y - v y grows with y, and its size is the error of y; from one candidate to another every number is one
module _ (Candidate : ℕ → Type 0) (u v : ℕ → ℕ) (grows : (r s : ℕ) → r < s → u r + v s < u s + v r) (next : (r s : ℕ) → Candidate r → Candidate s → r < s → Candidate (r + 1)) where
  abbrev away : ℕ → ℕ
  away y = distance (u y) (v y)

  -- two different ones would be even, so with a candidate between them, which is nearer
  not_less : (r s : ℕ) → NearestEven Candidate away r → NearestEven Candidate away s → r < s → ⊥
  not_less r s h k l =
      let same : away r ≡ away s = omega (arith, h.nearest s k.candidate, k.nearest r h.candidate) in
      let even-r = h.even s k.candidate (λ z. omega arith) (sym same) in
      let even-s = k.even r h.candidate (λ z. omega arith) same in
      let first = grows r (r + 1) (omega arith) in
      let second = grows (r + 1) s (omega (arith, even-r, even-s)) in
      let near = between (u r) (v r) (u (r + 1)) (v (r + 1)) (u s) (v s) first second same in
      omega (arith, near, h.nearest (r + 1) (next r s h.candidate k.candidate l))

  once : (r s : ℕ) → NearestEven Candidate away r → NearestEven Candidate away s → r ≡ s
  once r s h k = elim (trichotomy r s) [
    | inl l ↦ absurd (not_less r s h k l)
    | inr o ↦ elim o [ inl z ↦ z | inr g ↦ absurd (not_less s r k h g) ]
  ]

-- ---- as if no exponent were too large
pub round_nearest_size : (f n : ℕ) → 1 ≤ f → NearestSize f n (round f n)
round_nearest_size f n some = record {
  candidate = tt;
  nearest = λ m M. omega (arith, round_nearest f some n m);
  even = λ m M ne same. round_even f some n m ne (omega arith);
}

pub nearest_size_unique : (f n r s : ℕ) → NearestSize f n r → NearestSize f n s → r ≡ s
nearest_size_unique f n = once Any (magnitude f) (λ (m : ℕ). n) (λ r s l. omega (arith, magnitude_lt f r s l)) (λ r s R S l. tt)

-- ---- of the finite floats
module _ (f e : ℕ) (some : 1 ≤ f) where
  abbrev s : ℕ
  s = sign f e

  -- how far an ordinal is from p - n units, which are not below zero
  error_up : (p n y : ℕ) → n ≤ p → s ≤ y → error f e p n y ≡ distance (p - n) (magnitude f (y - s))
  unfolding error
  error_up p n y h l = omega (arith, below_none f e y l)

  error_down : (p n y : ℕ) → n ≤ p → y ≤ s → error f e p n y ≡ p - n + magnitude f (s - y)
  unfolding error
  error_down p n y h l = omega (arith, above_none f e y l)

  -- p - n units are at least zero
  up : (p n : ℕ) → n ≤ p → Finite f e (rounded f e p n) → Nearest f e p n (rounded f e p n)
  up p n h fin = record {
    candidate = fin;
    nearest = λ y Y. elim (le_or_lt s y) [
      | inl l ↦ omega (arith, here, error_up p n y h l, round_nearest f some (p - n) (y - s))
      | inr l ↦ omega (arith, here, error_down p n y h (omega arith), round_nearest f some (p - n) 0, magnitude_zero f 0 refl)
    ];
    even = λ y Y ne same. elim (le_or_lt s y) [
      | inl l ↦
          let m : y - s ≢ round f (p - n) = λ z. ne (omega (arith, is)) in
          let z = round_even f some (p - n) (y - s) m (omega (arith, here, error_up p n y h l)) in
          omega (arith, is, sign_even f e some)
      | inr l ↦
          let pos = magnitude_lt f 0 (s - y) (omega arith) in
          absurd (omega (arith, here, error_down p n y h (omega arith), round_nearest f some (p - n) 0, magnitude_zero f 0 refl))
    ];
  }
    where
      is : rounded f e p n ≡ s + round f (p - n)
      is = let r = rounded_up f e some p n h in omega (arith, fin.high)

      here : error f e p n (rounded f e p n) ≡ distance (p - n) (magnitude f (round f (p - n)))
      here = error_up p n (rounded f e p n) h (omega (arith, is)) ∙ ap (λ (z : ℕ). distance (p - n) (magnitude f z)) (omega (arith, is))

  error_mirror : (p n y : ℕ) → y ≤ 2 * s → error f e n p (mirrored f e y) ≡ error f e p n y
  unfolding error
  error_mirror p n y h = omega (arith, above_mirror f e some y, below_mirror f e some y h)

  -- what is nearest to n - p units, mirrored, is nearest to p - n units
  turned : (p n r : ℕ) → Nearest f e n p r → Nearest f e p n (mirrored f e r)
  turned p n r h =
      let R = h.candidate in
      let er = error_mirror n p r (finite_twice f e r R) in
      record {
        candidate = mirror_finite f e r R;
        nearest = λ y Y. omega (arith, er, error_mirror p n y (finite_twice f e y Y), h.nearest (mirrored f e y) (mirror_finite f e y Y));
        even = λ y Y ne same.
            let d = finite_twice f e y Y in
            let z = h.even (mirrored f e y) (mirror_finite f e y Y) (λ z. ne (omega (arith, finite_twice f e r R))) (omega (arith, er, error_mirror p n y d)) in
            omega (arith, sign_even f e some, finite_twice f e r R);
      }

  rounded_nearest : (p n : ℕ) → Finite f e (rounded f e p n) → Nearest f e p n (rounded f e p n)
  rounded_nearest p n fin = elim (le_or_lt n p) [
    | inl h ↦ up p n h fin
    | inr h ↦
        let R = mirror_rounded f e some p n fin in
        rw (rounded_mirror f e some n p) (turned p n (rounded f e n p) (up n p (omega arith) R))
  ]

  pub sum_nearest : (x a : ℕ) → Finite f e (sum f e x a) → Nearest f e (gains f e x a) (losses f e x a) (sum f e x a)
  unfolding sum
  sum_nearest x a = rounded_nearest (gains f e x a) (losses f e x a)

  pub nearest_unique : (p n r s : ℕ) → Nearest f e p n r → Nearest f e p n s → r ≡ s
  unfolding error
  nearest_unique p n =
      once (Finite f e) (λ (r : ℕ). above f e r + n) (λ (r : ℕ). p + below f e r) (λ r s l. omega (arith, (order f e r s).0 l))
      (λ r s R S l. record { low = omega (arith, R.low); high = omega (arith, S.high) })
