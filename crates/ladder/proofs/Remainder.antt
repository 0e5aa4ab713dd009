-- What rounding leaves over of the sum of two floats is a float: exact x plus exact a is the sum plus the remainder, with nothing lost. Rests on Exactness, Grid and Nearest. Assumes nothing.
use mathlib.Core.Path.{◌≡◌, ap, ◌∙◌, subst}
use mathlib.Core.Logic.{◌↔◌, inl, inr}
use mathlib.Core.Bool.{Bool, true, false, cond}
use Prim.Native.Nat.{ℕ, ◌+◌, ◌-◌, ◌^◌, min, ◌≤◌, ◌<◌, ◌∣◌}
use native.Mathlib.Nat.{dvd-add, dvd-sub}
use native.Mathlib.Omega.{arith}
use Rattle.ladder.specs.Magnitude.{magnitude, shift, significand}
use Rattle.ladder.specs.Rounding.{round}
use Rattle.ladder.specs.Nearest.{distance, error}
use Rattle.ladder.specs.Ordinal.{sign, infinity, above, below, Finite}
use Rattle.ladder.specs.Sum.{rounded, gains, losses, sum}
use Rattle.ladder.specs.Remainder.{remainder, IsRemainder}
use Rattle.ladder.specs.Search.{Multiple}
use Rattle.ladder.proofs.Cases.{le_or_lt}
use Rattle.ladder.proofs.Magnitude.{parts, magnitude_parts}
use Rattle.ladder.proofs.Rounding.{round_mono, round_magnitude}
use Rattle.ladder.proofs.Ordinals.{infinity_lt_sign, above_none, below_none, determines, signed_value}
use Rattle.ladder.proofs.Sum.{rounded_value}
use Rattle.ladder.proofs.Skips.{step_dvd}
use Rattle.ladder.proofs.Nearest.{sum_nearest}
use Rattle.ladder.proofs.Exactness.{digits_lt, multiple_exact}
use Rattle.ladder.proofs.Grid.{up_multiple, down_multiple, multiple_sum}

module _ (f e : ℕ) (some : 1 ≤ f) where
  abbrev s : ℕ
  s = sign f e

  -- how far an ordinal is from zero's
  abbrev size : ℕ → ℕ
  size r = (r - s) + (s - r)

  -- ---- p - n units that are a finite float's value
  exact_signed : (b : Bool) (p n m : ℕ) → m < infinity f e → cond b 0 (magnitude f m) ≡ p - n → cond b (magnitude f m) 0 ≡ n - p
      → let t = rounded f e p n in Finite f e t × (p + below f e t ≡ n + above f e t)
  exact_signed true p n m h u d =
      let c = infinity_lt_sign f e in
      let v = signed_value f e true (s - m) m (omega arith) in
      let r = rounded_value f e some p n (s - m) (omega arith) (omega arith) (omega arith) in
      rw r (record { low = omega arith; high = omega arith }, omega arith)
  exact_signed false p n m h u d =
      let c = infinity_lt_sign f e in
      let v = signed_value f e false (s + m) m (omega arith) in
      let r = rounded_value f e some p n (s + m) (omega arith) (omega arith) (omega arith) in
      rw r (record { low = omega arith; high = omega arith }, omega arith)

  exact_rounded : (p n l : ℕ) → distance p n ≤ magnitude f l → l < infinity f e → magnitude f (round f (distance p n)) ≡ distance p n
      → let t = rounded f e p n in Finite f e t × (p + below f e t ≡ n + above f e t)
  exact_rounded p n l le i ex =
      let m = round f (distance p n) in
      let small : m ≤ l = subst (λ (y : ℕ). m ≤ y) (round_magnitude f some l) (round_mono f some (distance p n) (magnitude f l) le) in
      elim (le_or_lt n p) [
        | inl h ↦ exact_signed false p n m (omega arith) (ex ∙ omega arith) (omega arith)
        | inr h ↦ exact_signed true p n m (omega arith) (omega arith) (ex ∙ omega arith)
      ]

  -- ---- the sizes of operands
  finite_size : (r : ℕ) → Finite f e r → size r < infinity f e
  finite_size r R = elim (le_or_lt s r) [ inl h ↦ omega (arith, R.high) | inr h ↦ omega (arith, R.low) ]

  -- the value of r, up or down, is that of its size
  size_value : (r : ℕ) → distance (above f e r) (below f e r) ≡ magnitude f (size r)
  size_value r = elim (le_or_lt s r) [
    | inl h ↦ omega (arith, below_none f e r h, ap (magnitude f) (by_left (r - s) (s - r) (omega arith)))
    | inr h ↦ omega (arith, above_none f e r (omega arith), ap (magnitude f) (by_right (r - s) (s - r) (omega arith)))
  ]
    where
      by_left : (a b : ℕ) → b ≡ 0 → a + b ≡ a
      by_left a b z = omega arith

      by_right : (a b : ℕ) → a ≡ 0 → a + b ≡ b
      by_right a b z = omega arith

  -- a value no smaller than the value of l is a multiple of l's ulp
  size_multiple : (l r : ℕ) → l ≤ size r → Multiple f e (shift f l) r
  size_multiple l r h = elim (le_or_lt s r) [
    | inl g ↦ up_multiple f e some (shift f l) r g (step_dvd f l (r - s) (omega arith))
    | inr g ↦ down_multiple f e some (shift f l) r (omega arith) (step_dvd f l (s - r) (omega arith))
  ]

  -- ---- the remainder
  module _ (x a : ℕ) (X : Finite f e x) (A : Finite f e a) (fin : Finite f e (sum f e x a)) where
    abbrev y : ℕ
    y = sum f e x a

    abbrev up : ℕ
    up = gains f e x a + below f e y

    abbrev down : ℕ
    down = losses f e x a + above f e y

    -- the sum is no further from the exact one than an operand is, so what is left is no larger than the other operand
    left_le : distance up down ≤ magnitude f (min (size x) (size a))
    unfolding error
    left_le =
        let near = (sum_nearest f e some x a fin).nearest in
        let beside-x = beside (above f e x) (below f e x) (above f e a) (below f e a) _ _ _ _ (omega arith) (omega arith) (near x X) in
        let beside-a = beside (above f e a) (below f e a) (above f e x) (below f e x) _ _ _ _ (omega arith) (omega arith) (near a A) in
        elim (le_or_lt (size x) (size a)) [
          | inl h ↦ subst (λ (l : ℕ). distance up down ≤ magnitude f l) (omega arith) (rw (size_value x) at beside-a)
          | inr h ↦ subst (λ (l : ℕ). distance up down ≤ magnitude f l) (omega arith) (rw (size_value a) at beside-x)
        ]
      where
        -- of two parts, u - d and v - c, together p - n, the first is as far from that as the second from zero; i - j is no further
        other : (u d v c n p : ℕ) → n ≡ d + c → p ≡ u + v → distance (u + n) (p + d) ≡ distance v c
        other u d v c n p N P = omega arith

        turned : (i j n p w : ℕ) → distance (i + n) (p + j) ≤ w → distance (p + j) (n + i) ≤ w
        turned i j n p w h = omega arith

        beside : (u d v c n p i j : ℕ) → n ≡ d + c → p ≡ u + v → distance (i + n) (p + j) ≤ distance (u + n) (p + d) → distance (p + j) (n + i) ≤ distance v c
        beside u d v c n p i j N P h = turned i j n p (distance v c) (rw (other u d v c n p N P) at h)

    left_value : magnitude f (round f (distance up down)) ≡ distance up down
    left_value =
        let l = min (size x) (size a) in
        let k = shift f l in
        let mx = size_multiple l x (omega arith) in
        let ma = size_multiple l a (omega arith) in
        let my = multiple_sum f e some k x a mx ma fin in
        let du : 2 ^ k ∣ up = dvd-add (2 ^ k) (dvd-add (2 ^ k) mx.up ma.up) my.down in
        let dd : 2 ^ k ∣ down = dvd-add (2 ^ k) (dvd-add (2 ^ k) mx.down ma.down) my.up in
        multiple_exact f some (distance up down) k (dvd-add (2 ^ k) (dvd-sub (2 ^ k) du dd) (dvd-sub (2 ^ k) dd du))
        (omega (arith, left_le, magnitude_parts f l, digits_lt f (significand f l) k (parts f l).below))

    -- it exists, and is what the formula gives
    pub sum_remainder : IsRemainder f e x a y (remainder f e x a y)
    unfolding remainder
    sum_remainder =
        let l = min (size x) (size a) in
        let t = exact_rounded up down l left_le (omega (arith, finite_size x X, finite_size a A)) left_value in
        record { whole = omega (arith, t.1); finite = t.0 }

  -- no other float is one
  pub remainder_unique : (x a y r t : ℕ) → IsRemainder f e x a y r → IsRemainder f e x a y t → r ≡ t
  remainder_unique x a y r t h k = determines f e r t (omega (arith, h.whole, k.whole))

  -- it is zero exactly where y is the exact sum
  pub remainder_zero : (x a y r : ℕ) → IsRemainder f e x a y r → (r ≡ s) ↔ (above f e y + losses f e x a ≡ gains f e x a + below f e y)
  remainder_zero x a y r h =
      let u = above_none f e s (omega arith) in
      let d = below_none f e s (omega arith) in (
        λ z. omega (arith, h.whole, ap (above f e) z, ap (below f e) z),
        λ z. determines f e r s (omega (arith, h.whole)),
      )
