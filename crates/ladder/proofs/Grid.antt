-- The grid of the sums: where every operand is a multiple of 2^k units, so is every finite sum, since rounding keeps multiples; hence two different sums differ by 2^k or more, and next to a sum lies none nearer than that.
-- Far from zero every value is a multiple. Rests on the laws of Multiples and, for the side of an ordinal that a sum lies on, of Skips. Assumes nothing.
use mathlib.Core.Path.{subst}
use mathlib.Core.Logic.{inl, inr}
use Prim.Native.Nat.{ℕ, ◌+◌, ◌-◌, ◌^◌, ◌≤◌, ◌<◌, ◌∣◌}
use native.Mathlib.Nat.{dvd-zero, dvd-add, dvd-sub}
use native.Mathlib.Omega.{arith}
use Rattle.ladder.specs.Magnitude.{magnitude}
use Rattle.ladder.specs.Ordinal.{sign, above, below, mirrored, Finite}
use Rattle.ladder.specs.Sum.{gains, losses, sum}
use Rattle.ladder.specs.Solution.{Interval, In}
use Rattle.ladder.specs.Search.{Multiple, Grid, free, step}
use Rattle.ladder.proofs.Cases.{le_or_lt}
use Rattle.ladder.proofs.Magnitude.{magnitude_le}
use Rattle.ladder.proofs.Multiples.{round_dvd, magnitude_dvd}
use Rattle.ladder.proofs.Ordinals.{infinity_lt_sign, above_none, below_none, order}
use Rattle.ladder.proofs.Sum.{rounded_up, rounded_down}
use Rattle.ladder.proofs.Skips.{apart, short_value, past_value}

module _ (f e : ℕ) (some : 1 ≤ f) where
  abbrev s : ℕ
  s = sign f e

  -- ---- multiples of 2^k units
  -- by the side of zero
  pub up_multiple : (k r : ℕ) → s ≤ r → 2 ^ k ∣ above f e r → Multiple f e k r
  up_multiple k r h d = record { up = d; down = rw (below_none f e r h) (dvd-zero (2 ^ k)) }

  pub down_multiple : (k r : ℕ) → r ≤ s → 2 ^ k ∣ below f e r → Multiple f e k r
  down_multiple k r h d = record { up = rw (above_none f e r h) (dvd-zero (2 ^ k)); down = d }

  -- a finite sum of two is one
  pub multiple_sum : (k x a : ℕ) → Multiple f e k x → Multiple f e k a → Finite f e (sum f e x a) → Multiple f e k (sum f e x a)
  unfolding sum
  multiple_sum k x a mx ma n =
      let P = gains f e x a in
      let N = losses f e x a in
      let r = sum f e x a in
      let t = infinity_lt_sign f e in
      let dp : 2 ^ k ∣ P = dvd-add (2 ^ k) mx.up ma.up in
      let dn : 2 ^ k ∣ N = dvd-add (2 ^ k) mx.down ma.down in
      elim (le_or_lt N P) [
        | inl h ↦
            let u = rounded_up f e some P N h in
            up_multiple k r (omega arith) (subst (λ (i : ℕ). 2 ^ k ∣ magnitude f i) (omega arith) (round_dvd f (P - N) k some (dvd-sub (2 ^ k) dp dn)))
        | inr h ↦
            let u = rounded_down f e some P N (omega arith) in
            down_multiple k r (omega arith) (subst (λ (i : ℕ). 2 ^ k ∣ magnitude f i) (omega arith) (round_dvd f (N - P) k some (dvd-sub (2 ^ k) dn dp)))
      ]

  -- from 2^(k + f) units on every value is one
  pub far_above : (k m r : ℕ) → 2 ^ (k + f) ≤ magnitude f m → s + m ≤ r → Multiple f e k r
  far_above k m r h l = up_multiple k r (omega arith) (magnitude_dvd f (r - s) k (omega (arith, magnitude_le f m (r - s) (omega arith))))

  pub far_below : (k m r : ℕ) → 2 ^ (k + f) ≤ magnitude f m → r + m ≤ s → Multiple f e k r
  far_below k m r h l = down_multiple k r (omega arith) (magnitude_dvd f (s - r) k (omega (arith, magnitude_le f m (s - r) (omega arith))))

  -- ---- sums on the grid
  -- a smaller ordinal has no greater value
  value_le : (x y : ℕ) → x ≤ y → above f e x + below f e y ≤ above f e y + below f e x
  value_le x y h = omega (arith, magnitude_le f (x - s) (y - s) (omega arith), magnitude_le f (s - y) (s - x) (omega arith))

  module _ (X A : Interval) (u : ℕ) (g : Grid f e X A u) where
    -- two that differ are u or more apart
    sums_apart : (x a y z : ℕ) → In X x → In A a → In X y → In A z → Finite f e (sum f e x a) → Finite f e (sum f e y z) → sum f e x a < sum f e y z
        → above f e (sum f e x a) + below f e (sum f e y z) + above f e u ≤ above f e (sum f e y z) + below f e (sum f e x a)
    sums_apart x a y z xi ai yi zi n m l =
        let t = sum f e x a in
        let c = sum f e y z in
        elim g [
          | free v ↦ omega (arith, value_le t c (omega arith), above_none f e u (omega arith))
          | step k v mx ma ↦
              let p = multiple_sum k x a (mx x xi) (ma a ai) n in
              let q = multiple_sum k y z (mx y yi) (ma z zi) m in
              omega (arith, apart (2 ^ k) (above f e t + below f e c) (above f e c + below f e t) (dvd-add (2 ^ k) p.up q.down) (dvd-add (2 ^ k) q.up p.down) ((order f e t c).0 l))
        ]

    -- so none below a sum is at least b, where that sum less u falls short of b
    pub grid_low : (x a b : ℕ) → In X x → In A a → Finite f e (sum f e x a) → Finite f e b → sum f e (sum f e x a) (mirrored f e u) < b
        → (y z : ℕ) → In X y → In A z → b ≤ sum f e y z → sum f e y z < sum f e x a → ⊥
    grid_low x a b xi ai n nb h y z yi zi l v =
        let c = sum f e x a in
        let t = sum f e y z in
        let d = sums_apart y z x a yi zi xi ai (record { low = omega arith; high = omega arith }) n v in
        let w = short_value f e some c (mirrored f e u) b (omega arith) (omega arith) h in
        let lost : below f e (mirrored f e u) ≤ above f e u = magnitude_le f (s - mirrored f e u) (u - s) (omega arith) in
        omega (arith, value_le b t l)

    -- and none above it is at most b, where that sum and u go past b
    pub grid_high : (x a b : ℕ) → In X x → In A a → Finite f e (sum f e x a) → Finite f e b → b < sum f e (sum f e x a) u
        → (y z : ℕ) → In X y → In A z → sum f e y z ≤ b → sum f e x a < sum f e y z → ⊥
    grid_high x a b xi ai n nb h y z yi zi l v =
        let c = sum f e x a in
        let t = sum f e y z in
        let d = sums_apart x a y z xi ai yi zi n (record { low = omega arith; high = omega arith }) v in
        let w = past_value f e some c u b (omega arith) (omega arith) h in
        omega (arith, value_le t b l)
