-- The clamp: where B is above zero and none of its values is a multiple of 2^k, no operand of a triple lies 2^(k + f) units or more below zero, since both would then be multiples of 2^k, and so their sum.
-- For B below zero the same holds of the mirrored intervals. Assumes nothing.
use mathlib.Core.Path.{◌≡◌, ap, subst}
use mathlib.Core.Logic.{inl, inr}
use Prim.Native.Nat.{ℕ, ◌+◌, ◌-◌, ◌*◌, ◌^◌, ◌≤◌, ◌<◌, ◌∣◌}
use native.Mathlib.Nat.{dvd-sub}
use native.Mathlib.Omega.{arith}
use lib.Pow.{pow_pos}
use Rattle.ladder.specs.Magnitude.{magnitude}
use Rattle.ladder.specs.Ordinal.{sign, infinity, above, below, mirrored, Finite}
use Rattle.ladder.specs.Sum.{gains, losses, sum}
use Rattle.ladder.specs.Solution.{Interval, In, Solution, Bounded}
use Rattle.ladder.specs.Search.{NoMultiple, SomeMultiple, Fine, positive, negative, raised, lowered, reflection}
use Rattle.ladder.proofs.Cases.{le_or_lt}
use Rattle.ladder.proofs.Magnitude.{magnitude_le}
use Rattle.ladder.proofs.Multiples.{round_dvd, magnitude_dvd}
use Rattle.ladder.proofs.Ordinals.{above_none, below_none, infinity_lt_sign, finite_twice}
use Rattle.ladder.proofs.Sum.{rounded_up, rounded_down}
use Rattle.ladder.proofs.Granularity.{magnitude_power}
use Rattle.ladder.proofs.Solutions.{Kept, swap, finite_in, mirror_bounded, mirror_solution}

module _ (f e : ℕ) (some : 1 ≤ f) where
  abbrev s : ℕ
  s = sign f e

  -- a finite sum above zero with an operand that far below zero is a multiple
  pub coarse : (k x a : ℕ) → x + (k + 1) * 2 ^ f ≤ s → s < sum f e x a → sum f e x a < s + infinity f e → 2 ^ k ∣ magnitude f (sum f e x a - s)
  unfolding sum
  coarse k x a l h g =
      let P = gains f e x a in
      let N = losses f e x a in
      let big : 2 ^ (k + f) ≤ below f e x = omega (arith, magnitude_le f ((k + 1) * 2 ^ f) (s - x) (omega arith), magnitude_power f k, ap (λ (i : ℕ). 2 ^ i) (comm k)) in
      let x0 = above_none f e x (omega arith) in
      elim (le_or_lt P N) [
        | inl w ↦ absurd (omega (arith, rounded_down f e some P N w))
        | inr w ↦ elim (le_or_lt a s) [
          | inl v ↦ absurd (omega (arith, above_none f e a v))
          | inr v ↦
              let a0 = below_none f e a (omega arith) in
              let da : 2 ^ k ∣ above f e a = magnitude_dvd f (a - s) k (omega arith) in
              let dx : 2 ^ k ∣ below f e x = magnitude_dvd f (s - x) k big in
              let d : 2 ^ k ∣ P - N = subst (λ (i : ℕ). 2 ^ k ∣ i) (omega arith) (dvd-sub (2 ^ k) da dx) in
              subst (λ (i : ℕ). 2 ^ k ∣ magnitude f i) (omega (arith, rounded_up f e some P N (omega arith))) (round_dvd f (P - N) k some d)
        ]
      ]
    where
      comm : (k : ℕ) → k + f ≡ f + k
      comm k = omega arith

  module _ (k : ℕ) (X A B : Interval) (up : s < B.low) (fin : Finite f e B.high) (free : NoMultiple f k (B.low - s) (B.high - s)) where
    -- so none lies there
    pub not_coarse : (x a : ℕ) → In B (sum f e x a) → s < x + (k + 1) * 2 ^ f
    not_coarse x a b = elim (le_or_lt (x + (k + 1) * 2 ^ f) s) [
      | inl l ↦ absurd (free (sum f e x a - s) (omega arith) (omega arith) (coarse k x a l (omega arith) (omega arith)))
      | inr l ↦ l
    ]

    at : {X A : Interval} {x a b : ℕ} → Solution f e X A B x a b → In B (sum f e x a)
    at r = record { low = omega arith; high = omega arith }

    in_raised : (I : Interval) (y : ℕ) → In I y → s < y + (k + 1) * 2 ^ f → In (raised f e k I) y
    in_raised I y i l = record { low = omega arith; high = omega arith }

    -- the clamp loses no triple
    pub raised_kept : Kept f e X A B (raised f e k X) (raised f e k A) B
    raised_kept x a b r = record {
      x_in = in_raised X x r.x_in (not_coarse x a (at r));
      a_in = in_raised A a r.a_in (not_coarse a x (at (swap r)));
      b_in = r.b_in;
      is = r.is;
    }

  -- and adds none
  pub raised_given : (k : ℕ) (X A B : Interval) → Kept f e (raised f e k X) (raised f e k A) B X A B
  raised_given k X A B x a b r =
      let i = r.x_in in
      let j = r.a_in in
      record { x_in = record { low = omega arith; high = omega arith }; a_in = record { low = omega arith; high = omega arith }; b_in = r.b_in; is = r.is }

  pub raised_bounded : (k : ℕ) (I : Interval) → Bounded f e I → Bounded f e (raised f e k I)
  raised_bounded k I n = let l = n.low in record { low = record { low = omega (arith, infinity_lt_sign f e); high = omega (arith, infinity_lt_sign f e, pow_pos f) }; high = n.high }

  -- and leaves nothing too coarse
  pub raised_fine : (k : ℕ) (X A B : Interval) → s < B.low → SomeMultiple f (k - 1) (B.low - s) (B.high - s) → Fine f e (raised f e k X) (raised f e k A) B
  raised_fine k X A B up t = positive k up t (omega arith) (omega arith)

  -- ---- B below zero: the mirror image
  module _ (k : ℕ) (X A B : Interval) (nx : Bounded f e X) (na : Bounded f e A) (nb : Bounded f e B) where
    in_lowered : (I : Interval) → Bounded f e I → (y : ℕ) → In I y → In (raised f e k (reflection f e I)) (mirrored f e y) → In (lowered f e k I) y
    in_lowered I n y i r = let t = finite_twice f e y (finite_in f e I n y i) in record { low = omega (arith, r.high); high = omega (arith, r.low) }

    pub lowered_kept : B.high < s → NoMultiple f k (s - B.high) (s - B.low) → Kept f e X A B (lowered f e k X) (lowered f e k A) B
    lowered_kept down free x a b r =
        let R = reflection f e B in
        let t = infinity_lt_sign f e in
        let l : R.low - s ≡ s - B.high = omega arith in
        let h : R.high - s ≡ s - B.low = omega arith in
        let up : NoMultiple f k (R.low - s) (R.high - s) = λ m p q. free m (omega arith) (omega arith) in
        let m = raised_kept k (reflection f e X) (reflection f e A) R (omega arith) (mirror_bounded f e B nb).high up (mirrored f e x) (mirrored f e a) (mirrored f e b) (mirror_solution f e some X A B nx na nb x a b r) in
        record { x_in = in_lowered X nx x r.x_in m.x_in; a_in = in_lowered A na a r.a_in m.a_in; b_in = r.b_in; is = r.is }

    of_lowered : (I : Interval) → Bounded f e I → (y : ℕ) → In (lowered f e k I) y → In I y
    of_lowered I n y i = let l = finite_twice f e I.low n.low in let h = finite_twice f e I.high n.high in record { low = omega arith; high = omega arith }

    pub lowered_given : Kept f e (lowered f e k X) (lowered f e k A) B X A B
    lowered_given x a b r = record { x_in = of_lowered X nx x r.x_in; a_in = of_lowered A na a r.a_in; b_in = r.b_in; is = r.is }

    pub lowered_fine : B.high < s → SomeMultiple f (k - 1) (s - B.high) (s - B.low) → Fine f e (lowered f e k X) (lowered f e k A) B
    lowered_fine down t =
        let x = finite_twice f e X.high nx.high in
        let a = finite_twice f e A.high na.high in
        negative k down t (omega arith) (omega arith)

  pub lowered_bounded : (k : ℕ) (I : Interval) → Bounded f e I → Bounded f e (lowered f e k I)
  lowered_bounded k I n = mirror_bounded f e (raised f e k (reflection f e I)) (raised_bounded k (reflection f e I) (mirror_bounded f e I n))
