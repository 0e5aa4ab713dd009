-- The values whose double is at least b, and those whose double is at most b, in closed form; and the narrowing of x ⊕ x = b by them: doubling is monotone, so x is cut to them and the ends of b are the doubles of the ends of x. Assumes nothing.
use mathlib.Core.Path.{◌≡◌, subst}
use mathlib.Core.Logic.{inl, inr}
use Prim.Native.Nat.{ℕ, ◌+◌, ◌-◌, ◌*◌, ◌≤◌, ◌<◌, min, max}
use native.Mathlib.Nat.{le_refl}
use native.Mathlib.Omega.{arith}
use lib.Dec.{eqb→eq, eqb_refl}
use Rattle.ladder.specs.Ordinal.{sign, mirrored, Finite}
use Rattle.ladder.specs.Sum.{sum}
use Rattle.ladder.specs.Solution.{Interval, In}
use Rattle.ladder.specs.Halves.{halved, LeastHalf, GreatestHalf}
use Rattle.ladder.specs.Pairing.{doubles, Pair, PairHull}
use Rattle.ladder.proofs.Cases.{le_or_lt}
use Rattle.ladder.proofs.Ordinals.{infinity_lt_sign, mirror_finite, finite_twice}
use Rattle.ladder.proofs.Sum.{sum_mono, sum_mirror, sum_range}
use Rattle.ladder.proofs.Doubling.{doubled_le, le_doubled, doubled_ge, halved_le, sum_doubled_up, sum_doubled_down}

module _ (f e : ℕ) (some : 1 ≤ f) where
  abbrev s : ℕ
  s = sign f e

  -- ---- the halves of b, on either side of zero
  module _ (b : ℕ) (n : Finite f e b) where
    pub least_half_down : b ≤ s → LeastHalf f e b (s - halved f 0 (s - b))
    least_half_down h = record {
      finite = record { low = omega (arith, halved_le f 0 (s - b) (omega arith), n.low); high = omega (arith, n.low) };
      from = λ y. let i = infinity_lt_sign f e in elim (le_or_lt s y) [
        | inl g ↦ let d = sum_doubled_up f e some y g in (λ l. omega arith, λ l. omega arith)
        | inr g ↦
            let d = sum_doubled_down f e some y (omega arith) in
            let k = doubled_le f (s - y) (s - b) in
            (λ l. omega (arith, k.0 (omega (arith, n.low))), λ l. omega (arith, k.1 (omega arith)))
      ];
    }

    pub least_half_up : s < b → LeastHalf f e b (s + halved f 1 (b - s))
    least_half_up h = record {
      finite = record { low = omega (arith, n.high); high = omega (arith, halved_le f 1 (b - s) (omega arith), n.high) };
      from = λ y. let i = infinity_lt_sign f e in elim (le_or_lt s y) [
        | inl g ↦
            let d = sum_doubled_up f e some y g in
            let k = le_doubled f (y - s) (b - s) in
            (λ l. omega (arith, k.0 (omega arith)), λ l. omega (arith, k.1 (omega arith), n.high))
        | inr g ↦ let d = sum_doubled_down f e some y (omega arith) in (λ l. absurd (omega arith), λ l. absurd (omega arith))
      ];
    }

    -- the greatest half is the mirror image of the least half of the mirrored b
    pub greatest_half : (x : ℕ) → LeastHalf f e (mirrored f e b) x → GreatestHalf f e b (mirrored f e x)
    greatest_half x h = record {
      finite = mirror_finite f e x h.finite;
      to = λ y. let i = infinity_lt_sign f e in let t = finite_twice f e x h.finite in elim (le_or_lt y (2 * s)) [
        | inl l ↦
            let m = sum_mirror f e some y y l l in
            let k = h.from (mirrored f e y) in
            let r = sum_range f e some y y in
            (λ g. omega (arith, k.0 (omega (arith, m))), λ g. omega (arith, k.1 (omega (arith, t, l)), m, r.1))
        | inr l ↦ let d = sum_doubled_up f e some y (omega arith) in (λ g. absurd (far y l g), λ g. absurd (omega arith))
      ];
    }
      where
        -- beyond every pattern the double is infinity
        far : (y : ℕ) → 2 * s < y → sum f e y y ≤ b → ⊥
        far y l g = omega (arith, n.high, infinity_lt_sign f e, sum_doubled_up f e some y (omega arith), doubled_ge f (y - s))

  -- ---- the narrowing
  module _ (X B : Interval) (l u : ℕ) (least : LeastHalf f e B.low l) (greatest : GreatestHalf f e B.high u) where
    -- x cut to the halves of b
    abbrev pub halves : Interval
    halves = record { low = max X.low l; high = min X.high u }

    doubles_in : (x b : ℕ) → Pair (doubles f e) X B x b → In halves x
    doubles_in x b p =
        let is : sum f e x x ≡ b = eqb→eq _ _ p.passes in
        record {
          low = omega (arith, p.p_in.low, (least.from x).0 (omega (arith, p.q_in.low)));
          high = omega (arith, p.p_in.high, (greatest.to x).0 (omega (arith, p.q_in.high)));
        }

    in_doubles : (x : ℕ) → In halves x → Pair (doubles f e) X B x (sum f e x x)
    in_doubles x i = record {
      p_in = record { low = omega (arith, i.low); high = omega (arith, i.high) };
      q_in = record { low = (least.from x).1 (omega (arith, i.low)); high = (greatest.to x).1 (omega (arith, i.high)) };
      passes = eqb_refl (sum f e x x);
    }

    -- the doubles of the ends
    abbrev pub twice : Interval
    twice = record { low = sum f e halves.low halves.low; high = sum f e halves.high halves.high }

    pub doubles_none : halves.high < halves.low → (x b : ℕ) → Pair (doubles f e) X B x b → ⊥
    doubles_none g x b p = let i = doubles_in x b p in omega (arith, i.low, i.high)

    pub doubles_hull : halves.low ≤ halves.high → PairHull (doubles f e) X B halves twice
    doubles_hull o =
        let low = in_doubles halves.low (record { low = le_refl halves.low; high = o }) in
        let high = in_doubles halves.high (record { low = o; high = le_refl halves.high }) in
        record {
          firsts = record {
            low = record { q = twice.low; pair = low };
            high = record { q = twice.high; pair = high };
            all = λ x w. doubles_in x w.q w.pair;
          };
          seconds = record {
            low = record { p = halves.low; pair = low };
            high = record { p = halves.high; pair = high };
            all = λ b w.
                let x = w.p in
                let i = doubles_in x b w.pair in
                let is : sum f e x x ≡ b = eqb→eq _ _ w.pair.passes in
                let lo = sum_mono f e some halves.low x halves.low x i.low i.low in
                let hi = sum_mono f e some x halves.high x halves.high i.high i.high in
                record { low = subst (λ (z : ℕ). twice.low ≤ z) is lo; high = subst (λ (z : ℕ). z ≤ twice.high) is hi };
          };
        }
