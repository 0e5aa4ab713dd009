-- A narrowing shown by a few sums: a triple at each end, and one sum beyond each end of x that misses b. Assumes nothing.
use mathlib.Core.Path.{◌≡◌, sym, subst}
use mathlib.Core.Logic.{inl, inr}
use Prim.Native.Nat.{ℕ, suc, ◌≤◌, ◌<◌}
use native.Mathlib.Omega.{arith}
use Rattle.ladder.specs.Sum.{sum}
use Rattle.ladder.specs.Solution.{Interval, In, Solution}
use Rattle.ladder.specs.Narrowing.{HasX, HasA, HasB, Hull}
use Rattle.ladder.proofs.Cases.{le_or_lt}
use Rattle.ladder.proofs.Sum.{sum_mono}

-- a triple: its six tests and its sum
pub triple : (f e : ℕ) (X A B : Interval) (x a b : ℕ) → X.low ≤ x → x ≤ X.high → A.low ≤ a → a ≤ A.high → B.low ≤ b → b ≤ B.high → sum f e x a ≡ b → Solution f e X A B x a b
triple f e X A B x a b p q r s t u z = record { x_in = record { low = p; high = q }; a_in = record { low = r; high = s }; b_in = record { low = t; high = u }; is = z }

module _ (f e : ℕ) (some : 1 ≤ f) (X A B : Interval) where
  -- with m the greatest a still makes too small a sum: x is above m
  pub over : (m x a b : ℕ) → sum f e m A.high < B.low → Solution f e X A B x a b → m < x
  over m x a b h s = elim (le_or_lt x m) [
    | inl l ↦ absurd (omega (arith, sum_mono f e some x m a A.high l s.a_in.high, s.is, s.b_in.low))
    | inr l ↦ l
  ]

  -- with m the least a still makes too large a sum: x is below m
  pub under : (m x a b : ℕ) → B.high < sum f e m A.low → Solution f e X A B x a b → x < m
  under m x a b h s = elim (le_or_lt m x) [
    | inl l ↦ absurd (omega (arith, sum_mono f e some m x A.low a l s.a_in.low, s.is, s.b_in.high))
    | inr l ↦ l
  ]

  -- triples at both ends of X', A' and B', and none outside
  pub record Shown (X' A' B' : Interval) : Type 0 where
    pub x_low : HasX f e X A B X'.low
    pub x_high : HasX f e X A B X'.high
    pub a_low : HasA f e X A B A'.low
    pub a_high : HasA f e X A B A'.high
    pub b_low : HasB f e X A B B'.low
    pub b_high : HasB f e X A B B'.high
    pub within : (x a b : ℕ) → Solution f e X A B x a b → In X' x × In A' a × In B' b

  pub shown_hull : (X' A' B' : Interval) → Shown X' A' B' → Hull f e X A B X' A' B'
  shown_hull X' A' B' c = record {
    xs = record { low = c.x_low; high = c.x_high; all = λ y w. (c.within y w.a w.b w.solution).0 };
    «as» = record { low = c.a_low; high = c.a_high; all = λ y w. (c.within w.x y w.b w.solution).1 };
    bs = record { low = c.b_low; high = c.b_high; all = λ y w. (c.within w.x w.a y w.solution).2 };
  }

  -- x from l to h, with a triple at each end that also has an end of A; b is one float, and A keeps its ends
  pub x_hull : (l h b : ℕ) → Solution f e X A B l A.high b → Solution f e X A B h A.low b → B.low ≡ B.high → (m n : ℕ) → suc m ≡ l → suc h ≡ n → sum f e m A.high < B.low → B.high < sum f e n A.low
      → Hull f e X A B (record { low = l; high = h }) A B
  x_hull l h b s t one m n p q u v =
      let lo : B.low ≡ b = omega (arith, s.b_in.low, s.b_in.high) in
      let hi : B.high ≡ b = omega (arith, s.b_in.low, s.b_in.high) in
      shown_hull (record { low = l; high = h }) A B (record {
        x_low = record { a = A.high; b = b; solution = s };
        x_high = record { a = A.low; b = b; solution = t };
        a_low = record { x = h; b = b; solution = t };
        a_high = record { x = l; b = b; solution = s };
        b_low = subst (HasB f e X A B) (sym lo) (record { x = l; a = A.high; solution = s });
        b_high = subst (HasB f e X A B) (sym hi) (record { x = l; a = A.high; solution = s });
        within = λ x a b r. (record { low = omega (arith, over m x a b u r); high = omega (arith, under n x a b v r) }, r.a_in, r.b_in);
      })
