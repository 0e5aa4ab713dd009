-- Intervals of ordinals, and 01's triple. Assumes nothing.
use Rattle.std.specs.Prelude.{◌≡◌, ℕ, ◌≤◌}
use Rattle.ladder.specs.Ordinal.{Finite}
use Rattle.ladder.specs.Sum.{sum}

-- the ordinals from low to high; none where low is above high
pub record Interval : Type 0 where
  pub low : ℕ
  pub high : ℕ

-- y lies inside I
pub record In (I : Interval) (y : ℕ) : Type 0 where
  pub low : I.low ≤ y
  pub high : y ≤ I.high

-- both ends are finite
pub record Bounded (f e : ℕ) (I : Interval) : Type 0 where
  pub low : Finite f e I.low
  pub high : Finite f e I.high

-- 01's triple: x, a and b, each inside its interval, with x ⊕ a = b
pub record Solution (f e : ℕ) (X A B : Interval) (x a b : ℕ) : Type 0 where
  pub x_in : In X x
  pub a_in : In A a
  pub b_in : In B b
  pub is : sum f e x a ≡ b
