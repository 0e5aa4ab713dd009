-- The least operand that reaches b and the greatest whose sum is no more than b: what is below the one falls short of b, what is above the other is past it. So where the one is itself past B, or the other short of it, the step between it and that neighbour skips B. Assumes nothing.
use mathlib.Core.Path.{◌≡◌, ap}
use mathlib.Core.Logic.{inl, inr}
use Prim.Native.Nat.{ℕ, ◌+◌, ◌-◌, ◌<◌}
use native.Mathlib.Omega.{arith}
use Rattle.ladder.specs.Sum.{sum}
use Rattle.ladder.specs.Solution.{Interval, In}
use Rattle.ladder.specs.Search.{Least, Greatest, Attains, Stays, Skips}
use Rattle.ladder.proofs.Cases.{le_or_lt}
use Rattle.ladder.proofs.Sum.{sum_comm}

-- the sum with y is past B, that with the number before falls short
pub skips_to : (f e c : ℕ) (B : Interval) (y : ℕ) → 0 < y → sum f e c (y - 1) < B.low → B.high < sum f e c y → Skips f e B c (y - 1)
skips_to f e c B y p l g = let at : y - 1 + 1 ≡ y = omega arith in record { short = l; past = omega (arith, ap (sum f e c) at) }

-- the operands inside I, with c
module _ (f e c : ℕ) (I : Interval) where
  pub short_below : (b y x : ℕ) → Least (Attains f e c b I) y → In I x → x < y → sum f e c x < b
  short_below b y x l i h = elim (le_or_lt b (sum f e c x)) [
    | inl g ↦ absurd (omega (arith, l.least x (record { inside = i; enough = omega (arith, sum_comm f e c x) })))
    | inr g ↦ g
  ]

  past_above : (b y x : ℕ) → Greatest (Stays f e c b I) y → In I x → y < x → b < sum f e c x
  past_above b y x l i h = elim (le_or_lt (sum f e c x) b) [
    | inl g ↦ absurd (omega (arith, l.most x (record { inside = i; no_more = omega (arith, sum_comm f e c x) })))
    | inr g ↦ g
  ]

  pub skips_before : (B : Interval) (y : ℕ) → Least (Attains f e c B.low I) y → I.low < y → B.high < sum f e y c → Skips f e B c (y - 1)
  skips_before B y l h g =
      let i = l.holds.inside in
      skips_to f e c B y (omega arith) (short_below B.low y (y - 1) l (record { low = omega arith; high = omega arith }) (omega arith)) (omega (arith, sum_comm f e y c))

  pub skips_after : (B : Interval) (y : ℕ) → Greatest (Stays f e c B.high I) y → y < I.high → sum f e c y < B.low → Skips f e B c y
  skips_after B y l h g =
      let i = l.holds.inside in
      record { short = g; past = past_above B.high y (y + 1) l (record { low = omega arith; high = omega arith }) (omega arith) }
