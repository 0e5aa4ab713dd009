-- 01's narrowing of one sum: for x, for a and for b the least and greatest value standing in a triple. First as a search through the intervals, one number after the other; then by what holds of it.
-- That the two agree is a law of proofs/. Assumes nothing.
use Rattle.std.specs.Prelude.{Bool, true, false, ◌||◌, ℕ, zero, suc, ◌-◌, eqb}
use Rattle.ladder.specs.Sum.{sum}
use Rattle.ladder.specs.Solution.{Interval, In, Solution}

-- ---- a search through an interval
-- whether one of the n numbers from y on passes the test
unfoldable pub any_from : (ℕ → Bool) → ℕ → ℕ → Bool
any_from t y zero = false
any_from t y (suc n) = t y || any_from t (suc y) n

-- whether a number inside I passes the test
abbrev pub any_in : Interval → (ℕ → Bool) → Bool
any_in I t = any_from t I.low (suc I.high - I.low)

-- from the least to the greatest of some numbers, or that there are none
pub data Extent : Type 0 where
  empty : Extent
  over : Interval → Extent

-- one more number, below all that the extent holds so far
abbrev pub widen : Bool → ℕ → Extent → Extent
widen false y s = s
widen true y empty = over (record { low = y; high = y })
widen true y (over i) = over (record { low = y; high = i.high })

-- of the n numbers from y on, those that pass the test
unfoldable pub extent_from : (ℕ → Bool) → ℕ → ℕ → Extent
extent_from t y zero = empty
extent_from t y (suc n) = widen (t y) y (extent_from t (suc y) n)

-- of the numbers inside I, those that pass the test
abbrev pub extent_in : Interval → (ℕ → Bool) → Extent
extent_in I t = extent_from t I.low (suc I.high - I.low)

-- ---- the values that stand in a triple
-- of the x inside X, those in a triple
unfoldable pub x_extent : ℕ → ℕ → Interval → Interval → Interval → Extent
x_extent f e X A B = extent_in X (λ x. any_in A (λ a. any_in B (λ b. eqb (sum f e x a) b)))

-- of the a inside A
unfoldable pub a_extent : ℕ → ℕ → Interval → Interval → Interval → Extent
a_extent f e X A B = extent_in A (λ a. any_in X (λ x. any_in B (λ b. eqb (sum f e x a) b)))

-- of the b inside B
unfoldable pub b_extent : ℕ → ℕ → Interval → Interval → Interval → Extent
b_extent f e X A B = extent_in B (λ b. any_in X (λ x. any_in A (λ a. eqb (sum f e x a) b)))

-- ---- the narrowing: that there is no triple, or the three intervals cut down
pub data Narrowing : Type 0 where
  none : Narrowing
  ends : Interval → Interval → Interval → Narrowing

-- none where one of the three is empty
abbrev pub gather : Extent → Extent → Extent → Narrowing
gather empty s t = none
gather (over x) empty t = none
gather (over x) (over a) empty = none
gather (over x) (over a) (over b) = ends x a b

-- 01's narrowing of X, A and B
unfoldable pub narrowing : ℕ → ℕ → Interval → Interval → Interval → Narrowing
narrowing f e X A B = gather (x_extent f e X A B) (a_extent f e X A B) (b_extent f e X A B)

-- ---- the same by what holds of it
-- x stands in a triple
pub record HasX (f e : ℕ) (X A B : Interval) (x : ℕ) : Type 0 where
  pub a : ℕ
  pub b : ℕ
  pub solution : Solution f e X A B x a b

-- a stands in a triple
pub record HasA (f e : ℕ) (X A B : Interval) (a : ℕ) : Type 0 where
  pub x : ℕ
  pub b : ℕ
  pub solution : Solution f e X A B x a b

-- b stands in a triple
pub record HasB (f e : ℕ) (X A B : Interval) (b : ℕ) : Type 0 where
  pub x : ℕ
  pub a : ℕ
  pub solution : Solution f e X A B x a b

-- I runs from the least to the greatest number of which P holds
pub record Spans (P : ℕ → Type 0) (I : Interval) : Type 0 where
  pub low : P I.low
  pub high : P I.high
  pub all : (y : ℕ) → P y → In I y

-- each end stands in a triple, and every triple lies between the ends
pub record Hull (f e : ℕ) (X A B X' A' B' : Interval) : Type 0 where
  pub xs : Spans (HasX f e X A B) X'
  pub «as» : Spans (HasA f e X A B) A'
  pub bs : Spans (HasB f e X A B) B'

-- what 01 says of a narrowing: none means that there is no triple
abbrev pub IsNarrowing : ℕ → ℕ → Interval → Interval → Interval → Narrowing → Type 0
IsNarrowing f e X A B none = (x a b : ℕ) → Solution f e X A B x a b → ⊥
IsNarrowing f e X A B (ends X' A' B') = Hull f e X A B X' A' B'
