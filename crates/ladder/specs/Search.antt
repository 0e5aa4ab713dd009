-- What is found on the way to the ends of a narrowing, each by what holds of it: the least number with a property, the least operand with a sum of at least b, the corner at which the least x and the greatest a stand in a triple, the operands cut from one side each, the grid of the sums.
-- Also the images of an interval that this uses, its mirror and what the clamp leaves of it. What the narrowing is, Narrowing says; this is for the functions that find it. Assumes nothing.
use Rattle.std.specs.Prelude.{◌≡◌, ◌↔◌, ℕ, ◌+◌, ◌-◌, ◌*◌, ◌^◌, ◌≤◌, ◌<◌, max}
use Rattle.std.specs.Int.{◌∣◌}
use Rattle.ladder.specs.Magnitude.{magnitude}
use Rattle.ladder.specs.Ordinal.{sign, mirrored, above, below}
use Rattle.ladder.specs.Sum.{sum}
use Rattle.ladder.specs.Solution.{Interval, In, Solution}
use Rattle.ladder.specs.Narrowing.{HasX, HasA}

-- ---- the numbers with a property
-- there are none
abbrev pub Never : (ℕ → Type 0) → Type 0
Never P = (y : ℕ) → P y → ⊥

-- y is the least of them
pub record Least (P : ℕ → Type 0) (y : ℕ) : Type 0 where
  pub holds : P y
  pub least : (z : ℕ) → P z → y ≤ z

-- y is the greatest of them
pub record Greatest (P : ℕ → Type 0) (y : ℕ) : Type 0 where
  pub holds : P y
  pub most : (z : ℕ) → P z → z ≤ y

-- ---- one operand
-- y inside I has a sum with a of at least b
pub record Attains (f e a b : ℕ) (I : Interval) (y : ℕ) : Type 0 where
  pub inside : In I y
  pub enough : b ≤ sum f e y a

-- y inside I has a sum with a of at most b
pub record Stays (f e a b : ℕ) (I : Interval) (y : ℕ) : Type 0 where
  pub inside : In I y
  pub no_more : sum f e y a ≤ b

-- t is no more than the least sum with a that is at least b, if one inside I has such a sum
pub data AtMost (f e a b : ℕ) (I : Interval) (t : ℕ) : Type 0 where
  none : Never (Attains f e a b I) → AtMost f e a b I t
  least : (y : ℕ) → Least (Attains f e a b I) y → t ≤ sum f e y a → AtMost f e a b I t

-- twice the midpoint of b and its lower neighbour, less twice a, which twice an operand must reach: so many units above zero
abbrev pub crossing_up : ℕ → ℕ → ℕ → ℕ → ℕ
crossing_up f e a b = above f e (b - 1) + above f e b + 2 * below f e a

-- and so many below it
abbrev pub crossing_down : ℕ → ℕ → ℕ → ℕ → ℕ
crossing_down f e a b = below f e (b - 1) + below f e b + 2 * above f e a

-- the operands with a sum of at least b are those from x on
abbrev pub Threshold : ℕ → ℕ → ℕ → ℕ → ℕ → Type 0
Threshold f e a b x = (y : ℕ) → (b ≤ sum f e y a) ↔ (x ≤ y)

-- ---- the triples' corner
-- x inside X and a inside A, and no triple has a smaller x or a greater a
pub record Frontier (f e : ℕ) (X A B : Interval) (x a : ℕ) : Type 0 where
  pub x_in : In X x
  pub a_in : In A a
  pub least : (y : ℕ) → HasX f e X A B y → x ≤ y
  pub most : (y : ℕ) → HasA f e X A B y → y ≤ a

-- and x with a makes one: the least x and the greatest a stand in a triple together
pub record Corner (f e : ℕ) (X A B : Interval) (x a b : ℕ) : Type 0 where
  pub frontier : Frontier f e X A B x a
  pub solution : Solution f e X A B x a b

-- with the operands from x on and those up to a: none that make a sum inside B lie below x' or above a'
pub record Trimmed (f e : ℕ) (B : Interval) (x a x' a' : ℕ) : Type 0 where
  pub up : x ≤ x'
  pub down : a' ≤ a
  pub kept : (y z : ℕ) → x ≤ y → z ≤ a → In B (sum f e y z) → (x' ≤ y) × (z ≤ a')

-- B lies between the sums of z with y and with the number after y
pub record Skips (f e : ℕ) (B : Interval) (z y : ℕ) : Type 0 where
  pub short : sum f e z y < B.low
  pub past : B.high < sum f e z (y + 1)

-- ---- images of an interval
-- from -high to -low
abbrev pub reflection : ℕ → ℕ → Interval → Interval
reflection f e I = record { low = mirrored f e I.high; high = mirrored f e I.low }

-- ---- the clamp
-- for no m from lo to hi is the value a multiple of 2^k units
abbrev pub NoMultiple : ℕ → ℕ → ℕ → ℕ → Type 0
NoMultiple f k lo hi = (m : ℕ) → lo ≤ m → m ≤ hi → 2 ^ k ∣ magnitude f m → ⊥

-- for some m from lo to hi it is
pub record SomeMultiple (f k lo hi : ℕ) : Type 0 where
  pub m : ℕ
  pub low : lo ≤ m
  pub high : m ≤ hi
  pub divides : 2 ^ k ∣ magnitude f m

-- without the values below zero of 2^(k + f) units and more: from there on every value is a multiple of 2^k
abbrev pub raised : ℕ → ℕ → ℕ → Interval → Interval
raised f e k I = record { low = max I.low (sign f e + 1 - (k + 1) * 2 ^ f); high = I.high }

-- the mirror image: without the values above zero of that size
abbrev pub lowered : ℕ → ℕ → ℕ → Interval → Interval
lowered f e k I = reflection f e (raised f e k (reflection f e I))

-- ---- the grid of the sums
-- the value of r is a multiple of 2^k units
pub record Multiple (f e k r : ℕ) : Type 0 where
  pub up : 2 ^ k ∣ above f e r
  pub down : 2 ^ k ∣ below f e r

-- u is zero, or every value of X and of A is a multiple of u, which is a power of two
pub data Grid (f e : ℕ) (X A : Interval) (u : ℕ) : Type 0 where
  free : u ≡ sign f e → Grid f e X A u
  step : (k : ℕ) → above f e u ≡ 2 ^ k → ((y : ℕ) → In X y → Multiple f e k y) → ((y : ℕ) → In A y → Multiple f e k y) → Grid f e X A u

-- nothing in X or A is too coarse for B: with B above zero, and a value of B that is a multiple of half of 2^k units, no operand lies 2^(k + f) units or more below zero; with B below zero the mirror image; with zero in B nothing is asked
pub data Fine (f e : ℕ) (X A B : Interval) : Type 0 where
  zero_in : B.low ≤ sign f e → sign f e ≤ B.high → Fine f e X A B
  positive : (k : ℕ) → sign f e < B.low → SomeMultiple f (k - 1) (B.low - sign f e) (B.high - sign f e) → sign f e < X.low + (k + 1) * 2 ^ f → sign f e < A.low + (k + 1) * 2 ^ f → Fine f e X A B
  negative : (k : ℕ) → B.high < sign f e → SomeMultiple f (k - 1) (sign f e - B.high) (sign f e - B.low) → X.high < sign f e + (k + 1) * 2 ^ f → A.high < sign f e + (k + 1) * 2 ^ f → Fine f e X A B
