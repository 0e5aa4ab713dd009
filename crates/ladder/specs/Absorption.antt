-- What is found on the way to the narrowing of x ⊕ a = x: how much one x absorbs, how much the x of an interval do, which x absorb one a, and the place from which on the step is coarse enough for it. What that narrowing is, Pairing says; this is for the functions that find it. Assumes nothing.
use Rattle.std.specs.Prelude.{◌≡◌, ◌↔◌, ℕ, ◌+◌, ◌-◌, ◌*◌, ◌^◌, ◌≤◌, ◌<◌}
use Rattle.ladder.specs.Magnitude.{magnitude}
use Rattle.ladder.specs.Ordinal.{sign}
use Rattle.ladder.specs.Sum.{sum}
use Rattle.ladder.specs.Solution.{Interval, In}

-- of x and the number after it, the place nearer to zero: 2^(its shift) units is the step between them
abbrev pub step_place : ℕ → ℕ → ℕ → ℕ
step_place f e x = (x - sign f e) + (sign f e - 1 - x)

-- from zero up, x absorbs the a up to r and no others
abbrev pub AbsorbsTo : ℕ → ℕ → ℕ → ℕ → Type 0
AbsorbsTo f e x r = (a : ℕ) → sign f e ≤ a → (sum f e x a ≡ x) ↔ (a ≤ r)

-- x inside X absorbs c: x ⊕ c = x
pub record Absorber (f e c : ℕ) (X : Interval) (x : ℕ) : Type 0 where
  pub inside : In X x
  pub is : sum f e x c ≡ x

-- some x inside X absorbs c
pub record Absorbed (f e : ℕ) (X : Interval) (c : ℕ) : Type 0 where
  pub x : ℕ
  pub absorber : Absorber f e c X x

-- from zero up, the a that some x inside X absorbs are those up to r
abbrev pub AbsorbedTo : ℕ → ℕ → Interval → ℕ → Type 0
AbsorbedTo f e X r = (a : ℕ) → sign f e ≤ a → Absorbed f e X a ↔ (a ≤ r)

-- t is the least place with a step of at least twice the value of m
pub record Coarse (f m t : ℕ) : Type 0 where
  pub k : ℕ
  pub is : t ≡ (k + 1) * 2 ^ f
  pub enough : 2 * magnitude f m ≤ 2 ^ k
  pub least : 2 ^ k < 4 * magnitude f m
