-- Half a float: the values whose double is at least b, and those whose double is at most b. For the functions that narrow x ⊕ x = b; what that narrowing is, Pairing says. Assumes nothing.
use Rattle.std.specs.Prelude.{◌↔◌, cond, ℕ, ◌+◌, ◌-◌, ◌*◌, ◌/◌, ◌^◌, ◌≤◌, ltb}
use Rattle.ladder.specs.Ordinal.{Finite}
use Rattle.ladder.specs.Sum.{sum}

-- ---- patterns without a sign
-- twice m: below 2^f the number doubled, one binade up from there on
abbrev pub doubled : ℕ → ℕ → ℕ
doubled f m = cond (ltb m (2 ^ f)) (2 * m) (m + 2 ^ f)

-- half of n, one binade down. Below 2^(f + 1) an odd number is no double: its half is rounded down for up = 0, up for up = 1
abbrev pub halved : ℕ → ℕ → ℕ → ℕ
halved f up n = cond (ltb n (2 * 2 ^ f)) ((n + up) / 2) (n - 2 ^ f)

-- ---- ordinals
-- the values whose double is at least b are those from x on
pub record LeastHalf (f e b x : ℕ) : Type 0 where
  pub finite : Finite f e x
  pub from : (y : ℕ) → (b ≤ sum f e y y) ↔ (x ≤ y)

-- the values whose double is at most b are those up to x
pub record GreatestHalf (f e b x : ℕ) : Type 0 where
  pub finite : Finite f e x
  pub to : (y : ℕ) → (sum f e y y ≤ b) ↔ (y ≤ x)
