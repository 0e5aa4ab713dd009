-- What the forward sum promises, entire: the answer as defined, the reply that it tells, and 02's sentences on the remainder, by patterns. Assumes nothing.
use Rattle.std.specs.Prelude.{◌≡◌, ℕ, ◌+◌, true, ◌↔◌, Result, Ok, Err}
use Rattle.ladder.specs.Ordinal.{canonical}
use Rattle.ladder.specs.Values.{units_above, units_below}
use Rattle.arith.specs.declared.format.Format.{Format}
use Rattle.arith.specs.declared.refusal.Refusal.{Refusal}
use Rattle.arith.specs.declared.sum.Sum.{Sum}
use Rattle.arith.specs.declared.sum.Mark.{Mark}
use Rattle.arith.specs.Formats.{format_of, is_finite}
use Rattle.arith.specs.Sums.{add_of}
use Rattle.arith.specs.Answers.{sum_told}
use Rattle.arith.specs.Replies.{reply_after, add_tests, add_values}

-- the units above zero of two patterns together
abbrev pub both_above : Format → ℕ → ℕ → ℕ
both_above F p q = units_above F.fraction F.exponent p + units_above F.fraction F.exponent q

-- the units below zero of two patterns together
abbrev pub both_below : Format → ℕ → ℕ → ℕ
both_below F p q = units_below F.fraction F.exponent p + units_below F.fraction F.exponent q

-- the sum p of the patterns x and a, with its mark, leaves the remainder r
pub record Remains (F : Format) (x a p : ℕ) (mark : Mark) (r : ℕ) : Type 0 where
  -- exact x plus exact a is p plus r: nothing is lost
  pub whole : both_above F x a + both_below F p r ≡ both_above F p r + both_below F x a
  -- r is a finite float, in its one pattern
  pub finite : is_finite F r ≡ true
  pub written : canonical F.fraction F.exponent r ≡ r
  -- it is zero exactly where the mark is 0
  pub zero : (r ≡ 0) ↔ (mark ≡ Mark.Exact)

-- whenever the answer is a sum, it comes with its remainder; a refusal has none
abbrev pub LeavesRemainder : ℕ → ℕ → ℕ → Result Sum Refusal → Type 0
LeavesRemainder width x a (Ok s) = Remains (format_of width) x a s.pattern s.mark s.remainder
LeavesRemainder width x a (Err q) = Unit {0}

-- what `add` promises
pub record GivesSum (width x a : ℕ) (s : Result Sum Refusal) : Type 0 where
  pub is : s ≡ add_of width x a
  pub told : sum_told s ≡ reply_after (add_tests width x a) (add_values width x a)
  pub remainder : LeavesRemainder width x a s
