-- The whole answer of the forward sum: 01's marks, 02's remainder, and the refusals in their order. Assumes nothing.
use Rattle.std.specs.Prelude.{ℕ, ◌+◌, ◌-◌, ◌^◌, Bool, cond, ◌&&◌, ◌==◌, nat_lt, Result, Ok, Err}
use Rattle.ladder.specs.Ordinal.{above, below}
use Rattle.ladder.specs.Sum.{gains, losses}
use Rattle.arith.specs.declared.format.Format.{Format}
use Rattle.arith.specs.declared.refusal.Reason.{Reason}
use Rattle.arith.specs.declared.refusal.Refusal.{Refusal}
use Rattle.arith.specs.declared.sum.Mark.{Mark}
use Rattle.arith.specs.declared.sum.Sum.{Sum}
use Rattle.arith.specs.Refusals.{refusal, or_refuse}
use Rattle.arith.specs.Formats.{is_known, format_of, is_finite, ordinal, pattern, sum, remainder}

-- whether an ordinal is a finite float's
unfoldable pub is_finite_ordinal : Format → ℕ → Bool
is_finite_ordinal F r = nat_lt F.sign (r + F.infinity) && nat_lt r (F.sign + F.infinity)

-- 01's mark: 0 exact, 1 rounded, 2 rounded with a result smaller in size than the smallest normal, whose m is 2^f
abbrev pub mark_number : Mark → ℕ
mark_number Mark.Exact = 0
mark_number Mark.Rounded = 1
mark_number Mark.Subnormal = 2

-- the mark of a sum with this m
abbrev pub mark_for : ℕ → ℕ → Bool → Mark
mark_for f m exact = cond exact Mark.Exact (cond (nat_lt m (2 ^ f)) Mark.Subnormal Mark.Rounded)

-- whether s is the exact sum of x and a: it counts as many units
unfoldable pub is_exact : Format → ℕ → ℕ → ℕ → Bool
is_exact F x a s =
    (above F.fraction F.exponent s + losses F.fraction F.exponent x a == gains F.fraction F.exponent x a + below F.fraction F.exponent s)

-- the mark of s as the sum of x and a; m is the distance of s from zero's ordinal
unfoldable pub mark_of : Format → ℕ → ℕ → ℕ → Mark
unfolding is_exact
mark_of F x a s = mark_for F.fraction ((s - F.sign) + (F.sign - s)) (is_exact F x a s)

-- the rounded sum s of x and a with its mark and what it leaves over
abbrev pub sum_is : Format → ℕ → ℕ → ℕ → Sum
sum_is F x a s = record { pattern = pattern F s; mark = mark_of F x a s; remainder = pattern F (remainder F x a s) }

-- the range test: that, or refusal 9, which has no remainder
unfoldable pub in_range : Format → ℕ → ℕ → ℕ → Result Sum Refusal
in_range F x a s = cond (is_finite_ordinal F s) (Ok (sum_is F x a s)) (Err (refusal Reason.Overflow))

-- the answer for two finite floats
abbrev pub sum_answer : Format → ℕ → ℕ → Result Sum Refusal
sum_answer F x a = in_range F x a (sum F x a)

-- the answer in a format: 2 for x, then a; 9
unfoldable pub add_in : Format → ℕ → ℕ → Result Sum Refusal
add_in F x a =
    or_refuse (is_finite F x) Reason.NotFinite
    (or_refuse (is_finite F a) Reason.NotFinite
    (sum_answer F (ordinal F x) (ordinal F a)))

-- the forward sum: 1; 2 for x, then a; 9
unfoldable pub add_of : ℕ → ℕ → ℕ → Result Sum Refusal
add_of width x a = or_refuse (is_known width) Reason.Width (add_in (format_of width) x a)
