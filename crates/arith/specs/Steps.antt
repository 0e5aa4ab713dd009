-- What each step of the forward sum promises, in the order of IEEE 754-2008: the exact sum (5.1); that sum rounded to nearest, ties to even, as if no exponent were too large (4.3.1);
-- the range test (7.4). `LeftOver` is 02's remainder, from the first two; `IsSum` says that the three together, with it, make 01's sum; `between_sums` is the shift by two sums.
-- For contracts inside the crate; the public ones cite `GivesSum` (Additions) and `shift_of` (Intervals). Assumes nothing.
use Rattle.std.specs.Prelude.{◌≡◌, ℕ, ◌+◌, ◌-◌, ◌*◌, ◌^◌, ◌<◌, ◌≤◌, Bool, true, false, cond, ◌↔◌, nat_le, nat_lt, Result, Ok, Err}
use Rattle.ladder.specs.Magnitude.{magnitude}
use Rattle.ladder.specs.Sum.{gains, losses}
use Rattle.ladder.specs.Nearest.{NearestSize}
use Rattle.arith.specs.declared.format.Format.{Format}
use Rattle.arith.specs.declared.interval.Interval.{Interval}
use Rattle.arith.specs.declared.sum.Signed.{Signed}
use Rattle.arith.specs.declared.sum.Exact.{Exact}
use Rattle.arith.specs.declared.sum.ExactSum.{ExactSum}
use Rattle.arith.specs.declared.sum.Rounded.{Rounded}
use Rattle.arith.specs.declared.sum.Rounding.{Rounding}
use Rattle.arith.specs.declared.sum.Tested.{Tested}
use Rattle.arith.specs.declared.sum.Addition.{Addition}
use Rattle.arith.specs.declared.sum.Sum.{Sum}
use Rattle.arith.specs.declared.refusal.Reason.{Reason}
use Rattle.arith.specs.declared.refusal.Refusal.{Refusal}
use Rattle.arith.specs.Refusals.{refusal}
use Rattle.arith.specs.Formats.{is_finite, pattern, sum}
use Rattle.arith.specs.Exacts.{Amounts, Roundable, size_of, rounding_of}
use Rattle.arith.specs.Sums.{mark_for, sum_answer}

-- ---- operands
-- a pattern is finite
abbrev pub FinitePattern : Format → ℕ → Type 0
FinitePattern F p = is_finite F p ≡ true

-- a sign is the sign bit's weight, or 0
pub data IsSign (F : Format) (sign : ℕ) : Type 0 where
  clear : sign ≡ 0 → IsSign F sign
  set : sign ≡ F.sign → IsSign F sign

-- whether a sign is set
abbrev pub is_set : ℕ → Bool
is_set sign = nat_lt 0 sign

-- a float by its sign and m is finite
pub record FiniteSigned (F : Format) (z : Signed) : Type 0 where
  pub sign : IsSign F z.sign
  pub m : z.m < F.infinity

-- both operands of a sum are finite: as patterns, as ordinals, or by sign and m
pub record Summands {A : Type 0} (IsFinite : Format → A → Type 0) (F : Format) (x a : A) : Type 0 where
  pub x_finite : IsFinite F x
  pub a_finite : IsFinite F a

-- the ordinal of a float by its sign and m
abbrev pub ordinal_at : Format → Signed → ℕ
ordinal_at F z = cond (is_set z.sign) (F.sign - z.m) (F.sign + z.m)

-- z is the finite float with the ordinal r
pub record Represents (F : Format) (r : ℕ) (z : Signed) : Type 0 where
  pub ordinal : ordinal_at F z ≡ r
  pub finite : FiniteSigned F z

-- ---- step 1: the exact sum
-- t is as many units, above zero or below it, as the ordinals x and a make together: nothing is lost. And rounding can take it
pub record Exactly (F : Format) (x a : ℕ) (t : ExactSum) : Type 0 where
  pub sign : IsSign F t.sign
  pub amounts : let f = F.fraction in let e = F.exponent in Amounts f f (gains f e x a) (losses f e x a) (is_set t.sign) t.size

-- ---- step 2: rounding
-- what r keeps is its result, taken apart
abbrev pub KeepsResult : ℕ → Rounding → Type 0
KeepsResult f r = r.kept.significand * 2 ^ r.kept.shift ≡ magnitude f r.result.m

-- where something was lost, the result is no finer than 2^shift units
abbrev pub Coarser : ℕ → Rounding → Type 0
Coarser shift r = r.result.exact ≡ false → shift ≤ r.kept.shift

-- r is n * 2^shift units, rounded, with the result taken apart
pub record RoundsUnits (f n shift : ℕ) (r : Rounding) : Type 0 where
  pub is : r.result ≡ rounding_of f (n * 2 ^ shift)
  pub kept : KeepsResult f r
  pub coarser : Coarser shift r

-- r is the exact size t, rounded: by the formula; of the floats of every exponent none is nearer, and of two equally near ones it is the even one; with the result taken apart
pub record Rounds (f : ℕ) (t : Exact) (r : Rounding) : Type 0 where
  pub is : r.result ≡ rounding_of f (size_of t)
  pub nearest : NearestSize f (size_of t) r.result.m
  pub kept : KeepsResult f r
  pub coarser : Coarser t.shift r

-- ---- step 3: the range test
-- the value of m passes the largest finite float: it is larger than every finite one
abbrev pub Passes : Format → ℕ → Type 0
Passes F m = (y : ℕ) → y < F.infinity → magnitude F.fraction y < magnitude F.fraction m

-- by m: the finite ones are those below infinity's
abbrev pub overflows : Format → Rounded → Bool
overflows F r = nat_le F.infinity r.m

-- what is left of r with a sign: infinity's m where it overflows, else its own with 01's mark
abbrev pub tested_of : Format → ℕ → Rounded → Tested
tested_of F sign r =
    cond (overflows F r)
    (Tested.Overflow (record { sign = sign; m = F.infinity }))
    (Tested.Finite (record { sign = sign; m = r.m }) (mark_for F.fraction r.m r.exact))

-- 01's answer, with the remainder z where there is one: refusal 9 for an overflow, else pattern, mark and remainder
abbrev pub answer_of : Format → Tested → Signed → Result Sum Refusal
answer_of F (Tested.Finite s mark) z = Ok (record { pattern = pattern F (ordinal_at F s); mark = mark; remainder = pattern F (ordinal_at F z) })
answer_of F (Tested.Overflow s) z = Err (refusal Reason.Overflow)

-- s is r with a sign after the range test
pub record RangeTested (F : Format) (sign : ℕ) (r : Rounded) (s : Tested) : Type 0 where
  pub is : s ≡ tested_of F sign r
  -- refusal 9 exactly where the rounded size passes the largest finite float, whatever is left over
  pub refused : (z : Signed) → (answer_of F s z ≡ Err (refusal Reason.Overflow)) ↔ Passes F r.m

-- ---- what rounding left over
-- r is the exact sum t, rounded
pub record RoundedSum (F : Format) (t : ExactSum) (r : Rounding) : Type 0 where
  pub sign : IsSign F t.sign
  pub roundable : Roundable F.fraction t.size
  pub rounds : Rounds F.fraction t.size r

-- z is what rounding left over of t, of which m is the rounded size: with t's sign where that is exact or too small, with the other where it is too large
pub data LeftOver (F : Format) (t : ExactSum) (m : ℕ) (z : Signed) : Type 0 where
  short : z.sign ≡ t.sign → size_of t.size ≡ magnitude F.fraction m + magnitude F.fraction z.m → LeftOver F t m z
  past : z.sign ≡ F.sign - t.sign → size_of t.size + magnitude F.fraction z.m ≡ magnitude F.fraction m → LeftOver F t m z

-- ---- the three together
-- the ordinal, an infinity's for an overflow
abbrev pub ordinal_of : Format → Tested → ℕ
ordinal_of F (Tested.Finite z mark) = ordinal_at F z
ordinal_of F (Tested.Overflow z) = ordinal_at F z

-- m is a finite float's, or infinity's for an overflow
abbrev pub InFormat : Format → Tested → Type 0
InFormat F (Tested.Finite z mark) = FiniteSigned F z
InFormat F (Tested.Overflow z) = z.m ≡ F.infinity

-- v with z as what is left over is 01's answer, and z is finite
pub record AnswersWith (F : Format) (x a : ℕ) (v : Tested) (z : Signed) : Type 0 where
  pub finite : FiniteSigned F z
  pub is : answer_of F v z ≡ sum_answer F x a

-- a finite sum with what rounding left over, or the refusal, is 01's answer
abbrev pub IsAnswer : Format → ℕ → ℕ → Addition → Tested → Type 0
IsAnswer F x a s (Tested.Finite y mark) = (z : Signed) → LeftOver F s.exact s.rounding.result.m z → AnswersWith F x a (Tested.Finite y mark) z
IsAnswer F x a s (Tested.Overflow y) = Err (refusal Reason.Overflow) ≡ sum_answer F x a

-- s is the sum of the ordinals x and a, and v what its range test leaves
pub record IsSum (F : Format) (x a : ℕ) (s : Addition) (v : Tested) : Type 0 where
  pub rounded : RoundedSum F s.exact s.rounding
  pub within : InFormat F v
  pub ordinal : ordinal_of F v ≡ sum F x a
  pub answer : IsAnswer F x a s v

-- ---- the shift
-- the interval between two sums, low's and high's; the first that is refused refuses
abbrev pub between_sums : Result Sum Refusal → Result Sum Refusal → Result Interval Refusal
between_sums (Ok s) (Ok t) = Ok (record { low = s.pattern; high = t.pattern })
between_sums (Ok s) (Err q) = Err q
between_sums (Err q) high = Err q
