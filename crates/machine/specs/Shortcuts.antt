-- The narrowing by a few sums of the machine: each step by what holds of it where it is sure. For contracts inside the crate; no public one cites it. Assumes nothing.
use Rattle.std.specs.Prelude.{◌≡◌, true, false, ℕ, ◌≤◌, ◌<◌, Result, Ok, Err}
use Rattle.ladder.specs.Solution.{In}
use Rattle.ladder.specs.Search as S
use Rattle.ladder.specs.Narrowing as N
use Rattle.arith.specs.declared.format.Format.{Format}
use Rattle.arith.specs.declared.interval.Interval.{Interval}
use Rattle.arith.specs.declared.refusal.Refusal.{Refusal}
use Rattle.arith.specs.declared.narrow.Narrowed.{Narrowed}
use Rattle.arith.specs.Formats.{is_finite, Finite, ordinal, sum, mirrored}
use Rattle.arith.specs.Intervals.{range_of, ends_finite, is_ordered}
use Rattle.arith.specs.Narrows.{narrowing}
use Rattle.machine.specs.declared.guess.Checked.{Checked}
use Rattle.machine.specs.declared.guess.Pair.{Pair}
use Rattle.machine.specs.declared.guess.Left.{Left}
use Rattle.machine.specs.declared.«end».End.{End}
use Rattle.machine.specs.declared.shortcut.Verdict.{Verdict}
use Rattle.machine.specs.Floats.{is_number, ordinals}

-- ---- the intervals
-- their ends are finite and in order
pub record Admitted (F : Format) (x a b : Interval) : Type 0 where
  pub finite : (ends_finite F x ≡ true) × (ends_finite F a ≡ true) × (ends_finite F b ≡ true)
  pub ordered : (is_ordered (range_of F x) ≡ true) × (is_ordered (range_of F a) ≡ true) × (is_ordered (range_of F b) ≡ true)

-- ---- one operand
-- where sure, the operands with a sum with p of at least q are those from y on
pub record Checks (F : Format) (p q : ℕ) (t : Checked) : Type 0 where
  pub finite : is_finite F t.y ≡ true
  pub least : t.sure ≡ true → S.Threshold F.fraction F.exponent (ordinal F p) (ordinal F q) (ordinal F t.y)

-- ---- both operands
-- t's sum is that of its ends, which are finite
pub record Summed (F : Format) (t : Pair) : Type 0 where
  pub low : is_finite F t.low ≡ true
  pub high : is_finite F t.high ≡ true
  pub number : is_number F t.sum ≡ true
  pub is : ordinal F t.sum ≡ sum F (ordinal F t.low) (ordinal F t.high)

-- the operands from x on and up to a that make a sum inside b lie from t's low end on and up to its high end
pub record Trims (F : Format) (x a : ℕ) (b : Interval) (t : Pair) : Type 0 where
  pub summed : Summed F t
  pub trimmed : S.Trimmed F.fraction F.exponent (ordinals F b) (ordinal F x) (ordinal F a) (ordinal F t.low) (ordinal F t.high)

-- p trims x's low and a's high end, q a's low and x's high end
pub record Trimmings (F : Format) (x a b : Interval) (p q : Pair) : Type 0 where
  pub first : Trims F x.low a.high b p
  pub second : Trims F a.low x.high b q

-- what they leave of x
abbrev pub left_x : Pair → Pair → Interval
left_x p q = record { low = p.low; high = q.high }

-- and of a
abbrev pub left_a : Pair → Pair → Interval
left_a p q = record { low = q.low; high = p.high }

-- both
abbrev pub left_of : Pair → Pair → Left
left_of p q = record { x = left_x p q; a = left_a p q }

-- a number stands in a triple of x, a and b, as the sum
abbrev pub HasB : Format → Interval → Interval → Interval → ℕ → Type 0
HasB F x a b = N.HasB F.fraction F.exponent (ordinals F x) (ordinals F a) (ordinals F b)

-- u is zero, or every value of what they leave is a multiple of it
abbrev pub Gridded : Format → Pair → Pair → ℕ → Type 0
Gridded F p q u = S.Grid F.fraction F.exponent (ordinals F (left_x p q)) (ordinals F (left_a p q)) (ordinal F u)

-- s is past b and s less u falls short of it, or s falls short of b and s plus u is past it
pub data Passes (F : Format) (s u : ℕ) (b : Interval) : Type 0 where
  over : Finite F (ordinal F s) → ordinal F b.high < ordinal F s → sum F (ordinal F s) (mirrored F (ordinal F u)) < ordinal F b.low → Passes F s u b
  under : Finite F (ordinal F s) → ordinal F s < ordinal F b.low → ordinal F b.high < sum F (ordinal F s) (ordinal F u) → Passes F s u b

-- what p and q leave is in order
pub record Bounds (F : Format) (p q : Pair) : Type 0 where
  pub x_order : ordinal F p.low ≤ ordinal F q.high
  pub a_order : ordinal F q.low ≤ ordinal F p.high

-- their sums are inside b
pub record Corners (F : Format) (b : Interval) (p q : Pair) : Type 0 where
  pub first : In (ordinals F b) (ordinal F p.sum)
  pub second : In (ordinals F b) (ordinal F q.sum)

-- corners with the grid, for b's ends
pub record CornersOf (F : Format) (p q : Pair) (u : ℕ) (b : Interval) : Type 0 where
  pub first : Summed F p
  pub second : Summed F q
  pub finite : ends_finite F b ≡ true
  pub u_finite : is_finite F u ≡ true
  pub grid : Gridded F p q u
  pub bounds : Bounds F p q
  pub corners : Corners F b p q

-- bounds, in order, that are corners; or that there is no triple; or bounds in order
abbrev pub Judges : Format → Interval → Interval → Interval → Pair → Pair → Verdict → Type 0
Judges F x a b p q Verdict.Corners = Bounds F p q × Corners F b p q
Judges F x a b p q Verdict.None = N.none ≡ narrowing F (range_of F x) (range_of F a) (range_of F b)
Judges F x a b p q Verdict.Bounds = Bounds F p q

-- ---- b's ends
-- v is an end that sums show: the sum of the low ends, where that is not below b; or the sum k, where that is no more than b, or k less u falls short of b
pub data Known (F : Format) (low k u b v : ℕ) : Type 0 where
  at_low : ordinal F b ≤ ordinal F low → ordinal F v ≡ ordinal F low → Known F low k u b v
  at_sum : ordinal F k ≤ ordinal F b → ordinal F v ≡ ordinal F k → Known F low k u b v
  at_gap : sum F (ordinal F k) (mirrored F (ordinal F u)) < ordinal F b → ordinal F v ≡ ordinal F k → Known F low k u b v

-- the end t: by such sums where it says that it is known, else b
pub record KnownEnd (F : Format) (low k u b : ℕ) (t : End) : Type 0 where
  pub finite : is_finite F t.b ≡ true
  pub known : t.known ≡ true → Known F low k u b t.b
  pub own : t.known ≡ false → t.b ≡ b

-- x and a have numbers with the sum b
pub record Reached (F : Format) (x a : Interval) (b : ℕ) : Type 0 where
  pub y : ℕ
  pub z : ℕ
  pub x_in : In (ordinals F x) y
  pub a_in : In (ordinals F a) z
  pub is : sum F y z ≡ ordinal F b

-- r is i mirrored, its ends finite
abbrev pub Mirrors : Format → Interval → Interval → Type 0
Mirrors F i r = (ends_finite F r ≡ true) × (ordinal F r.low ≡ mirrored F (ordinal F i.high)) × (ordinal F r.high ≡ mirrored F (ordinal F i.low))

-- the low end, where known, is the least b in a triple of what is left; else it is b's own
pub record LowEnd (F : Format) (p q : Pair) (b : Interval) (t : End) : Type 0 where
  pub finite : is_finite F t.b ≡ true
  pub known : t.known ≡ true → S.Least (HasB F (left_x p q) (left_a p q) b) (ordinal F t.b)
  pub own : t.known ≡ false → ordinal F t.b ≡ ordinal F b.low

-- the high end, where known, is the greatest; else it is b's own
pub record HighEnd (F : Format) (p q : Pair) (b : Interval) (t : End) : Type 0 where
  pub finite : is_finite F t.b ≡ true
  pub known : t.known ≡ true → S.Greatest (HasB F (left_x p q) (left_a p q) b) (ordinal F t.b)
  pub own : t.known ≡ false → ordinal F t.b ≡ ordinal F b.high

-- i runs from the least to the greatest, its ends finite
abbrev pub EndsOfB : Format → Pair → Pair → Interval → Interval → Type 0
EndsOfB F p q b i = (ends_finite F i ≡ true) × N.Spans (HasB F (left_x p q) (left_a p q) b) (ordinals F i)

-- ---- the whole
-- what a shortcut says of x and a, where answer gives the narrowing for two operands: the one for them, or what is left of them, with the same one
abbrev pub Answers : (Interval → Interval → Result Narrowed Refusal) → Interval → Interval → Result (Result Narrowed Refusal) Left → Type 0
Answers answer x a (Ok r) = r ≡ answer x a
Answers answer x a (Err l) = answer l.x l.a ≡ answer x a
