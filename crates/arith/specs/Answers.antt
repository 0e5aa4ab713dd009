-- 01's reply as plain numbers, and what each case of an answer tells of it: number, place and values. Assumes nothing.
use Rattle.std.specs.Prelude.{ℕ, List, [], ◌∷◌, ◌++◌, Option, Some, None, Result, Ok, Err}
use Rattle.arith.specs.declared.refusal.Refusal.{Refusal}
use Rattle.arith.specs.declared.interval.Interval.{Interval}
use Rattle.arith.specs.declared.sum.Sum.{Sum}
use Rattle.arith.specs.declared.narrow.Narrowed.{Narrowed}
use Rattle.arith.specs.declared.repeated.Paired.{Paired}
use Rattle.arith.specs.Refusals as Refusals
use Rattle.arith.specs.Sums.{mark_number}

-- ---- a reply
-- 01's number, 0 where nothing is refused; the place; the values, none with a refusal
pub record Reply (A : Type 0) : Type 0 where
  pub number : ℕ
  pub place : ℕ
  pub values : List A

-- a result
abbrev pub gives : {A : Type 0} → List A → Reply A
gives values = record { number = 0; place = 0; values = values }

-- a refusal
abbrev pub refuses : {A : Type 0} → Refusal → Reply A
refuses r = record { number = Refusals.number r.reason; place = r.place; values = [] }

-- an interval's ends, low then high
abbrev pub two_ends : Interval → List ℕ
two_ends I = I.low ∷ I.high ∷ []

-- ---- what each case tells
-- the values of a result, or the refusal
abbrev pub told : {A B : Type 0} → (A → List B) → Result A Refusal → Reply B
told values (Ok answer) = gives (values answer)
told values (Err r) = refuses r

-- the forward sum: its pattern, mark and remainder
abbrev pub sum_values : Sum → List ℕ
sum_values s = s.pattern ∷ mark_number s.mark ∷ s.remainder ∷ []

-- as a reply
abbrev pub sum_told : Result Sum Refusal → Reply ℕ
sum_told = told sum_values

-- the cut: its ends, or no value where nothing is shared
abbrev pub shared_values : Option Interval → List ℕ
shared_values (Some I) = two_ends I
shared_values None = []

-- as a reply
abbrev pub cut_told : Result (Option Interval) Refusal → Reply ℕ
cut_told = told shared_values

-- the shift, the mirror and the canonical form: the ends
abbrev pub image_told : Result Interval Refusal → Reply ℕ
image_told = told two_ends

-- the narrowing of one sum: the six ends, of x, a, b
abbrev pub narrowed_values : Narrowed → List ℕ
narrowed_values n = two_ends n.x ++ two_ends n.a ++ two_ends n.b

-- as a reply
abbrev pub narrowed_told : Result Narrowed Refusal → Reply ℕ
narrowed_told = told narrowed_values

-- that of a sum with one float in two places: the four ends, of the first and the second
abbrev pub paired_values : Paired → List ℕ
paired_values n = two_ends n.p ++ two_ends n.q

-- as a reply
abbrev pub paired_told : Result Paired Refusal → Reply ℕ
paired_told = told paired_values
