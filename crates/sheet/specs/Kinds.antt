-- 02's kinds of record, `sum`, `diff` and `neg`, by their numbers. Assumes nothing.
use Rattle.std.specs.Prelude.{◌≡◌, ℕ, cond, eqb, ◌<◌, Result, MatchResult}
use Rattle.sheet.specs.declared.kind.Kind.{Kind}
use Rattle.sheet.specs.declared.kind.Kind.TheVariants.{Sum, Diff, Neg}
use Rattle.sheet.specs.declared.kind.UnknownKind.{UnknownKind}

-- 02: 0 sum, 1 diff, 2 neg
abbrev pub number_of : Kind → ℕ
number_of Sum = 0
number_of Diff = 1
number_of Neg = 2

-- and back. A record of any other number is refused with 4 and never used; here it counts as neg
abbrev pub kind_of : ℕ → Kind
kind_of n = cond (eqb n 0) Sum (cond (eqb n 1) Diff Neg)

-- the kind with this number; or none, since it is above them all
abbrev pub Numbers : ℕ → Result Kind UnknownKind → Type 0
Numbers n r = MatchResult r (λ k. number_of k ≡ n) (λ _. 2 < n)
