-- 02's records: sums, diffs and negs over the cells of a sheet; the cells that one names, and when values fit it. Assumes nothing.
use Rattle.std.specs.Prelude.{◌≡◌, Bool, List, [], ◌∷◌, ℕ, ◌<◌, eqb}
use Rattle.ladder.specs.Ordinal.{mirrored}
use Rattle.ladder.specs.Sum as Sums
use Rattle.sheet.specs.declared.kept.Record.{Record}
use Rattle.sheet.specs.declared.kind.Kind.{Kind}
use Rattle.sheet.specs.declared.kind.Kind.TheVariants.{Sum, Diff, Neg}
use Rattle.sheet.specs.Kinds.{kind_of}
use Rattle.sheet.specs.Members.{Each}

-- ---- cells
-- the cells that a record of the kind names; the third number of a neg names none
abbrev pub named_by : Kind → Record → List ℕ
named_by Sum r = r.x ∷ r.a ∷ r.b ∷ []
named_by Diff r = r.x ∷ r.a ∷ r.b ∷ []
named_by Neg r = r.x ∷ r.a ∷ []

-- the cells that a record names
abbrev pub named : Record → List ℕ
named r = named_by (kind_of r.kind) r

-- ---- values
-- a value for each cell, by its ordinal: one value, wherever a record names the cell (02, R-4)
abbrev pub Values : Type 0
Values = ℕ → ℕ

-- 02: x ⊕ a = b for a sum, x ⊕ (-a) = b for a diff, y = -x for a neg, whose y is the second number
abbrev pub fits_by : ℕ → ℕ → Kind → ℕ → ℕ → ℕ → Bool
fits_by f e Sum x a b = eqb (Sums.sum f e x a) b
fits_by f e Diff x a b = eqb (Sums.sum f e x (mirrored f e a)) b
fits_by f e Neg x y b = eqb y (mirrored f e x)

-- whether values fit a record
abbrev pub Rules : Type 0
Rules = Record → Values → Bool

-- rules that read the values of a record's own cells alone
abbrev pub Local : Rules → Type 0
Local rules = (r : Record) (v w : Values) → Each (λ i. v i ≡ w i) (named r) → rules r v ≡ rules r w

-- 02's rules, for the format with f fraction bits and e exponent bits
unfoldable pub fits : ℕ → ℕ → Rules
fits f e r v = fits_by f e (kind_of r.kind) (v r.x) (v r.a) (v r.b)

-- ---- a record over n cells
-- one that is not refused: its kind is one of the three and the third number of a neg is 0 (else 4); the cells that it names are there (else 5)
pub record Names (n : ℕ) (r : Record) : Type 0 where
  pub kind : r.kind < 3
  pub third : kind_of r.kind ≡ Neg → r.b ≡ 0
  pub cells : Each (λ i. i < n) (named r)
