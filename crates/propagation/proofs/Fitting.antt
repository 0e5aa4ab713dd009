-- 02's rules by the kind of a record, and that they read the values of its own cells alone. Assumes nothing.
use mathlib.Core.Path.{◌≡◌, ap}
use Prim.Native.Nat.{ℕ}
use Rattle.sheet.specs.declared.kept.Record.{Record}
use Rattle.sheet.specs.Members.{Each}
use Rattle.sheet.specs.declared.kind.Kind.{Kind}
use Rattle.sheet.specs.declared.kind.Kind.TheVariants.{Sum, Diff, Neg}
use Rattle.sheet.specs.Kinds.{kind_of}
use Rattle.sheet.specs.Records.{named_by, Values, fits_by, Local, fits}

module _ (f e : ℕ) where
  -- of a known kind
  pub fits_as : (r : Record) (k : Kind) → kind_of r.kind ≡ k → (v : Values) → fits f e r v ≡ fits_by f e k (v r.x) (v r.a) (v r.b)
  unfolding fits
  fits_as r k q v = ap (λ (l : Kind). fits_by f e l (v r.x) (v r.a) (v r.b)) q

  -- values that agree at a record's cells fit alike
  fits_kind : (k : Kind) (r : Record) (v w : Values) → Each (λ i. v i ≡ w i) (named_by k r) → fits_by f e k (v r.x) (v r.a) (v r.b) ≡ fits_by f e k (w r.x) (w r.a) (w r.b)
  fits_kind Sum r v w s = rw (s.0, s.1.0, s.1.1.0)
  fits_kind Diff r v w s = rw (s.0, s.1.0, s.1.1.0)
  fits_kind Neg r v w s = rw (s.0, s.1.0)

  pub fits_local : Local (fits f e)
  unfolding fits
  fits_local r v w s = fits_kind (kind_of r.kind) r v w s
