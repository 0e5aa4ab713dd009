-- The least and the greatest number with a property: the lesser and the greater of two, read off in a mirror, and together the ends of an interval. Assumes nothing.
use mathlib.Core.Path.{◌≡◌, subst}
use mathlib.Core.Logic.{inl, inr}
use Prim.Native.Nat.{ℕ, ◌-◌, ◌≤◌, min, max}
use native.Mathlib.Omega.{arith}
use Rattle.ladder.specs.Narrowing.{Spans}
use Rattle.ladder.specs.Search.{Never, Least, Greatest}
use Rattle.ladder.proofs.Cases.{le_or_lt}

pub spans_of : {P : ℕ → Type 0} {l h : ℕ} → Least P l → Greatest P h → Spans P (record { low = l; high = h })
spans_of p q = record { low = p.holds; high = q.holds; all = λ y r. record { low = p.least y r; high = q.most y r } }

-- of two numbers with the property, the lesser and the greater
pub min_holds : (P : ℕ → Type 0) (s t : ℕ) → P s → P t → P (min s t)
min_holds P s t p q = elim (le_or_lt s t) [
  | inl h ↦ let e : s ≡ min s t = omega arith in subst P e p
  | inr h ↦ let e : t ≡ min s t = omega arith in subst P e q
]

pub max_holds : (P : ℕ → Type 0) (s t : ℕ) → P s → P t → P (max s t)
max_holds P s t p q = elim (le_or_lt s t) [
  | inl h ↦ let e : t ≡ max s t = omega arith in subst P e q
  | inr h ↦ let e : s ≡ max s t = omega arith in subst P e p
]

-- ---- two properties of which one holds at t - z where the other holds at z
module _ (t : ℕ) (P Q : ℕ → Type 0) (to : (z : ℕ) → P z → Q (t - z)) where
  pub mirror_never : Never Q → Never P
  mirror_never n z p = n (t - z) (to z p)

  pub mirror_greatest : (from : (z : ℕ) → Q z → P (t - z)) (top : (z : ℕ) → P z → z ≤ t) (y : ℕ) → Least Q y → Greatest P (t - y)
  mirror_greatest from top y l = record {
    holds = from y l.holds;
    most = λ z p. omega (arith, l.least (t - z) (to z p), top z p);
  }
