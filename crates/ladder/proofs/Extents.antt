-- The search through an interval, one number after the other, finds from the least to the greatest of those that pass the test, and there is one such extent. Assumes nothing.
use mathlib.Core.Path.{◌≡◌, refl, sym, ap, ap₂, ◌∙◌, subst}
use mathlib.Core.Logic.{◌⊎◌, inl, inr}
use mathlib.Core.Bool.{Bool, true, false, ◌||◌}
use Prim.Native.Nat.{ℕ, zero, suc, ◌+◌, ◌-◌, ◌≤◌, ◌<◌}
use native.Mathlib.Nat.{le_refl, eq-or-lt_of_le}
use native.Mathlib.Omega.{arith}
use lib.Dec.{T}
use Rattle.ladder.specs.Solution.{Interval, In}
use Rattle.ladder.specs.Narrowing.{any_from, any_in, Extent, empty, over, widen, extent_from, extent_in, Spans}
use Rattle.ladder.specs.Search.{Never}

-- ---- one of them
or_cases : (a b : Bool) → T (a || b) → T a ⊎ T b
or_cases true b h = inl tt
or_cases false b h = inr h

or_left : (a b : Bool) → T a → T (a || b)
or_left true b h = tt
or_left false b h = absurd h

or_right : (a b : Bool) → T b → T (a || b)
or_right true b h = tt
or_right false b h = h

-- z is one of the n numbers from y on, and passes
record Among (t : ℕ → Bool) (y n z : ℕ) : Type 0 where
  low : y ≤ z
  high : z < y + n
  holds : T (t z)

later : {t : ℕ → Bool} {y n z : ℕ} → Among t (suc y) n z → Among t y (suc n) z
later r = record { low = omega arith; high = omega arith; holds = r.holds }

first : (t : ℕ → Bool) (y n : ℕ) → T (t y) → Among t y (suc n) y
first t y n p = record { low = le_refl y; high = omega arith; holds = p }

split : (t : ℕ → Bool) (y n z : ℕ) → Among t y (suc n) z → (y ≡ z) ⊎ Among t (suc y) n z
split t y n z r = elim (eq-or-lt_of_le r.low) [ inl e ↦ inl e | inr g ↦ inr (record { low = g; high = omega arith; holds = r.holds }) ]

record Some (t : ℕ → Bool) (y n : ℕ) : Type 0 where
  z : ℕ
  among : Among t y n z

some_from : (t : ℕ → Bool) (y n : ℕ) → T (any_from t y n) → Some t y n
unfolding any_from
some_from t y zero h = absurd h
some_from t y (suc n) h = elim (or_cases (t y) (any_from t (suc y) n) h) [
  | inl p ↦ record { z = y; among = first t y n p }
  | inr p ↦ let r = some_from t (suc y) n p in record { z = r.z; among = later r.among }
]

any_from_lem : (t : ℕ → Bool) (y n z : ℕ) → Among t y n z → T (any_from t y n)
unfolding any_from
any_from_lem t y zero z r = absurd (omega arith)
any_from_lem t y (suc n) z r = elim (split t y n z r) [
  | inl e ↦ or_left (t y) (any_from t (suc y) n) (subst (λ (w : ℕ). T (t w)) (sym e) r.holds)
  | inr g ↦ or_right (t y) (any_from t (suc y) n) (any_from_lem t (suc y) n z g)
]

pub record Passing (I : Interval) (t : ℕ → Bool) : Type 0 where
  pub z : ℕ
  pub inside : In I z
  pub holds : T (t z)

pub some_in : (I : Interval) (t : ℕ → Bool) → T (any_in I t) → Passing I t
some_in I t h =
    let r = some_from t I.low (suc I.high - I.low) h in
    let a = r.among in
    record { z = r.z; inside = record { low = a.low; high = omega arith }; holds = a.holds }

pub any_in_lem : (I : Interval) (t : ℕ → Bool) (z : ℕ) → In I z → T (t z) → T (any_in I t)
any_in_lem I t z i p = any_from_lem t I.low (suc I.high - I.low) z (record { low = i.low; high = omega arith; holds = p })

-- ---- from the least to the greatest
abbrev pub IsExtent : (ℕ → Type 0) → Extent → Type 0
IsExtent P empty = Never P
IsExtent P (over i) = Spans P i

widens : (t : ℕ → Bool) (y n : ℕ) (b : Bool) → b ≡ t y → (s : Extent) → IsExtent (Among t (suc y) n) s → IsExtent (Among t y (suc n)) (widen b y s)
widens t y n false e empty h = λ z r. elim (split t y n z r) [
  | inl q ↦ subst T (ap t (sym q) ∙ sym e) r.holds
  | inr q ↦ h z q
]
widens t y n false e (over i) h = record {
  low = later h.low;
  high = later h.high;
  all = λ z r. elim (split t y n z r) [ inl q ↦ absurd (subst T (ap t (sym q) ∙ sym e) r.holds) | inr q ↦ h.all z q ];
}
widens t y n true e empty h = record {
  low = first t y n (subst T e tt);
  high = first t y n (subst T e tt);
  all = λ z r. elim (split t y n z r) [ inl q ↦ record { low = omega arith; high = omega arith } | inr q ↦ absurd (h z q) ];
}
widens t y n true e (over i) h = record {
  low = first t y n (subst T e tt);
  high = later h.high;
  all = λ z r. elim (split t y n z r) [
    | inl q ↦ let k = h.high in record { low = omega arith; high = omega arith }
    | inr q ↦ let k = h.all z q in record { low = omega arith; high = omega arith }
  ];
}

extent_from_lem : (t : ℕ → Bool) (y n : ℕ) → IsExtent (Among t y n) (extent_from t y n)
unfolding extent_from
extent_from_lem t y zero = λ z r. omega arith
extent_from_lem t y (suc n) = widens t y n (t y) refl (extent_from t (suc y) n) (extent_from_lem t (suc y) n)

-- of one property for another that holds of the same numbers
extent_map : (P Q : ℕ → Type 0) (s : Extent) → ((y : ℕ) → P y → Q y) → ((y : ℕ) → Q y → P y) → IsExtent P s → IsExtent Q s
extent_map P Q empty p q h = λ y r. h y (q y r)
extent_map P Q (over i) p q h = record { low = p i.low h.low; high = p i.high h.high; all = λ y r. h.all y (q y r) }

pub extent_in_lem : (I : Interval) (t : ℕ → Bool) (Q : ℕ → Type 0) → ((y : ℕ) → In I y → T (t y) → Q y) → ((y : ℕ) → Q y → In I y × T (t y)) → IsExtent Q (extent_in I t)
extent_in_lem I t Q p q =
    extent_map (Among t I.low (suc I.high - I.low)) Q (extent_in I t)
    (λ y r. p y (record { low = r.low; high = omega arith }) r.holds)
    (λ y r. let w = q y r in let i = w.0 in record { low = i.low; high = omega arith; holds = w.1 })
    (extent_from_lem t I.low (suc I.high - I.low))

-- ---- there is one
pub extent_unique : (P : ℕ → Type 0) (r s : Extent) → IsExtent P r → IsExtent P s → r ≡ s
extent_unique P empty empty p q = refl
extent_unique P empty (over j) p q = absurd (p j.low q.low)
extent_unique P (over i) empty p q = absurd (q i.low p.low)
extent_unique P (over i) (over j) p q =
    let a = p.all j.low q.low in
    let b = p.all j.high q.high in
    let c = q.all i.low p.low in
    let d = q.all i.high p.high in
    let e : i.low ≡ j.low = omega arith in
    let f : i.high ≡ j.high = omega arith in
    ap₂ (λ (l h : ℕ). let k : Interval = record { low = l; high = h } in over k) e f
