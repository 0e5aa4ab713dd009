-- A record by its kind; and one without a fault is one over the sheet's cells (`Names`) and the other way round, so that it has none where there is a cell more. Assumes nothing.
use mathlib.Core.Path.{◌≡◌, refl, ap, subst, ◌∙◌}
use mathlib.Core.Bool.{Bool, true, false, cond, ◌&&◌, and-false}
use Rattle.std.specs.List.{list_all}
use Rattle.std.specs.Prelude.{Result, Ok, Err}
use Rattle.std.specs.Result.{result_unwrap_or}
use mathlib.Core.List.{List, [], ◌∷◌}
use Prim.Native.Nat.{ℕ, ◌+◌, ◌<◌, ◌≤◌}
use native.Mathlib.Omega.{arith}
use native.Mathlib.Decide.{ℕ_discrete}
use lib.Dec.{leb, ltb}
use borrow.Author.Tests.{leb-false, lt-leb, le-leb, eq-eqb, ne_eqb, ltb-true, ltb-false, le-ltb}
use Rattle.sheet.specs.declared.kept.Record.{Record}
use Rattle.sheet.specs.Members.{Each, Member, here, later}
use Rattle.sheet.specs.declared.kind.Kind.{Kind}
use Rattle.sheet.specs.declared.kind.Kind.TheVariants.{Sum, Diff, Neg}
use Rattle.sheet.specs.declared.kind.UnknownKind.{UnknownKind}
use Rattle.sheet.specs.Kinds.{number_of, kind_of, Numbers}
use Rattle.sheet.specs.Records.{named_by, named, Names}
use Rattle.arith.specs.declared.refusal.Reason.{Reason}
use Rattle.arith.specs.Refusals.{tested}
use Rattle.sheet.specs.Faults.{Fault, has_third, named_fault, record_fault}
use Rattle.sheet.proofs.Members.{each_member, each_map}

-- ---- kinds by their numbers
number_back : (k : Kind) → k ≡ kind_of (number_of k)
number_back Sum = refl
number_back Diff = refl
number_back Neg = refl

-- the kind that a number tells, Neg where it tells none
pub kind_told : (n : ℕ) (r : Result Kind UnknownKind) → Numbers n r → result_unwrap_or r Neg ≡ kind_of n
kind_told n (Ok k) e = number_back k ∙ ap kind_of e
kind_told n (Err u) l = rw (ne_eqb n 0 (λ z. omega arith), ne_eqb n 1 (λ z. omega arith))

pub data Kinded (n : ℕ) : Type 0 where
  a_sum : n ≡ 0 → kind_of n ≡ Sum → Kinded n
  a_diff : n ≡ 1 → kind_of n ≡ Diff → Kinded n
  a_neg : 2 ≤ n → kind_of n ≡ Neg → Kinded n

pub kinded : (n : ℕ) → Kinded n
kinded n = go (ℕ_discrete n 0) (ℕ_discrete n 1)
  where
    go : Dec (n ≡ 0) → Dec (n ≡ 1) → Kinded n
    go (yes e) q = a_sum e (rw (eq-eqb n 0 e))
    go (no m) (yes e) = a_diff e (rw (ne_eqb n 0 m, eq-eqb n 1 e))
    go (no m) (no k) = a_neg (omega arith) (rw (ne_eqb n 0 m, ne_eqb n 1 k))

-- what counts as a neg has the number 2 or one above
neg_from_two : (n : ℕ) → kind_of n ≡ Neg → 2 ≤ n
neg_from_two n h = go (kinded n)
  where
    go : Kinded n → 2 ≤ n
    go (a_sum z k) = absurd (let e : ◌≡◌ {A = ℕ} 0 1 = cc in omega arith)
    go (a_diff z k) = absurd (let e : ◌≡◌ {A = ℕ} 0 1 = cc in omega arith)
    go (a_neg l k) = l

-- what holds of the cells that a record names holds of those of its kind
to_kind : (r : Record) (k : Kind) → kind_of r.kind ≡ k → (P : List ℕ → Type 0) → P (named r) → P (named_by k r)
to_kind r k e P p = subst (λ (l : Kind). P (named_by l r)) e p

-- ---- the numbers of a record
-- a sum and a diff name all three
pub three_named : (r : Record) → r.kind < 2 → named r ≡ r.x ∷ r.a ∷ r.b ∷ []
three_named r l = go (kinded r.kind)
  where
    go : Kinded r.kind → named r ≡ r.x ∷ r.a ∷ r.b ∷ []
    go (a_sum z k) = rw k
    go (a_diff z k) = rw k
    go (a_neg m k) = absurd (omega arith)

-- every record names its x and its a
pub x_named : (r : Record) → Member r.x (named r)
x_named r = go (kind_of r.kind)
  where
    go : (k : Kind) → Member r.x (named_by k r)
    go Sum = here
    go Diff = here
    go Neg = here

a_named : (r : Record) → Member r.a (named r)
a_named r = go (kind_of r.kind)
  where
    go : (k : Kind) → Member r.a (named_by k r)
    go Sum = later here
    go Diff = later here
    go Neg = later here

module _ (n : ℕ) (r : Record) (m : Names n r) where
  pub first_in : r.x < n
  first_in = each_member (λ i. i < n) (x_named r) m.cells

  pub second_in : r.a < n
  second_in = each_member (λ i. i < n) (a_named r) m.cells

  -- the third number of a neg is 0, and there is a cell 0
  pub third_in : r.b < n
  third_in = go (kinded r.kind)
    where
      go : Kinded r.kind → r.b < n
      go (a_sum z k) = (to_kind r Sum k (Each (λ i. i < n)) m.cells).1.1.0
      go (a_diff z k) = (to_kind r Diff k (Each (λ i. i < n)) m.cells).1.1.0
      go (a_neg l k) = omega (arith, m.third k, first_in)

-- ---- faults
-- a test that finds nothing, and what the tests after it find
passes_by : (t : Bool) (n : Reason) (m : Fault) → cond t (Err n) m ≡ Ok tt → (t ≡ false) × (m ≡ Ok tt)
passes_by true n m e = absurd (let z : ◌≡◌ {A = ℕ} 0 1 = cc in omega arith)
passes_by false n m e = (refl, e)

-- the third number of a neg without a fault is 0, and the other way round
zero_third : (r : Record) → r.kind ≤ 2 → has_third r ≡ false → kind_of r.kind ≡ Neg → r.b ≡ 0
zero_third r l e h =
    let two : r.kind ≡ 2 = omega (arith, neg_from_two r.kind h) in
    omega (arith, ltb-false 0 r.b (rw (eq-eqb r.kind 2 two) at e))

third_zero : (r : Record) → (kind_of r.kind ≡ Neg → r.b ≡ 0) → has_third r ≡ false
third_zero r z = go (kinded r.kind)
  where
    go : Kinded r.kind → has_third r ≡ false
    go (a_sum e k) = rw e
    go (a_diff e k) = rw e
    go (a_neg l k) = rw (z k, and-false)

-- cells without a fault are there, and the other way round
all_there : (n : ℕ) (l : List ℕ) → named_fault n l ≡ Ok tt → Each (λ i. i < n) l
unfolding named_fault
all_there n [] e = tt
all_there n (i ∷ l) e =
    let p = passes_by (leb n i) Reason.NoCell (named_fault n l) e in
    (leb-false n i p.0, all_there n l p.1)

there_all : (n : ℕ) (l : List ℕ) → Each (λ i. i < n) l → named_fault n l ≡ Ok tt
unfolding named_fault
there_all n [] h = refl
there_all n (i ∷ l) h = rw (lt-leb n i h.0) (there_all n l h.1)

-- the one answer, by the question whether all are there
pub named_all : (n : ℕ) (l : List ℕ) → tested (list_all (λ i. ltb i n) l) Reason.NoCell ≡ named_fault n l
unfolding named_fault
named_all n [] = refl
named_all n (i ∷ l) = go (ltb i n) refl (named_all n l)
  where
    go : (t : Bool) → ltb i n ≡ t → tested (list_all (λ j. ltb j n) l) Reason.NoCell ≡ named_fault n l → tested (t && list_all (λ j. ltb j n) l) Reason.NoCell ≡ cond (leb n i) (Err Reason.NoCell) (named_fault n l)
    go true e rest = rw (lt-leb n i (ltb-true i n e)) rest
    go false e rest = rw (le-leb n i (ltb-false i n e))

-- ---- a record without a fault
pub names_of : (n : ℕ) (r : Record) → record_fault n r ≡ Ok tt → Names n r
unfolding record_fault
names_of n r e =
    let p = passes_by (ltb 2 r.kind) Reason.Malformed _ e in
    let q = passes_by (has_third r) Reason.Malformed _ p.1 in
    let l = ltb-false 2 r.kind p.0 in
    record { kind = omega arith; third = zero_third r l q.0; cells = all_there n (named r) q.1 }

of_names : (n : ℕ) (r : Record) → Names n r → record_fault n r ≡ Ok tt
unfolding record_fault
of_names n r m = rw (le-ltb 2 r.kind (omega (arith, m.kind)), third_zero r m.third) (there_all n (named r) m.cells)

-- one cell more
pub record_more : (n : ℕ) (r : Record) → record_fault n r ≡ Ok tt → record_fault (n + 1) r ≡ Ok tt
record_more n r z =
    let m = names_of n r z in
    of_names (n + 1) r
    (record { kind = m.kind; third = m.third; cells = each_map (λ i. i < n) (λ i. i < n + 1) (named r) (λ i l. omega arith) m.cells })
