-- The first fault of a list, one member after the other: what the loops of the test rest on.
-- Assumes nothing.
use Rattle.std.specs.Prelude.{Ok, Err}
use mathlib.Core.Path.{◌≡◌, refl, sym, ap, ◌∙◌}
use mathlib.Core.Bool.{Bool, true, false}
use mathlib.Core.List.{List, [], ◌∷◌}
use Prim.Native.Nat.{ℕ, zero, suc, ◌+◌, ◌<◌, ◌≤◌}
use native.Mathlib.Omega.{arith}
use native.Mathlib.Numerals.{add-one}
use lib.ListN.{length, get_or, take, drop, length-take, drop_of_length-le}
use lib.Seq.{drop-cons, get_or-take}
use lib.Dec.{eqb}
use borrow.Author.Tests.{eqb-true, eq-eqb, ne_eqb}
use Rattle.arith.specs.declared.refusal.Reason.{Reason}
use Rattle.arith.specs.Refusals.{refusal_at}
use Rattle.sheet.specs.Faults.{Fault}
use Rattle.sheet.specs.Sheets.{Answer, and_then, require, fault_at, first_fault}

-- ---- a test, member by member
module _ {A : Type 0} (fault : A → Fault) (l : List A) where
  -- no member before i has a fault, so that the first fault is among those left
  abbrev pub Passed : ℕ → Type 0
  Passed i = first_fault fault i (drop i l) ≡ first_fault fault 0 l

  module _ (i : ℕ) (p : Passed i) where
    pub none_left : length l ≤ i → Ok tt ≡ first_fault fault 0 l
    unfolding first_fault
    none_left le = sym (rw (drop_of_length-le l le)) ∙ p

    -- v is the member i, and m its fault
    module _ (v : A) (lt : i < length l) (at : get_or l i v ≡ v) {m : Fault} (e : m ≡ fault v) where
      next : first_fault fault i (drop i l) ≡ and_then (fault_at m i) (first_fault fault (i + 1) (drop (i + 1) l))
      unfolding first_fault
      next = rw (drop-cons l i v lt, add-one, at, e)

      pub found : {r : Reason} → m ≡ Err r → Err (refusal_at r i) ≡ first_fault fault 0 l
      found ne = sym (next ∙ rw ne) ∙ p

      pub passed : m ≡ Ok tt → Passed (i + 1)
      passed z = sym (next ∙ rw z) ∙ p

module _ {A : Type 0} (fault : A → Fault) (d : A) where
  -- nothing found: no member has a fault; and the other way round
  first_step : (m : Fault) (rest : Answer) (i : ℕ) → and_then (fault_at m i) rest ≡ Ok tt → (m ≡ Ok tt) × (rest ≡ Ok tt)
  first_step (Ok u) rest i h = (refl, h)
  first_step (Err r) rest i h = absurd (let z : ◌≡◌ {A = ℕ} 0 1 = cc in omega arith)

  pub faultless : (i : ℕ) (l : List A) → first_fault fault i l ≡ Ok tt → (j : ℕ) → j < length l → fault (get_or l j d) ≡ Ok tt
  unfolding first_fault
  faultless i [] e j lt = absurd (omega arith)
  faultless i (v ∷ vs) e zero lt = (first_step (fault v) (first_fault fault (i + 1) vs) i e).0
  faultless i (v ∷ vs) e (suc j) lt = faultless (i + 1) vs (first_step (fault v) (first_fault fault (i + 1) vs) i e).1 j (omega arith)

  pub none_found : (i : ℕ) (l : List A) → ((j : ℕ) → j < length l → fault (get_or l j d) ≡ Ok tt) → first_fault fault i l ≡ Ok tt
  unfolding first_fault
  none_found i [] f = refl
  none_found i (v ∷ vs) f =
      let e : fault v ≡ Ok tt = f 0 (omega arith) in
      let t : first_fault fault (i + 1) vs ≡ Ok tt = none_found (i + 1) vs (λ j lt. f (suc j) (omega arith)) in
      rw (e, t)

  -- of the first n members of l
  pub faultless_at : (l : List A) (n i : ℕ) → n ≤ length l → first_fault fault 0 (take n l) ≡ Ok tt → i < n → fault (get_or l i d) ≡ Ok tt
  faultless_at l n i long e lt =
      let h : i < length (take n l) = rw length-take (omega arith) in
      ap fault (sym (get_or-take n l i d lt)) ∙ faultless 0 (take n l) e i h
