-- Laws of members. Assumes nothing.
use mathlib.Core.Path.{◌≡◌, subst}
use mathlib.Core.Logic.{◌≢◌, ◌⊎◌, inl, inr}
use mathlib.Core.List.{List, [], ◌∷◌}
use Prim.Native.Nat.{ℕ, suc, ◌<◌}
use native.Mathlib.Omega.{arith}
use lib.ListN.{length, get_or}
use native.Mathlib.Decide.{ℕ_discrete}
use Rattle.sheet.specs.Members.{Each, Member, here, later, SameMembers}

-- what each has, a member has
pub each_member : {A : Type 0} (P : A → Type 0) {y : A} {l : List A} → Member y l → Each P l → P y
each_member P here e = e.0
each_member P (later m) e = each_member P m e.1

pub each_of : {A : Type 0} (P : A → Type 0) (l : List A) → ((y : A) → Member y l → P y) → Each P l
each_of P [] h = tt
each_of P (z ∷ l) h = (h z here, each_of P l (λ y m. h y (later m)))

pub each_map : {A : Type 0} (P Q : A → Type 0) (l : List A) → ((y : A) → P y → Q y) → Each P l → Each Q l
each_map P Q [] h e = tt
each_map P Q (z ∷ l) h e = (h z e.0, each_map P Q l h e.1)

-- each member is one
pub each_itself : {A : Type 0} (l : List A) → Each (λ y. Member y l) l
each_itself l = each_of (λ y. Member y l) l (λ y m. m)

pub same_itself : {A : Type 0} (l : List A) → SameMembers l l
same_itself l = record { there = each_itself l; back = each_itself l }

-- what each member of a list has, each of another has whose members are among them
pub each_among : {A : Type 0} (P : A → Type 0) (l m : List A) → Each (λ y. Member y l) m → Each P l → Each P m
each_among P l m k h = each_map (λ y. Member y l) P m (λ y i. each_member P i h) k

-- of the member in each place
pub each_at : {A : Type 0} (P : A → Type 0) (d : A) (l : List A) → ((k : ℕ) → k < length l → P (get_or l k d)) → Each P l
each_at P d [] h = tt
each_at P d (z ∷ l) h = (h 0 (omega arith), each_at P d l (λ k m. h (suc k) (omega arith)))

-- ---- a number is in a list, or differs from each member
pub among : (j : ℕ) (l : List ℕ) → Each (λ i. j ≢ i) l ⊎ Member j l
among j [] = inl tt
among j (i ∷ l) = go (ℕ_discrete j i) (among j l)
  where
    go : Dec (j ≡ i) → Each (λ i. j ≢ i) l ⊎ Member j l → Each (λ i. j ≢ i) (i ∷ l) ⊎ Member j (i ∷ l)
    go (yes e) s = inr (subst (λ (k : ℕ). Member j (k ∷ l)) e here)
    go (no n) (inl s) = inl (n, s)
    go (no n) (inr m) = inr (later m)
