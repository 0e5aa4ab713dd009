-- How two numbers compare, to take a proof apart by. Assumes nothing.
use mathlib.Core.Path.{◌≡◌, refl, subst}
use mathlib.Core.Logic.{◌⊎◌, inl, inr}
use mathlib.Core.Bool.{not}
use Prim.Native.Nat.{ℕ, ◌≤◌, ◌<◌, compare, Ordering}
use native.Mathlib.Nat.{lt_of_not-le}
use native.Mathlib.Decide.{dec_le}
use native.Mathlib.Omega.{arith}
use lib.Dec.{T, is_le, compare_is_eq, eqb, leb→le, nleb→lt, eqb→eq, eqb_refl}
use lib.Arith.{lt_of_le-ne}

pub le_or_lt : (a b : ℕ) → (a ≤ b) ⊎ (b < a)
le_or_lt a b = elim (dec_le a b) [ yes h ↦ inl h | no n ↦ inr (lt_of_not-le n) ]

pub trichotomy : (a b : ℕ) → (a < b) ⊎ ((a ≡ b) ⊎ (b < a))
trichotomy a b = elim (le_or_lt b a) [
  | inr l ↦ inl l
  | inl h ↦ elim (le_or_lt a b) [ inl g ↦ inr (inl (omega arith)) | inr l ↦ inr (inr l) ]
]

pub equal_or_not : (a b : ℕ) → (a ≡ b) ⊎ (a ≡ b → ⊥)
equal_or_not a b = elim (trichotomy a b) [
  | inl l ↦ inr (λ e. omega arith)
  | inr r ↦ elim r [ inl e ↦ inl e | inr g ↦ inr (λ e. omega arith) ]
]

-- what the outcome of `compare` says
abbrev pub Compares : Ordering → ℕ → ℕ → Type 0
Compares Ordering.lt a b = a < b
Compares Ordering.eq a b = a ≡ b
Compares Ordering.gt a b = b < a

pub compares : (a b : ℕ) → Compares (compare a b) a b
compares a b = go (compare a b) (leb→le a b) (nleb→lt a b) (eqb→eq a b) (λ (e : a ≡ b). subst (λ (x : ℕ). T (eqb a x)) e (eqb_refl a))
  where
    go : (o : Ordering) → (T (is_le o) → a ≤ b) → (T (not (is_le o)) → b < a) → (T (compare_is_eq o) → a ≡ b) → (a ≡ b → T (compare_is_eq o)) → Compares o a b
    go Ordering.lt h k e n = lt_of_le-ne (h tt) n
    go Ordering.eq h k e n = e tt
    go Ordering.gt h k e n = k tt

pub compare_is : (a b : ℕ) (o : Ordering) → Compares o a b → compare a b ≡ o
compare_is a b o h = go (compare a b) o (compares a b) h
  where
    go : (p q : Ordering) → Compares p a b → Compares q a b → p ≡ q
    go Ordering.lt Ordering.lt l h = refl
    go Ordering.eq Ordering.eq l h = refl
    go Ordering.gt Ordering.gt l h = refl
    go Ordering.lt Ordering.eq l h = absurd (omega arith)
    go Ordering.lt Ordering.gt l h = absurd (omega arith)
    go Ordering.eq Ordering.lt l h = absurd (omega arith)
    go Ordering.eq Ordering.gt l h = absurd (omega arith)
    go Ordering.gt Ordering.lt l h = absurd (omega arith)
    go Ordering.gt Ordering.eq l h = absurd (omega arith)
