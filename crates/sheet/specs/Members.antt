-- Members of a list. Assumes nothing.
use Rattle.std.specs.Prelude.{List, [], ◌∷◌}

-- each member has the property
abbrev pub Each : {A : Type 0} → (A → Type 0) → List A → Type 0
Each P [] = Unit {0}
Each P (y ∷ ys) = P y × Each P ys

-- y is a member
pub data Member {A : Type 0} (y : A) : List A → Type 0 where
  here : {l : List A} → Member y (y ∷ l)
  later : {z : A} {l : List A} → Member y l → Member y (z ∷ l)

-- the same members, in whatever order and however often each
pub record SameMembers {A : Type 0} (l m : List A) : Type 0 where
  pub there : Each (λ y. Member y m) l
  pub back : Each (λ y. Member y l) m
