-- Laws of boxes: a cell set, containment, and equality by place.
-- Assumes nothing.
use mathlib.Core.Path.{◌≡◌, refl, ◌∙◌}
use mathlib.Core.Bool.{Bool, true, false, ◌&&◌, and-eq-true_iff}
use mathlib.Core.List.{[], ◌∷◌}
use Prim.Native.Nat.{ℕ, ◌<◌}
use native.Mathlib.Omega.{arith}
use native.Mathlib.Decide.{dec_lt, ℕ_discrete}
use lib.ListN.{length, set, get_or-eq_default}
use lib.Seq.{get_or-set_same, get_or-set_other, set_out, ext_get_or}
use lib.Dec.{eqb}
use borrow.Author.Tests.{eqb-true, eq-eqb}
use Rattle.ladder.specs.Solution.{Interval}
use Rattle.sheet.specs.Boxes.{Box, at, Inside, Contains}
use Rattle.propagation.specs.Runs.{same_box}

-- ---- a cell set
pub set_cases : (P : Interval → Type 0) (c : Box) (i j : ℕ) (v : Interval) → P (at c j) → (j ≡ i → P v) → P (at (set c i v) j)
set_cases P c i j v p q = go (ℕ_discrete j i) (dec_lt i (length c))
  where
    go : Dec (j ≡ i) → Dec (i < length c) → P (at (set c i v) j)
    go (yes e) (yes l) = rw (e, get_or-set_same c i v (record { low = 0; high = 0 }) l) (q e)
    go (yes e) (no l) = rw (set_out c i v (omega arith)) p
    go (no e) l = rw (get_or-set_other c i j v (record { low = 0; high = 0 }) e) p

-- ---- containment at every number, cell or not
abbrev pub Around : Box → Box → Type 0
Around c d = (i : ℕ) → Inside (at c i) (at d i)

pub around : (c d : Box) → Contains c d → Around c d
around c d h i = go (dec_lt i (length c))
  where
    go : Dec (i < length c) → Inside (at c i) (at d i)
    go (yes l) = h.inside i l
    go (no l) =
        let n = h.cells in
        let ec : at c i ≡ record { low = 0; high = 0 } = get_or-eq_default c _ (omega arith) in
        let ed : at d i ≡ record { low = 0; high = 0 } = get_or-eq_default d _ (omega arith) in
        rw (ec, ed) (record { low = omega arith; high = omega arith })

pub contains : (c d : Box) → length d ≡ length c → Around c d → Contains c d
contains c d e h = record { cells = e; inside = λ i l. h i }

pub contains_self : (c : Box) → Contains c c
contains_self c = contains c c refl (λ i. record { low = omega arith; high = omega arith })

pub contains_all : (c d e : Box) → Contains c d → Contains d e → Contains c e
contains_all c d e p q = contains c e (q.cells ∙ p.cells) inside
  where
    inside : Around c e
    inside i =
        let h = around c d p i in
        let k = around d e q i in
        record { low = omega arith; high = omega arith }

-- ---- equality
pub same_interval : (I J : Interval) → Inside I J → Inside J I → I ≡ J
same_interval I J p q =
    let l : I.low ≡ J.low = omega arith in
    let h : I.high ≡ J.high = omega arith in
    λ k. record { low = l k; high = h k }

-- boxes that contain each other are equal
pub contained_both : (c d : Box) → Contains c d → Contains d c → c ≡ d
contained_both c d p q = ext_get_or (record { low = 0; high = 0 }) c d q.cells (λ i l. same_interval (at c i) (at d i) (around c d p i) (around d c q i))

pub same_is : (c d : Box) → same_box c d ≡ true → c ≡ d
unfolding same_box
same_is [] [] e = refl
same_is [] (v ∷ vs) e = absurd (let z : ◌≡◌ {A = ℕ} 0 1 = cc in omega arith)
same_is (u ∷ us) [] e = absurd (let z : ◌≡◌ {A = ℕ} 0 1 = cc in omega arith)
same_is (u ∷ us) (v ∷ vs) e =
    let hs = eqb u.high v.high in
    let p = (and-eq-true_iff (eqb u.low v.low) (hs && same_box us vs)).0 e in
    let q = (and-eq-true_iff hs (same_box us vs)).0 p.1 in
    let l = eqb-true u.low v.low p.0 in
    let h = eqb-true u.high v.high q.0 in
    let t = same_is us vs q.1 in
    λ i. record { low = l i; high = h i } ∷ t i

is_same_lem : (c : Box) → same_box c c ≡ true
unfolding same_box
is_same_lem [] = refl
is_same_lem (u ∷ us) = rw (eq-eqb u.low u.low refl, eq-eqb u.high u.high refl, is_same_lem us)

pub equal_same : (c d : Box) → c ≡ d → same_box c d ≡ true
equal_same c d e = rw (← e) (is_same_lem c)

pub unequal_same : (c d : Box) → (c ≡ d → ⊥) → same_box c d ≡ false
unequal_same c d n = go (same_box c d) refl
  where
    go : (t : Bool) → same_box c d ≡ t → t ≡ false
    go true e = absurd (n (same_is c d e))
    go false e = refl

pub same_not : (c d : Box) → same_box c d ≡ false → c ≡ d → ⊥
same_not c d e h =
    let t = equal_same c d h in
    let z : ◌≡◌ {A = ℕ} 0 1 = cc in
    omega arith
