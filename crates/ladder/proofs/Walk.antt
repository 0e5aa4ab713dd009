-- The turns of the walk from X's low and A's high end: one up or down, and where that skips B one the other way. Where nothing is too coarse for B, that ends at the corner. Assumes nothing.
use mathlib.Core.Path.{◌≡◌, sym, subst}
use mathlib.Core.Logic.{inl, inr}
use Prim.Native.Nat.{ℕ, ◌+◌, ◌-◌, ◌≤◌, ◌<◌}
use native.Mathlib.Nat.{le_refl}
use native.Mathlib.Omega.{arith}
use Rattle.ladder.specs.Sum.{sum}
use Rattle.ladder.specs.Solution.{Interval, Bounded}
use Rattle.ladder.specs.Narrowing.{HasX}
use Rattle.ladder.specs.Search.{Never, Least, Greatest, Attains, Stays, Frontier, Corner, Skips, Fine}
use Rattle.ladder.proofs.Cases.{le_or_lt}
use Rattle.ladder.proofs.Sum.{sum_comm}
use Rattle.ladder.proofs.Frontier.{frontier_start, frontier_solved, raise_next, raise_end, lower_next, lower_end}
use Rattle.ladder.proofs.Neighbours.{skips_before, skips_after}
use Rattle.ladder.proofs.Skips.{once_up, once_down}

module _ (f e : ℕ) (some : 1 ≤ f) (X A B : Interval) where
  module _ (sx : X.low ≤ X.high) (sa : A.low ≤ A.high) where
    start : Frontier f e X A B X.low A.high
    start = frontier_start f e some X A B sx sa

    -- ---- up
    pub climb_none : Never (Attains f e A.high B.low X) → Never (HasX f e X A B)
    climb_none = raise_end f e some X A B X.low A.high start

    module _ (h : sum f e X.low A.high < B.low) (x : ℕ) (l : Least (Attains f e A.high B.low X) x) where
      climbed : (X.low < x) × Frontier f e X A B x A.high
      climbed = raise_next f e some X A B X.low A.high start h x l

      pub climb_once : sum f e x A.high ≤ B.high → Corner f e X A B x A.high (sum f e x A.high)
      climb_once g = frontier_solved f e some X A B x A.high climbed.1 (record { low = l.holds.enough; high = g })

      pub climb_end : Never (Stays f e x B.high A) → Never (HasX f e X A B)
      climb_end = lower_end f e some X A B x A.high climbed.1

    -- ---- down
    pub descend_none : Never (Stays f e X.low B.high A) → Never (HasX f e X A B)
    descend_none = lower_end f e some X A B X.low A.high start

    module _ (h : B.high < sum f e X.low A.high) (a : ℕ) (m : Greatest (Stays f e X.low B.high A) a) where
      descended : (a < A.high) × Frontier f e X A B X.low a
      descended = lower_next f e some X A B X.low A.high start h a m

      pub descend_once : B.low ≤ sum f e X.low a → Corner f e X A B X.low a (sum f e X.low a)
      descend_once g = frontier_solved f e some X A B X.low a descended.1 (record { low = g; high = subst (λ (z : ℕ). z ≤ B.high) (sum_comm f e a X.low) m.holds.no_more })

      pub descend_end : Never (Attains f e a B.low X) → Never (HasX f e X A B)
      descend_end = raise_end f e some X A B X.low a descended.1

  module _ (sx : X.low ≤ X.high) (sa : A.low ≤ A.high) (nx : Bounded f e X) (na : Bounded f e A) (nb : Bounded f e B) (fine : Fine f e X A B) where
    -- ---- up, past B, and down
    pub climbs : sum f e X.low A.high < B.low → (x : ℕ) → Least (Attains f e A.high B.low X) x → B.high < sum f e x A.high → (a : ℕ) → Greatest (Stays f e x B.high A) a → Corner f e X A B x a (sum f e x a)
    climbs h x l g a m =
        let r = climbed sx sa h x l in
        let t = lower_next f e some X A B x A.high r.1 g a m in
        let i = l.holds.inside in
        let j = m.holds.inside in
        let o = r.0 in
        let o' = t.0 in
        let at : x - 1 + 1 ≡ x = omega arith in
        let first = skips_before f e A.high X B x l r.0 g in
        frontier_solved f e some X A B x a t.1
        (record {
          low = elim (le_or_lt B.low (sum f e x a)) [
            | inl z ↦ z
            | inr z ↦
                let second : Skips f e B (x - 1 + 1) a = subst (λ (y : ℕ). Skips f e B y a) (sym at) (skips_after f e x A B a m t.0 z) in
                absurd (once_up f e some X A B nx na nb fine (x - 1) A.high a (omega arith) (omega arith) j.low t.0 (le_refl A.high) first second)
          ];
          high = subst (λ (z : ℕ). z ≤ B.high) (sum_comm f e a x) m.holds.no_more;
        })

    -- ---- down, short of B, and up
    pub descends : B.high < sum f e X.low A.high → (a : ℕ) → Greatest (Stays f e X.low B.high A) a → sum f e X.low a < B.low → (x : ℕ) → Least (Attains f e a B.low X) x → Corner f e X A B x a (sum f e x a)
    descends h a m g x l =
        let t = descended sx sa h a m in
        let r = raise_next f e some X A B X.low a t.1 g x l in
        let i = l.holds.inside in
        let j = m.holds.inside in
        let o = r.0 in
        let o' = t.0 in
        let first = skips_after f e X.low A B a m t.0 g in
        frontier_solved f e some X A B x a r.1
        (record {
          low = l.holds.enough;
          high = elim (le_or_lt (sum f e x a) B.high) [
            | inl z ↦ z
            | inr z ↦
                let second = skips_before f e a X B x l r.0 z in
                absurd (once_down f e some X A B nx na nb fine X.low a (x - 1) (le_refl X.low) (omega arith) (omega arith) j.low (omega arith) first second)
          ];
        })
