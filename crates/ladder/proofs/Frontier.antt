-- The walk to the corner of the triples, from X's low and A's high end: where the sum of the two falls short of B the x goes up to the least that does not, and where it is past B the a comes down to the
-- greatest that is not. No triple is passed over, so that where the sum is inside B the x is the least in a triple and the a the greatest. Only that the sum is monotone and commutative is used. Assumes nothing.
use mathlib.Core.Path.{refl}
use mathlib.Core.Logic.{inl, inr}
use Prim.Native.Nat.{ℕ, ◌≤◌, ◌<◌}
use native.Mathlib.Nat.{le_refl}
use native.Mathlib.Omega.{arith}
use Rattle.ladder.specs.Sum.{sum}
use Rattle.ladder.specs.Solution.{Interval, In}
use Rattle.ladder.specs.Narrowing.{HasX, HasA}
use Rattle.ladder.specs.Search.{Never, Least, Greatest, Attains, Stays, Frontier, Corner}
use Rattle.ladder.proofs.Cases.{le_or_lt}
use Rattle.ladder.proofs.Sum.{sum_comm, sum_mono}

module _ (f e : ℕ) (some : 1 ≤ f) (X A B : Interval) where
  pub frontier_start : X.low ≤ X.high → A.low ≤ A.high → Frontier f e X A B X.low A.high
  frontier_start i j = record {
    x_in = record { low = le_refl X.low; high = i };
    a_in = record { low = j; high = le_refl A.high };
    least = λ y w. w.solution.x_in.low;
    most = λ y w. w.solution.a_in.high;
  }

  module _ (x a : ℕ) (r : Frontier f e X A B x a) where
    pub frontier_solved : In B (sum f e x a) → Corner f e X A B x a (sum f e x a)
    frontier_solved i = record { frontier = r; solution = record { x_in = r.x_in; a_in = r.a_in; b_in = i; is = refl } }

    -- an x in a triple reaches B with a, since its own is no greater
    reaches : (y : ℕ) → HasX f e X A B y → Attains f e a B.low (record { low = x; high = X.high }) y
    reaches y w =
        let s = w.solution in
        let c = r.most w.a (record { x = y; b = w.b; solution = s }) in
        record { inside = record { low = r.least y w; high = s.x_in.high }; enough = omega (arith, sum_mono f e some y y w.a a (le_refl y) c, s.is, s.b_in.low) }

    -- an a in a triple does not pass B with x, since its own is no less
    remains : (y : ℕ) → HasA f e X A B y → Stays f e x B.high (record { low = A.low; high = a }) y
    remains y w =
        let s = w.solution in
        let c = r.least w.x (record { a = y; b = w.b; solution = s }) in
        record { inside = record { low = s.a_in.low; high = r.most y w }; no_more = omega (arith, sum_mono f e some x w.x y y c (le_refl y), sum_comm f e y x, s.is, s.b_in.high) }

    -- ---- the sum falls short
    pub raise_end : Never (Attains f e a B.low (record { low = x; high = X.high })) → Never (HasX f e X A B)
    raise_end n y w = n y (reaches y w)

    pub raise_next : sum f e x a < B.low → (y : ℕ) → Least (Attains f e a B.low (record { low = x; high = X.high })) y → (x < y) × Frontier f e X A B y a
    raise_next h y l =
        let i = l.holds.inside in
        let j = r.x_in in (
          elim (le_or_lt y x) [ inl q ↦ absurd (omega (arith, sum_mono f e some y x a a q (le_refl a), l.holds.enough)) | inr q ↦ q ],
          record { x_in = record { low = omega arith; high = i.high }; a_in = r.a_in; least = λ z w. l.least z (reaches z w); most = r.most },
        )

    -- ---- the sum is past B
    pub lower_end : Never (Stays f e x B.high (record { low = A.low; high = a })) → Never (HasX f e X A B)
    lower_end n y w = n w.a (remains w.a (record { x = y; b = w.b; solution = w.solution }))

    pub lower_next : B.high < sum f e x a → (y : ℕ) → Greatest (Stays f e x B.high (record { low = A.low; high = a })) y → (y < a) × Frontier f e X A B x y
    lower_next h y g =
        let i = g.holds.inside in
        let j = r.a_in in (
          elim (le_or_lt a y) [ inl q ↦ absurd (omega (arith, sum_mono f e some x x a y (le_refl x) q, sum_comm f e x y, g.holds.no_more)) | inr q ↦ q ],
          record { x_in = r.x_in; a_in = record { low = i.low; high = omega arith }; least = r.least; most = λ z w. g.most z (remains z w) },
        )
