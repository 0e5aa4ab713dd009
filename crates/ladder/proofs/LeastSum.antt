-- The least b in a triple: the sum of the low ends where that is not below B, B's low end where that stands in a triple; a sum that is not below B stands in one where it is no more than one that does. Assumes nothing.
use mathlib.Core.Path.{◌≡◌, sym, subst}
use mathlib.Core.Logic.{inl, inr}
use Prim.Native.Nat.{ℕ, ◌-◌, ◌≤◌, min}
use native.Mathlib.Nat.{le_refl, le_trans}
use native.Mathlib.Omega.{arith}
use Rattle.ladder.specs.Sum.{sum}
use Rattle.ladder.specs.Solution.{Interval, In}
use Rattle.ladder.specs.Narrowing.{HasX, HasB}
use Rattle.ladder.specs.Search.{Never, Least}
use Rattle.ladder.proofs.Cases.{le_or_lt}
use Rattle.ladder.proofs.Sum.{sum_mono}

module _ (f e : ℕ) (X A B : Interval) where
  -- t stands in a triple, and so does a sum that is not below B, where that is no more than t
  pub sums_nearer : (t p c : ℕ) → HasB f e X A B t → In X p → In A c → B.low ≤ sum f e p c → HasB f e X A B (min t (sum f e p c))
  sums_nearer t p c w j i l =
      let s = sum f e p c in
      let r = w.solution in
      elim (le_or_lt s t) [
        | inl n ↦ let at : s ≡ min t s = omega arith in record { x = p; a = c; solution = record { x_in = j; a_in = i; b_in = record { low = omega arith; high = omega (arith, r.b_in.high) }; is = at } }
        | inr n ↦ let at : t ≡ min t s = omega arith in subst (HasB f e X A B) at w
      ]

  -- b's low end stands in a triple of its own
  pub low_least : (t y : ℕ) → HasB f e X A B t → HasB f e X A (record { low = B.low; high = B.low }) y → Least (HasB f e X A B) y
  low_least t y w v =
      let r = v.solution in
      let k = r.b_in in
      let i = w.solution.b_in in
      record {
        holds = record { x = v.x; a = v.a; solution = record { x_in = r.x_in; a_in = r.a_in; b_in = record { low = k.low; high = omega arith }; is = r.is } };
        least = λ z u. le_trans k.high u.solution.b_in.low;
      }

  -- no triple has one below t
  pub none_below : (t : ℕ) → HasB f e X A B t → Never (HasX f e X A (record { low = B.low; high = t - 1 })) → Least (HasB f e X A B) t
  none_below t w n = record {
    holds = w;
    least = λ y v. let r = v.solution in elim (le_or_lt t y) [
      | inl g ↦ g
      | inr g ↦ absurd (n v.x (record { a = v.a; b = y; solution = record { x_in = r.x_in; a_in = r.a_in; b_in = record { low = r.b_in.low; high = omega arith }; is = r.is } }))
    ];
  }

  -- one no higher than B's low end is the least
  pub floor_least : (t : ℕ) → t ≤ B.low → HasB f e X A B t → Least (HasB f e X A B) t
  floor_least t l w = record { holds = w; least = λ y u. le_trans l u.solution.b_in.low }

-- ---- the sum t of the low ends of x and a is no larger than any other
module _ (f e : ℕ) (some : 1 ≤ f) (X A B : Interval) (t : ℕ) (is : t ≡ sum f e X.low A.low) where
  lows_le : (y : ℕ) → HasB f e X A B y → t ≤ y
  lows_le y w = let r = w.solution in omega (arith, sum_mono f e some X.low w.x A.low w.a r.x_in.low r.a_in.low, r.is)

  -- it stands in a triple itself where it is not below B and some sum is inside
  pub lows_least : (y : ℕ) → HasB f e X A B y → B.low ≤ t → Least (HasB f e X A B) t
  lows_least y w l =
      let r = w.solution in
      let i = r.x_in in
      let j = r.a_in in
      let b = r.b_in in
      record {
        holds = record {
          x = X.low;
          a = A.low;
          solution = record {
            x_in = record { low = le_refl X.low; high = omega arith };
            a_in = record { low = le_refl A.low; high = omega arith };
            b_in = record { low = l; high = omega (arith, lows_le y w) };
            is = sym is;
          };
        };
        least = lows_le;
      }
