-- Both operands cut from one side each, and what two such cuts make of X and A. A cut starts at the low end of one operand and the high end of the other: where their sum falls short of B the low end goes up to the
-- threshold, where it is past B the high end comes down to the mirrored one. No triple is lost, so that where the sums of the new ends are inside B they are corners. Only that the sum is monotone, commutative and mirrored is used. Assumes nothing.
use mathlib.Core.Path.{◌≡◌, sym, ap, subst, ◌∙◌}
use mathlib.Core.Logic.{inl, inr}
use Prim.Native.Nat.{ℕ, ◌+◌, ◌*◌, ◌≤◌, ◌<◌}
use native.Mathlib.Nat.{le_refl}
use native.Mathlib.Omega.{arith}
use Rattle.ladder.specs.Ordinal.{sign, mirrored, Finite}
use Rattle.ladder.specs.Sum.{sum}
use Rattle.ladder.specs.Solution.{Interval, In, Solution}
use Rattle.ladder.specs.Narrowing.{none, ends, narrowing, HasX, HasB, Spans}
use Rattle.ladder.specs.Search.{Never, Threshold, Corner, Trimmed}
use Rattle.ladder.proofs.Cases.{le_or_lt}
use Rattle.ladder.proofs.Ordinals.{infinity_lt_sign, finite_twice}
use Rattle.ladder.proofs.Sum.{sum_comm, sum_mono, sum_mirror}
use Rattle.ladder.proofs.Solutions.{swap, Kept}
use Rattle.ladder.proofs.Hull.{same_narrowing}
use Rattle.ladder.proofs.Corners.{corners_span}
use Rattle.ladder.proofs.Assembly.{never_x, assembled}

module _ (f e : ℕ) (some : 1 ≤ f) where
  -- the threshold is the number after one that falls short, if it does not itself
  pub threshold_after : (a b y : ℕ) → sum f e y a < b → b ≤ sum f e (y + 1) a → Threshold f e a b (y + 1)
  threshold_after a b y h l w = (
    λ g. elim (le_or_lt (y + 1) w) [ inl q ↦ q | inr q ↦ absurd (omega (arith, sum_mono f e some w y a a (omega arith) (le_refl a))) ],
    λ g. omega (arith, sum_mono f e some (y + 1) w a a g (le_refl a)),
  )

  -- ---- one cut
  pub trim_none : (B : Interval) (x a : ℕ) → Trimmed f e B x a x a
  trim_none B x a = record { up = le_refl x; down = le_refl a; kept = λ y z i j s. (i, j) }

  pub trim_up : (B : Interval) (x a y : ℕ) → sum f e x a < B.low → Threshold f e a B.low y → Trimmed f e B x a y a
  trim_up B x a y h t = record {
    up = elim (le_or_lt x y) [ inl q ↦ q | inr q ↦ absurd (omega (arith, (t x).1 (omega arith))) ];
    down = le_refl a;
    kept = λ w z i j s. ((t w).0 (omega (arith, sum_mono f e some w w z a (le_refl w) j, s.low)), j);
  }

  pub trim_down : (B : Interval) (x a y : ℕ) → Finite f e x → Finite f e a → Finite f e B.high → B.high < sum f e x a → Threshold f e (mirrored f e x) (mirrored f e B.high) y → Trimmed f e B x a x (mirrored f e y)
  trim_down B x a y fx fa fb h t = record {
    up = le_refl x;
    down = elim (le_or_lt (mirrored f e y) a) [
      | inl q ↦ q
      | inr q ↦ absurd (omega (arith, h, image a (le_refl a), (t (mirrored f e a)).1 (omega arith), fb.high, infinity_lt_sign f e))
    ];
    kept = λ w z i j s. (i, omega (arith, j, la, (t (mirrored f e z)).0 (omega (arith, image z j, sum_mono f e some x w z z i (le_refl z), s.high))));
  }
    where
      la : a ≤ 2 * sign f e
      la = finite_twice f e a fa

      image : (z : ℕ) → z ≤ a → sum f e (mirrored f e z) (mirrored f e x) ≡ mirrored f e (sum f e x z)
      image z j = sum_mirror f e some z x (omega (arith, j, la)) (finite_twice f e x fx) ∙ ap (mirrored f e) (sum_comm f e z x)

  -- ---- two cuts: x and z are the new ends of X, c and a those of A
  -- a triple lies on the side that a cut keeps
  side : (X A B : Interval) (x a : ℕ) → Trimmed f e B X.low A.high x a → (y w b : ℕ) → Solution f e X A B y w b → (x ≤ y) × (w ≤ a)
  side X A B x a p y w b s = p.kept y w s.x_in.low s.a_in.high (subst (In B) (sym s.is) s.b_in)

  -- the corner with the least x
  module _ (X A B : Interval) (x a c z : ℕ) (p : Trimmed f e B X.low A.high x a) (q : Trimmed f e B A.low X.high c z) where
    trimmed_corner : x ≤ z → c ≤ a → (b : ℕ) → b ≡ sum f e x a → In B b → Corner f e X A B x a b
    trimmed_corner i j b is k =
        let x_in : In X x = record { low = p.up; high = omega (arith, i, q.down) } in
        let a_in : In A a = record { low = omega (arith, j, q.up); high = p.down } in
        record {
          frontier = record {
            x_in = x_in;
            a_in = a_in;
            least = λ y w. (side X A B x a p y w.a w.b w.solution).0;
            most = λ y w. (side X A B x a p w.x y w.b w.solution).1;
          };
          solution = record { x_in = x_in; a_in = a_in; b_in = k; is = sym is };
        }

  module _ (X A B : Interval) (x a c z : ℕ) (p : Trimmed f e B X.low A.high x a) (q : Trimmed f e B A.low X.high c z) where
    abbrev X' : Interval
    X' = record { low = x; high = z }

    abbrev A' : Interval
    A' = record { low = c; high = a }

    -- the corner with the least a, the operands swapped
    trimmed_corner_swapped : x ≤ z → c ≤ a → (b : ℕ) → b ≡ sum f e c z → In B b → Corner f e A X B c z b
    trimmed_corner_swapped i j = trimmed_corner A X B c z x a q p j i

    -- no triple is lost between the new ends
    trimmed_kept : Kept f e X A B X' A' B
    trimmed_kept y w b s =
        let i = side X A B x a p y w b s in
        let j = side A X B c z q w y b (swap s) in
        record { x_in = record { low = i.0; high = j.1 }; a_in = record { low = j.0; high = i.1 }; b_in = s.b_in; is = s.is }

    -- and none is added, so that what is left is narrowed alike
    trimmed_given : Kept f e X' A' B X A B
    trimmed_given y w b s = record {
      x_in = record { low = omega (arith, p.up, s.x_in.low); high = omega (arith, q.down, s.x_in.high) };
      a_in = record { low = omega (arith, q.up, s.a_in.low); high = omega (arith, p.down, s.a_in.high) };
      b_in = s.b_in;
      is = s.is;
    }

    pub trimmed_same : narrowing f e X' A' B ≡ narrowing f e X A B
    trimmed_same = same_narrowing f e X A B X' A' B trimmed_kept trimmed_given

    -- the ends have crossed
    pub trimmed_never_x : z < x → Never (HasX f e X A B)
    trimmed_never_x h y w = let i = (trimmed_kept y w.a w.b w.solution).x_in in omega (arith, h, i.low, i.high)

    pub trimmed_never_a : a < c → Never (HasX f e X A B)
    trimmed_never_a h y w = let i = (trimmed_kept y w.a w.b w.solution).a_in in omega (arith, h, i.low, i.high)

    -- both new sums are inside B
    pub trimmed_ends : x ≤ z → c ≤ a → (s t : ℕ) → s ≡ sum f e x a → In B s → t ≡ sum f e c z → In B t → (B' : Interval) → Spans (HasB f e X' A' B) B' → ends X' A' B' ≡ narrowing f e X A B
    trimmed_ends i j s t is k it l =
        let u = trimmed_corner X A B x a c z p q i j s is k in
        let v = trimmed_corner_swapped i j t it l in
        assembled f e X A B X' A' (corners_span u v) (corners_span v u)

    -- no sum between the new ends is inside B
    pub trimmed_none : ((y w : ℕ) → In X' y → In A' w → In B (sum f e y w) → ⊥) → none ≡ narrowing f e X A B
    trimmed_none n = never_x f e X A B (λ y w. let s = trimmed_kept y w.a w.b w.solution in n y w.a s.x_in s.a_in (subst (In B) (sym s.is) s.b_in))
