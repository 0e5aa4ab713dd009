-- Triples under a change of the intervals: the operands swapped, all three mirrored, and other intervals that hold the same triples; also the grid of the operands mirrored. Assumes nothing.
use mathlib.Core.Path.{ap, ◌∙◌}
use Prim.Native.Nat.{ℕ, ◌*◌, ◌≤◌}
use native.Mathlib.Omega.{arith}
use Rattle.ladder.specs.Ordinal.{sign, mirrored, Finite}
use Rattle.ladder.specs.Solution.{Interval, In, Solution, Bounded}
use Rattle.ladder.specs.Narrowing.{HasX, HasA, HasB, Spans}
use Rattle.ladder.specs.Search.{Never, Least, Greatest, Corner, reflection, Multiple, Grid, free, step}
use Rattle.ladder.proofs.Ordinals.{mirror_finite, finite_twice}
use Rattle.ladder.proofs.Sum.{sum_comm, above_mirror, below_mirror, sum_mirror}
use Rattle.ladder.proofs.Extremes.{mirror_greatest}

-- ---- the operands swapped
pub swap : {f e : ℕ} {X A B : Interval} {x a b : ℕ} → Solution f e X A B x a b → Solution f e A X B a x b
swap {f} {e} {X} {A} {B} {x} {a} {b} s = record { x_in = s.a_in; a_in = s.x_in; b_in = s.b_in; is = sum_comm f e a x ∙ s.is }

module _ (f e : ℕ) (X A B : Interval) where
  pub swap_x : (y : ℕ) → HasX f e A X B y → HasA f e X A B y
  swap_x y w = record { x = w.a; b = w.b; solution = swap w.solution }

  swap_a : (y : ℕ) → HasA f e X A B y → HasX f e A X B y
  swap_a y w = record { a = w.x; b = w.b; solution = swap w.solution }

  pub swap_b : (y : ℕ) → HasB f e X A B y → HasB f e A X B y
  swap_b y w = record { x = w.a; a = w.x; solution = swap w.solution }

  pub swap_never : Never (HasX f e A X B) → Never (HasX f e X A B)
  swap_never n y w = n w.a (record { a = y; b = w.b; solution = swap w.solution })

  pub swap_spans : (I : Interval) → Spans (HasX f e A X B) I → Spans (HasA f e X A B) I
  swap_spans I s = record { low = swap_x I.low s.low; high = swap_x I.high s.high; all = λ y w. s.all y (swap_a y w) }

-- ---- every triple inside X, A, B lies inside X', A', B'
abbrev pub Kept : ℕ → ℕ → Interval → Interval → Interval → Interval → Interval → Interval → Type 0
Kept f e X A B X' A' B' = (x a b : ℕ) → Solution f e X A B x a b → Solution f e X' A' B' x a b

module _ (f e : ℕ) (X A B X' A' B' : Interval) (k : Kept f e X A B X' A' B') where
  pub kept_x : (y : ℕ) → HasX f e X A B y → HasX f e X' A' B' y
  kept_x y w = record { a = w.a; b = w.b; solution = k y w.a w.b w.solution }

  pub kept_a : (y : ℕ) → HasA f e X A B y → HasA f e X' A' B' y
  kept_a y w = record { x = w.x; b = w.b; solution = k w.x y w.b w.solution }

  pub kept_b : (y : ℕ) → HasB f e X A B y → HasB f e X' A' B' y
  kept_b y w = record { x = w.x; a = w.a; solution = k w.x w.a y w.solution }

  -- the corner of smaller intervals that lose no triple
  pub kept_corner : Kept f e X' A' B' X A B → (x a b : ℕ) → Corner f e X' A' B' x a b → Corner f e X A B x a b
  kept_corner j x a b l =
      let s = j x a b l.solution in
      record { frontier = record { x_in = s.x_in; a_in = s.a_in; least = λ y w. l.frontier.least y (kept_x y w); most = λ y w. l.frontier.most y (kept_a y w) }; solution = s }

-- ---- mirrored
pub mirror_bounded : (f e : ℕ) (I : Interval) → Bounded f e I → Bounded f e (reflection f e I)
mirror_bounded f e I n = record { low = mirror_finite f e I.high n.high; high = mirror_finite f e I.low n.low }

pub finite_in : (f e : ℕ) (I : Interval) → Bounded f e I → (y : ℕ) → In I y → Finite f e y
finite_in f e I n y i = record { low = omega arith; high = omega arith }

pub in_reflection : (f e : ℕ) (I : Interval) (y : ℕ) → In I y → In (reflection f e I) (mirrored f e y)
in_reflection f e I y i = record { low = omega arith; high = omega arith }

pub in_reflected : (f e : ℕ) (I : Interval) → Bounded f e I → (y : ℕ) → In (reflection f e I) y → In I (mirrored f e y)
in_reflected f e I n y i = let l = finite_twice f e I.low n.low in let h = finite_twice f e I.high n.high in record { low = omega arith; high = omega arith }

module _ (f e : ℕ) (some : 1 ≤ f) (X A B : Interval) (nx : Bounded f e X) (na : Bounded f e A) (nb : Bounded f e B) where
  abbrev X' : Interval
  X' = reflection f e X

  abbrev A' : Interval
  A' = reflection f e A

  abbrev B' : Interval
  B' = reflection f e B

  pub mirror_solution : (x a b : ℕ) → Solution f e X A B x a b → Solution f e X' A' B' (mirrored f e x) (mirrored f e a) (mirrored f e b)
  mirror_solution x a b s = record {
    x_in = in_reflection f e X x s.x_in;
    a_in = in_reflection f e A a s.a_in;
    b_in = in_reflection f e B b s.b_in;
    is = sum_mirror f e some x a (finite_twice f e x (finite_in f e X nx x s.x_in)) (finite_twice f e a (finite_in f e A na a s.a_in)) ∙ ap (mirrored f e) s.is;
  }

  mirrored_solution : (x a b : ℕ) → Solution f e X' A' B' x a b → Solution f e X A B (mirrored f e x) (mirrored f e a) (mirrored f e b)
  mirrored_solution x a b s =
      let fx = finite_in f e X' (mirror_bounded f e X nx) x s.x_in in
      let fa = finite_in f e A' (mirror_bounded f e A na) a s.a_in in
      record {
        x_in = in_reflected f e X nx x s.x_in;
        a_in = in_reflected f e A na a s.a_in;
        b_in = in_reflected f e B nb b s.b_in;
        is = sum_mirror f e some x a (finite_twice f e x fx) (finite_twice f e a fa) ∙ ap (mirrored f e) s.is;
      }

  pub mirror_b : (y : ℕ) → HasB f e X A B y → HasB f e X' A' B' (mirrored f e y)
  mirror_b y w = record { x = mirrored f e w.x; a = mirrored f e w.a; solution = mirror_solution w.x w.a y w.solution }

  mirrored_b : (y : ℕ) → HasB f e X' A' B' y → HasB f e X A B (mirrored f e y)
  mirrored_b y w = record { x = mirrored f e w.x; a = mirrored f e w.a; solution = mirrored_solution w.x w.a y w.solution }

  -- the greatest is the mirror image of the least
  pub mirror_b_greatest : (y : ℕ) → Least (HasB f e X' A' B') y → Greatest (HasB f e X A B) (mirrored f e y)
  mirror_b_greatest = mirror_greatest (2 * sign f e) (HasB f e X A B) (HasB f e X' A' B') mirror_b mirrored_b (λ z w. finite_twice f e z (finite_in f e B nb z w.solution.b_in))

-- ---- the grid of the mirror image
module _ (f e : ℕ) (some : 1 ≤ f) where
  mirrored_multiple : (k r : ℕ) → r ≤ 2 * sign f e → Multiple f e k (mirrored f e r) → Multiple f e k r
  mirrored_multiple k r l m = record { up = rw (below_mirror f e some r l) at m.down; down = rw (above_mirror f e some r) at m.up }

  mirrored_multiples : (k : ℕ) (I : Interval) → Bounded f e I → ((y : ℕ) → In I y → Multiple f e k y) → (y : ℕ) → In (reflection f e I) y → Multiple f e k y
  mirrored_multiples k I n m y i =
      mirrored_multiple k y (finite_twice f e y (finite_in f e (reflection f e I) (mirror_bounded f e I n) y i)) (m (mirrored f e y) (in_reflected f e I n y i))

  pub mirror_grid : (X A : Interval) → Bounded f e X → Bounded f e A → (u : ℕ) → Grid f e X A u → Grid f e (reflection f e X) (reflection f e A) u
  mirror_grid X A nx na u (free z) = free z
  mirror_grid X A nx na u (step k z mx ma) = step k z (mirrored_multiples k X nx mx) (mirrored_multiples k A na ma)
