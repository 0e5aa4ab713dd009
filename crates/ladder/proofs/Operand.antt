-- The greatest operand with a sum of at most b is the mirror image of the least of the mirrored interval with a sum, with the mirrored a, of at least the mirrored b. Assumes nothing.
use mathlib.Core.Path.{◌≡◌, subst}
use Prim.Native.Nat.{ℕ, ◌*◌, ◌≤◌}
use native.Mathlib.Omega.{arith}
use Rattle.ladder.specs.Ordinal.{sign, mirrored, Finite}
use Rattle.ladder.specs.Sum.{sum}
use Rattle.ladder.specs.Solution.{Interval, Bounded}
use Rattle.ladder.specs.Search.{Never, Least, Greatest, Attains, Stays, reflection}
use Rattle.ladder.proofs.Sum.{sum_mirror}
use Rattle.ladder.proofs.Extremes.{mirror_never, mirror_greatest}
use Rattle.ladder.proofs.Solutions.{in_reflection, in_reflected, finite_in, mirror_bounded}
use Rattle.ladder.proofs.Ordinals.{finite_twice}

module _ (f e : ℕ) (some : 1 ≤ f) (a b : ℕ) (I : Interval) (fa : Finite f e a) (fb : Finite f e b) (n : Bounded f e I) where
  abbrev Mirrored : ℕ → Type 0
  Mirrored = Attains f e (mirrored f e a) (mirrored f e b) (reflection f e I)

  twice : (y : ℕ) → Stays f e a b I y → y ≤ 2 * sign f e
  twice y s = finite_twice f e y (finite_in f e I n y s.inside)

  to : (y : ℕ) → Stays f e a b I y → Mirrored (mirrored f e y)
  to y s = record { inside = in_reflection f e I y s.inside; enough = omega (arith, sum_mirror f e some y a (twice y s) (finite_twice f e a fa), s.no_more) }

  from : (y : ℕ) → Mirrored y → Stays f e a b I (mirrored f e y)
  from y r =
      let l = finite_twice f e a fa in
      let m : mirrored f e (mirrored f e a) ≡ a = omega arith in
      let t = finite_twice f e y (finite_in f e (reflection f e I) (mirror_bounded f e I n) y r.inside) in
      let s = subst (λ (z : ℕ). sum f e (mirrored f e y) z ≡ mirrored f e (sum f e y (mirrored f e a))) m (sum_mirror f e some y (mirrored f e a) t (omega arith)) in
      record { inside = in_reflected f e I n y r.inside; no_more = omega (arith, s, r.enough, finite_twice f e b fb) }

  pub greatest_never : Never Mirrored → Never (Stays f e a b I)
  greatest_never = mirror_never (2 * sign f e) (Stays f e a b I) Mirrored to

  pub greatest_operand : (y : ℕ) → Least Mirrored y → Greatest (Stays f e a b I) (mirrored f e y)
  greatest_operand = mirror_greatest (2 * sign f e) (Stays f e a b I) Mirrored to from twice
