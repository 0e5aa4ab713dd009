-- An interval of finite numbers and its mirror: from the least to the greatest number with a property, mirrored. Assumes nothing.
use mathlib.Core.Path.{◌≡◌, sym, subst}
use Prim.Native.Nat.{ℕ, ◌*◌, ◌≤◌}
use native.Mathlib.Omega.{arith}
use Rattle.ladder.specs.Ordinal.{sign, mirrored}
use Rattle.ladder.specs.Solution.{Interval, In, Bounded}
use Rattle.ladder.specs.Narrowing.{Spans}
use Rattle.ladder.specs.Search.{reflection}
use Rattle.ladder.proofs.Ordinals.{finite_twice}
use Rattle.ladder.proofs.Solutions.{finite_in, in_reflected, mirror_bounded}

module _ (f e : ℕ) (I : Interval) (bounded : Bounded f e I) where
  pub in_twice : (y : ℕ) → In I y → y ≤ 2 * sign f e
  in_twice y i = finite_twice f e y (finite_in f e I bounded y i)

  reflected_twice : (y : ℕ) → In (reflection f e I) y → y ≤ 2 * sign f e
  reflected_twice y i = finite_twice f e y (finite_in f e (reflection f e I) (mirror_bounded f e I bounded) y i)

  pub mirror_twice : (y : ℕ) → In (reflection f e I) y → mirrored f e (mirrored f e y) ≡ y
  mirror_twice y i = omega (arith, reflected_twice y i)

  pub mirror_spans : (P : ℕ → Type 0) → ((y : ℕ) → P y → In (reflection f e I) y) → (J : Interval) → Spans P J → Spans (λ y. In I y × P (mirrored f e y)) (reflection f e J)
  mirror_spans P inside J s = record {
    low = mirrored_has J.high s.high;
    high = mirrored_has J.low s.low;
    all = λ y p.
        let q = s.all (mirrored f e y) p.1 in
        let m = in_twice y p.0 in
        record { low = omega (arith, q.high, m); high = omega (arith, q.low, m) };
  }
    where
      mirrored_has : (y : ℕ) → P y → In I (mirrored f e y) × P (mirrored f e (mirrored f e y))
      mirrored_has y p = (in_reflected f e I bounded y (inside y p), subst P (sym (mirror_twice y (inside y p))) p)
