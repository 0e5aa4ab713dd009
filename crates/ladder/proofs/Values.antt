-- Every finite pattern leads to its exact value and back to its one written pattern. Assumes nothing.
use mathlib.Core.Path.{◌≡◌, sym, ap, ◌∙◌}
use mathlib.Core.Logic.{inl, inr}
use mathlib.Core.Bool.{true, false}
use Prim.Native.Nat.{ℕ, ◌-◌, ◌≤◌}
use native.Mathlib.Omega.{arith}
use borrow.Author.Tests.{lt-ltb, le-ltb}
use Rattle.ladder.specs.Ordinal.{sign, is_finite, ordinal, pattern, above, below}
use Rattle.ladder.specs.Values.{units_above, units_below, Written}
use Rattle.ladder.proofs.Cases.{le_or_lt}
use Rattle.ladder.proofs.Ordinals.{infinity_lt_sign, finite_high, ordinal_low, ordinal_high, ordinal_finite, pattern_ordinal, determines, signed_value}
use Rattle.ladder.proofs.Sum.{rounded_value}

module _ (f e : ℕ) (some : 1 ≤ f) where
  abbrev s : ℕ
  s = sign f e

  ordinal_value : (p : ℕ) → is_finite f e p ≡ true → (above f e (ordinal f e p) ≡ units_above f e p) × (below f e (ordinal f e p) ≡ units_below f e p)
  unfolding units_above units_below
  ordinal_value p h = elim (le_or_lt s p) [
    | inl l ↦ simp (le-ltb _ _ l) (signed_value f e true (ordinal f e p) (p - s) (omega (arith, ordinal_high f e p l, finite_high f e p h l, infinity_lt_sign f e)))
    | inr l ↦ simp (lt-ltb _ _ l) (signed_value f e false (ordinal f e p) p (omega (arith, ordinal_low f e p l)))
  ]

  pub written : (p : ℕ) → is_finite f e p ≡ true → Written f e p
  written p h =
      let r = ordinal f e p in
      let i = ordinal_finite f e p h in
      let v = ordinal_value p h in
      record {
        up = v.0;
        down = v.1;
        back = ap (pattern f e) (rounded_value f e some (units_above f e p) (units_below f e p) r (omega (arith, i.low)) (omega (arith, i.high)) (omega arith)) ∙ pattern_ordinal f e p h;
        one = λ q k same.
            sym (pattern_ordinal f e q k) ∙ ap (pattern f e) (determines f e (ordinal f e q) r (omega (arith, ordinal_value q k))) ∙ pattern_ordinal f e p h;
      }
