-- The grid of the sums on machine words: an ulp of the operand nearest zero, where all of one operand lie above zero and all of the other below. Rests on `ladder`'s Grid.
use mathlib.Core.Path.{◌≡◌, refl, sym, ap, ◌∙◌, subst}
use mathlib.Core.Logic.{inl, inr}
use mathlib.Core.Bool.{Bool, true, false, cond, not, ◌&&◌}
use Prim.Native.Nat.{ℕ, ◌+◌, ◌-◌, ◌*◌, ◌/◌, ◌^◌, ◌≤◌, ◌<◌, min}
use native.Mathlib.Nat.{add-div_right}
use native.Mathlib.Omega.{arith}
use lib.Dec.{leb, ltb}
use lib.Pow.{pow_pos}
use borrow.Author.Tests.{ltb-true, leb-true, leb-false, not-true}
use Rattle.ladder.specs.Magnitude.{magnitude}
use Rattle.ladder.specs.Ordinal as L
use Rattle.ladder.specs.Solution.{Interval, In}
use Rattle.ladder.specs.Search.{Multiple, Grid, free, step}
use Rattle.ladder.proofs.Cases.{le_or_lt}
use Rattle.ladder.proofs.Magnitude.{magnitude_le}
use Rattle.ladder.proofs.Granularity.{magnitude_power}
use Rattle.ladder.proofs.Ordinals.{ordinal_finite}
use Rattle.ladder.proofs.Grid.{far_above, far_below}
use Rattle.arith.specs.declared.format.Format.{Format}
use Rattle.arith.specs.declared.interval.Interval as E
use Rattle.arith.specs.Formats.{Sound, is_finite, ordinal, sum}
use Rattle.arith.proofs.Formats.{both, infinity_lt, finite_fits, ordinal_low, ordinal_high}
use Rattle.arith.proofs.Clamping.{field}
use Rattle.machine.specs.declared.guess.Pair.{Pair}
use Rattle.machine.specs.Floats.{ordinals, unsigned, HalfUlp, Adds, Negates}
use Rattle.machine.specs.Shortcuts.{left_x, left_a, Gridded, Passes, over, under}
use Rattle.machine.proofs.HalfUlps.{low_finite, size_low, size_high, size_lt}

-- all of I lie m ordinals or more above zero, or below it
data Apart (F : Format) (m : ℕ) (I : Interval) : Type 0 where
  above : L.sign F.fraction F.exponent + m ≤ I.low → Apart F m I
  below : I.high + m ≤ L.sign F.fraction F.exponent → Apart F m I

module _ (F : Format) (ok : Sound F) where
  abbrev f : ℕ
  f = F.fraction

  -- so they are multiples of an ulp of m
  apart_multiple : (k m : ℕ) (I : Interval) → Apart F m I → 2 ^ (k + f) ≤ magnitude f m → (y : ℕ) → In I y → Multiple f F.exponent k y
  apart_multiple k m I (above l) h y i = far_above f F.exponent ok.some k m y h (omega arith)
  apart_multiple k m I (below l) h y i = far_below f F.exponent ok.some k m y h (omega arith)

  zero_ordinal : ordinal F 0 ≡ L.sign f F.exponent
  zero_ordinal = omega (arith, ok.sign, ordinal_low F ok 0 (omega (arith, infinity_lt F ok)))

  -- half an ulp of the binade above m is a whole ulp of m
  grid_half : (X A : Interval) (m u : ℕ) → HalfUlp F (m + 2 ^ f) u → Apart F m X → Apart F m A → Grid f F.exponent X A (ordinal F u)
  grid_half X A m u h x a =
      let e = F.exponent in
      let q = m / 2 ^ f in
      let next : (m + 2 ^ f) / 2 ^ f ≡ q + 1 = add-div_right m (pow_pos f) in
      elim (le_or_lt 1 q) [
        | inl l ↦
            let k = q - 1 in
            let up : L.above f e (ordinal F u) ≡ 2 ^ k = ap (magnitude f) (omega (arith, ok.sign, ordinal_low F ok u (omega (arith, h.low, infinity_lt F ok)))) ∙ h.power (omega arith) ∙ ap (λ (x : ℕ). 2 ^ x) (omega arith) in
            let far : 2 ^ (k + f) ≤ magnitude f m = subst (λ (n : ℕ). n ≤ magnitude f m) (magnitude_power f k ∙ ap (λ (x : ℕ). 2 ^ x) (omega arith)) (magnitude_le f ((k + 1) * 2 ^ f) m (field f (k + 1) m (omega arith)).0) in
            step k up (apart_multiple k m X x far) (apart_multiple k m A a far)
        | inr l ↦ free (ap (ordinal F) (h.none (omega arith)) ∙ zero_ordinal)
      ]

  -- a number with its sign clear, or set, and all beyond it
  from_plus : (m p : ℕ) (I : Interval) → p < F.sign → m ≤ unsigned F p → ordinal F p ≤ I.low → Apart F m I
  from_plus m p I l h i = above (omega (arith, ok.sign, ordinal_low F ok p l, size_low F ok p l))

  from_minus : (m p : ℕ) (I : Interval) → F.sign ≤ p → is_finite F p ≡ true → m ≤ unsigned F p → I.high ≤ ordinal F p → Apart F m I
  from_minus m p I l n h i = below (omega (arith, ok.sign, ordinal_high F ok p l, size_high F ok p l, finite_fits F ok p n))

  -- ---- the step
  pub size_chosen : (first : Bool) (p q r : ℕ) → r ≡ cond first p q → is_finite F p ≡ true → is_finite F q ≡ true → unsigned F r < F.infinity
  size_chosen true p q r e P Q = rw e (size_lt F ok p P)
  size_chosen false p q r e P Q = rw e (size_lt F ok q Q)

  module _ (p q : Pair) (p-finite : is_finite F p.high ≡ true) (q-finite : is_finite F q.high ≡ true) (plus minus u : ℕ) (h : HalfUlp F (min (unsigned F plus) (unsigned F minus) + 2 ^ F.fraction) u) where
    abbrev m : ℕ
    m = min (unsigned F plus) (unsigned F minus)

    -- whichever operand is the one above zero
    grid_far : (first : Bool) → plus ≡ cond first p.low q.low → minus ≡ cond first p.high q.high → plus < F.sign → F.sign ≤ minus → Gridded F p q u
    grid_far true a b l g =
        grid_half (ordinals F (left_x p q)) (ordinals F (left_a p q)) m u h
        (from_plus m plus (ordinals F (left_x p q)) l (omega arith) (omega (arith, ap (ordinal F) a)))
        (from_minus m minus (ordinals F (left_a p q)) g (rw b p-finite) (omega arith) (omega (arith, ap (ordinal F) b)))
    grid_far false a b l g =
        grid_half (ordinals F (left_x p q)) (ordinals F (left_a p q)) m u h
        (from_minus m minus (ordinals F (left_x p q)) g (rw b q-finite) (omega arith) (omega (arith, ap (ordinal F) b)))
        (from_plus m plus (ordinals F (left_a p q)) l (omega arith) (omega (arith, ap (ordinal F) a)))

    pub gridded : (first : Bool) (r : ℕ) → plus ≡ cond first p.low q.low → minus ≡ cond first p.high q.high → r ≡ cond (ltb plus F.sign && leb F.sign minus) u 0 → (is_finite F r ≡ true) × Gridded F p q r
    gridded first r a b = go (ltb plus F.sign && leb F.sign minus) refl
      where
        go : (t : Bool) → (ltb plus F.sign && leb F.sign minus) ≡ t → r ≡ cond t u 0 → (is_finite F r ≡ true) × Gridded F p q r
        go true t z =
            let s = both (ltb plus F.sign) (leb F.sign minus) t in
            rw z (low_finite F ok u h.low, grid_far first a b (ltb-true _ _ s.0) (leb-true _ _ s.1))
        go false t z = rw z (low_finite F ok 0 (omega (arith, h.low)), free zero_ordinal)

  -- ---- past b
  module _ (s u : ℕ) (b : E.Interval) (n : is_finite F s ≡ true) where
    -- what an order that does not hold says
    beyond : (x y : ℕ) (t : Bool) → t ≡ leb x y → t ≡ false → y < x
    beyond x y t e h = leb-false x y (sym e ∙ h)

    -- the test of the last call, negated
    denied : (x y : ℕ) (t : Bool) → t ≡ leb x y → not t ≡ true → y < x
    denied x y t e h = beyond x y t e (not-true t h)

    pub passes_over : (t v : ℕ) (c d : Bool) → c ≡ leb (ordinal F s) (ordinal F b.high) → c ≡ false → Negates F u t → Adds F s t v → d ≡ leb (ordinal F b.low) (ordinal F v) → not d ≡ true → Passes F s u b
    passes_over t v c d a h o p k g =
        over (ordinal_finite F.fraction F.exponent s n) (beyond _ _ c a h)
        (subst (λ (r : ℕ). r < ordinal F b.low) (p.is n ∙ ap (sum F (ordinal F s)) o.is) (denied _ _ d k g))

    pub passes_under : (v : ℕ) (c d : Bool) → c ≡ leb (ordinal F b.low) (ordinal F s) → c ≡ false → Adds F s u v → d ≡ leb (ordinal F v) (ordinal F b.high) → not d ≡ true → Passes F s u b
    passes_under v c d a h p k g =
        under (ordinal_finite F.fraction F.exponent s n) (beyond _ _ c a h)
        (subst (λ (r : ℕ). ordinal F b.high < r) (p.is n) (denied _ _ d k g))
