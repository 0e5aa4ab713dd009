-- A sum or a difference with one float in two or three places comes to a double, to an absorption, or to zero: x ⊖ a = a says that a ⊕ a = x, x ⊕ x = x that x is zero, and x ⊖ x is zero; and so do the narrowings of two intervals by these tests. Rests on Doubling and Absorbing.
use mathlib.Core.Path.{◌≡◌, sym, ap, ◌∙◌, subst}
use mathlib.Core.Logic.{◌↔◌, inl, inr}
use mathlib.Core.Bool.{Bool}
use Prim.Native.Nat.{ℕ, ◌-◌, ◌^◌, ◌≤◌, ◌<◌}
use native.Mathlib.Nat.{le_refl}
use native.Mathlib.Omega.{arith}
use lib.Dec.{T, eqb, eqb→eq, eqb_refl}
use lib.Pow.{pow_pos}
use borrow.Author.Tests.{lt-ltb, le-ltb, eq-eqb, ne_eqb}
use Rattle.ladder.specs.Magnitude.{magnitude}
use Rattle.ladder.specs.Ordinal.{sign, above, mirrored, Finite}
use Rattle.ladder.specs.Sum.{gains, losses, sum}
use Rattle.ladder.specs.Solution.{Interval, In, Bounded}
use Rattle.ladder.specs.Halves.{doubled}
use Rattle.ladder.specs.Pairing.{none, ends, pairing, Pair, doubles, absorbs}
use Rattle.ladder.proofs.Cases.{le_or_lt, trichotomy, equal_or_not}
use Rattle.ladder.proofs.Magnitude.{magnitude_lt}
use Rattle.ladder.proofs.Ordinals.{infinity_lt_sign, above_none, below_none, mirror_finite, finite_twice}
use Rattle.ladder.proofs.Sum.{sum_comm, sum_mirror, sum_range, rounded_value, above_mirror, below_mirror}
use Rattle.ladder.proofs.Solutions.{finite_in}
use Rattle.ladder.proofs.Pairing.{pairing_unique, pairing_agree}
use Rattle.ladder.proofs.Doubling.{magnitude_doubled, sum_doubled_up, sum_doubled_down, halving, halves}
use Rattle.ladder.proofs.Absorbing.{sum_zero}

-- only zero is its own double
doubled_self : (f m : ℕ) → doubled f m ≡ m → m ≡ 0
doubled_self f m = elim (le_or_lt (2 ^ f) m) [
  | inl h ↦ simp (le-ltb _ _ h) (λ e. omega (arith, pow_pos f, e))
  | inr h ↦ simp (lt-ltb _ _ h) (λ e. omega (arith, e))
]

module _ (f e : ℕ) (some : 1 ≤ f) where
  abbrev s : ℕ
  s = sign f e

  -- x ⊕ x = x
  pub double_self : (x : ℕ) → Finite f e x → (sum f e x x ≡ x) ↔ (x ≡ s)
  double_self x n = (to, λ z. subst (λ (y : ℕ). sum f e y y ≡ y) (sym z) (sum_zero f e some s (subst (Finite f e) z n)))
    where
      to : sum f e x x ≡ x → x ≡ s
      to is = elim (le_or_lt s x) [
        | inl g ↦ omega (arith, doubled_self f (x - s) (omega (arith, sum_doubled_up f e some x g, is, n.high)))
        | inr g ↦ omega (arith, infinity_lt_sign f e, doubled_self f (s - x) (omega (arith, sum_doubled_down f e some x (omega arith), is, n.low, infinity_lt_sign f e)))
      ]

  -- x ⊖ x = 0
  pub difference_self : (x : ℕ) → Finite f e x → sum f e x (mirrored f e x) ≡ s
  unfolding sum
  difference_self x n =
      let m = mirrored f e x in
      rounded_value f e some (gains f e x m) (losses f e x m) s (omega arith) (omega arith)
      (omega (arith, above_mirror f e some x, below_mirror f e some x (finite_twice f e x n), above_none f e s (omega arith), below_none f e s (omega arith)))

  -- x ⊖ a = a for a above zero
  up_to : (x a : ℕ) → Finite f e x → Finite f e a → s < a → sum f e x (mirrored f e a) ≡ a → sum f e a a ≡ x
  unfolding sum
  up_to x a X A h is =
      let v = halving f e some x a X A h is in
      let p : 0 < above f e a = omega (arith, magnitude_lt f 0 (a - s) (omega arith)) in
      let big : s ≤ x = elim (le_or_lt s x) [ inl g ↦ g | inr g ↦ absurd (omega (arith, above_none f e x (omega arith))) ] in
      rounded_value f e some (gains f e a a) (losses f e a a) x (omega arith) (omega (arith, X.high)) (omega (arith, below_none f e a (omega arith), below_none f e x big))

  up_from : (x a : ℕ) → Finite f e x → Finite f e a → s < a → sum f e a a ≡ x → sum f e x (mirrored f e a) ≡ a
  up_from x a X A h is =
      let d = sum_doubled_up f e some a (omega arith) in
      let m : x - s ≡ doubled f (a - s) = omega (arith, X.high) in
      halves f e some x a A (omega arith) (omega (arith, X.high)) (ap (magnitude f) m ∙ magnitude_doubled f (a - s))

  -- x ⊖ a = a
  pub difference_doubles : (x a : ℕ) → Finite f e x → Finite f e a → (sum f e x (mirrored f e a) ≡ a) ↔ (sum f e a a ≡ x)
  difference_doubles x a X A = elim (trichotomy a s) [
    | inl l ↦
        let x' = mirrored f e x in
        let a' = mirrored f e a in
        let X' = mirror_finite f e x X in
        let A' = mirror_finite f e a A in
        let tx = finite_twice f e x X in
        let ta = finite_twice f e a A in
        let ta' = finite_twice f e a' A' in
        let i = infinity_lt_sign f e in
        let h : s < a' = omega arith in
        let u = sum_mirror f e some x a' tx ta' in
        let v = sum_mirror f e some a a ta ta in
        let p = sum_range f e some x a' in
        let q = sum_range f e some a a in (
          λ is. let w = up_to x' a' X' A' h (u ∙ ap (mirrored f e) is) in omega (arith, v, w, q.1),
          λ is. let w = up_from x' a' X' A' h (v ∙ ap (mirrored f e) is) in omega (arith, u, w, p.1),
        )
    | inr r ↦ elim r [
      | inl z ↦
          let m : mirrored f e a ≡ s = omega arith in
          let k : sum f e x (mirrored f e a) ≡ x = ap (sum f e x) m ∙ sum_zero f e some x X in
          let j : sum f e a a ≡ a = subst (λ (y : ℕ). sum f e a y ≡ a) (sym z) (sum_zero f e some a A) in
          (λ is. j ∙ sym is ∙ k, λ is. k ∙ sym is ∙ j)
      | inr g ↦ (up_to x a X A g, up_from x a X A g)
    ]
  ]

  -- ---- the narrowings of two intervals by these tests
  eqb_same : (a b c d : ℕ) → (a ≡ b) ↔ (c ≡ d) → eqb a b ≡ eqb c d
  eqb_same a b c d h = elim (equal_or_not a b) [
    | inl e ↦ eq-eqb a b e ∙ sym (eq-eqb c d (h.0 e))
    | inr n ↦ ne_eqb a b n ∙ sym (ne_eqb c d (λ e. n (h.1 e)))
  ]

  -- x ⊕ a = a: a absorbs x
  pub absorbs_other : (A X : Interval) → pairing (λ a x. eqb (sum f e x a) a) A X ≡ pairing (absorbs f e) A X
  absorbs_other A X = pairing_agree _ _ A X (λ a x i j. ap (λ (y : ℕ). eqb y a) (sum_comm f e x a))

  -- x ⊖ a = a: x is twice a
  pub difference_pairing : (A X : Interval) → Bounded f e A → Bounded f e X → pairing (λ a x. eqb (sum f e x (mirrored f e a)) a) A X ≡ pairing (doubles f e) A X
  difference_pairing A X p q = pairing_agree _ _ A X (λ a x i j. eqb_same _ _ _ _ (difference_doubles x a (finite_in f e X q x j) (finite_in f e A p a i)))

  -- x ⊖ x = b: b is zero, and every x stays
  module _ (X B : Interval) (n : Bounded f e X) where
    abbrev zero_test : ℕ → ℕ → Bool
    zero_test x b = eqb (sum f e x (mirrored f e x)) b

    zero_is : (x b : ℕ) → Pair zero_test X B x b → b ≡ s
    zero_is x b w = sym (eqb→eq _ b w.passes) ∙ difference_self x (finite_in f e X n x w.p_in)

    zero_pair : (x : ℕ) → In X x → In B s → Pair zero_test X B x s
    zero_pair x i z = record { p_in = i; q_in = z; passes = subst (λ (y : ℕ). T (eqb y s)) (sym (difference_self x (finite_in f e X n x i))) (eqb_refl s) }

    pub zero_none : (In B s → ⊥) → pairing zero_test X B ≡ none
    zero_none z = sym (pairing_unique zero_test X B none (λ x b w. z (subst (In B) (zero_is x b w) w.q_in)))

    pub zero_ends : X.low ≤ X.high → In B s → pairing zero_test X B ≡ ends X (record { low = s; high = s })
    zero_ends o z =
        let low = zero_pair X.low (record { low = le_refl X.low; high = o }) z in
        let high = zero_pair X.high (record { low = o; high = le_refl X.high }) z in
        sym
        (pairing_unique zero_test X B (ends X (record { low = s; high = s }))
        (record {
          firsts = record { low = record { q = s; pair = low }; high = record { q = s; pair = high }; all = λ y w. w.pair.p_in };
          seconds = record {
            low = record { p = X.low; pair = low };
            high = record { p = X.low; pair = low };
            all = λ y w. let e = zero_is w.p y w.pair in record { low = omega arith; high = omega arith };
          };
        }))
