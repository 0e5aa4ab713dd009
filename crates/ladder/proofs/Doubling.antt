-- Twice a float is a float: m doubled below 2^f, one binade up from there on. So x ⊕ x is exact, and x ⊖ a = a says no more than a ⊕ a = x. Assumes nothing.
use mathlib.Core.Path.{◌≡◌, sym, ap, ◌∙◌, subst}
use mathlib.Core.Logic.{◌↔◌, inl, inr}
use Prim.Native.Nat.{ℕ, suc, ◌+◌, ◌-◌, ◌*◌, ◌^◌, min, ◌≤◌, ◌<◌, ◌∣◌}
use native.Mathlib.Nat.{dvd-sub}
use native.Mathlib.Omega.{arith}
use borrow.Author.Tests.{lt-ltb, le-ltb}
use Rattle.ladder.specs.Magnitude.{magnitude, shift}
use Rattle.ladder.specs.Rounding.{round}
use Rattle.ladder.specs.Ordinal.{sign, infinity, above, below, mirrored, Finite}
use Rattle.ladder.specs.Sum.{gains, losses, sum}
use Rattle.ladder.specs.Halves.{doubled, halved}
use Rattle.ladder.proofs.Cases.{le_or_lt}
use Rattle.ladder.proofs.Magnitude.{magnitude_small, magnitude_shift, magnitude_lt, parts}
use Rattle.ladder.proofs.Rounding.{round_mono, round_magnitude}
use Rattle.ladder.proofs.Ordinals.{infinity_lt_sign, above_none, below_none}
use Rattle.ladder.proofs.Granularity.{magnitude_power}
use Rattle.ladder.proofs.Skips.{step_dvd}
use Rattle.ladder.proofs.Sum.{rounded_up, rounded_down, rounded_value, above_mirror, below_mirror}
use Rattle.ladder.proofs.Exactness.{multiple_exact}

pub magnitude_doubled : (f m : ℕ) → magnitude f (doubled f m) ≡ 2 * magnitude f m
magnitude_doubled f m = elim (le_or_lt (2 ^ f) m) [
  | inl h ↦ simp (le-ltb _ _ h) (ap (magnitude f) (omega arith) ∙ magnitude_shift f 1 m h ∙ omega arith)
  | inr h ↦ simp (lt-ltb _ _ h) (magnitude_small f (2 * m) (omega arith) ∙ ap (λ (x : ℕ). 2 * x) (sym (magnitude_small f m (omega arith))))
]

pub doubled_ge : (f m : ℕ) → m ≤ doubled f m
doubled_ge f m = elim (le_or_lt (2 ^ f) m) [ inl h ↦ simp (le-ltb _ _ h) (omega arith) | inr h ↦ simp (lt-ltb _ _ h) (omega arith) ]

-- ---- half of n, rounded either way
pub doubled_le : (f m n : ℕ) → (doubled f m ≤ n) ↔ (m ≤ halved f 0 n)
doubled_le f m n = elim (le_or_lt (2 ^ f) m) [
  | inl h ↦ elim (le_or_lt (2 * 2 ^ f) n) [
    | inl g ↦ simp (le-ltb _ _ h, le-ltb _ _ g) (λ l. omega arith, λ l. omega arith)
    | inr g ↦ simp (le-ltb _ _ h, lt-ltb _ _ g) (λ l. absurd (omega arith), λ l. absurd (omega arith))
  ]
  | inr h ↦ elim (le_or_lt (2 * 2 ^ f) n) [
    | inl g ↦ simp (lt-ltb _ _ h, le-ltb _ _ g) (λ l. omega arith, λ l. omega arith)
    | inr g ↦ simp (lt-ltb _ _ h, lt-ltb _ _ g) (λ l. omega arith, λ l. omega arith)
  ]
]

pub le_doubled : (f m n : ℕ) → (n ≤ doubled f m) ↔ (halved f 1 n ≤ m)
le_doubled f m n = elim (le_or_lt (2 ^ f) m) [
  | inl h ↦ elim (le_or_lt (2 * 2 ^ f) n) [
    | inl g ↦ simp (le-ltb _ _ h, le-ltb _ _ g) (λ l. omega arith, λ l. omega arith)
    | inr g ↦ simp (le-ltb _ _ h, lt-ltb _ _ g) (λ l. omega arith, λ l. omega arith)
  ]
  | inr h ↦ elim (le_or_lt (2 * 2 ^ f) n) [
    | inl g ↦ simp (lt-ltb _ _ h, le-ltb _ _ g) (λ l. absurd (omega arith), λ l. absurd (omega arith))
    | inr g ↦ simp (lt-ltb _ _ h, lt-ltb _ _ g) (λ l. omega arith, λ l. omega arith)
  ]
]

pub halved_le : (f up n : ℕ) → up ≤ 1 → halved f up n ≤ n
halved_le f up n l = elim (le_or_lt (2 * 2 ^ f) n) [ inl g ↦ simp (le-ltb _ _ g) (omega arith) | inr g ↦ simp (lt-ltb _ _ g) (omega arith) ]

module _ (f e : ℕ) (some : 1 ≤ f) where
  abbrev s : ℕ
  s = sign f e

  round_doubled : (m n : ℕ) → n ≡ 2 * magnitude f m → round f n ≡ doubled f m
  round_doubled m n is = ap (round f) (is ∙ sym (magnitude_doubled f m)) ∙ round_magnitude f some (doubled f m)

  -- x ⊕ x: exact, saturated at the infinities
  pub sum_doubled_up : (x : ℕ) → s ≤ x → sum f e x x ≡ s + min (doubled f (x - s)) (infinity f e)
  unfolding sum
  sum_doubled_up x h =
      let z = below_none f e x h in
      rounded_up f e some (gains f e x x) (losses f e x x) (omega arith)
      ∙ ap (λ (y : ℕ). s + min y (infinity f e)) (round_doubled (x - s) (gains f e x x - losses f e x x) (omega arith))

  pub sum_doubled_down : (x : ℕ) → x ≤ s → sum f e x x ≡ s - min (doubled f (s - x)) (infinity f e)
  unfolding sum
  sum_doubled_down x h =
      let z = above_none f e x h in
      rounded_down f e some (gains f e x x) (losses f e x x) (omega arith)
      ∙ ap (λ (y : ℕ). s - min y (infinity f e)) (round_doubled (s - x) (losses f e x x - gains f e x x) (omega arith))

  -- a float x and the a above zero that is left when a is taken away: nothing was rounded
  pub halving : (x a : ℕ) → Finite f e x → Finite f e a → s < a → sum f e x (mirrored f e a) ≡ a → above f e x ≡ 2 * above f e a
  unfolding sum
  halving x a X A h is =
      let i = infinity_lt_sign f e in
      let m = a - s in
      let k = shift f m in
      let P = gains f e x (mirrored f e a) in
      let N = losses f e x (mirrored f e a) in
      let up : above f e (mirrored f e a) ≡ 0 = above_mirror f e some a ∙ below_none f e a (omega arith) in
      let down : below f e (mirrored f e a) ≡ above f e a = below_mirror f e some a (omega (arith, A.high)) in
      elim (le_or_lt P N) [
        | inl l ↦ absurd (omega (arith, rounded_down f e some P N l))
        | inr l ↦
            let r = rounded_up f e some P N (omega arith) in
            let p : round f (P - N) ≡ m = omega (arith, A.high) in
            let big : s ≤ x = elim (le_or_lt s x) [ inl g ↦ g | inr g ↦ absurd (omega (arith, above_none f e x (omega arith))) ] in
            let z = below_none f e x big in
            let n : P - N ≡ above f e x - above f e a = omega arith in
            let more : m ≤ x - s = elim (le_or_lt m (x - s)) [ inl g ↦ g | inr g ↦ absurd (omega (arith, magnitude_lt f (x - s) m g)) ] in
            let d : 2 ^ k ∣ P - N = subst (λ (y : ℕ). 2 ^ k ∣ y) (sym n) (dvd-sub (2 ^ k) (step_dvd f m (x - s) more) (step_dvd f m m (omega arith))) in
            let q = parts f m in
            let top : magnitude f ((suc k + 1) * 2 ^ f) ≡ 2 ^ (f + suc k) = magnitude_power f (suc k) in
            let few : P - N < 2 ^ (k + suc f) = elim (le_or_lt (2 ^ (f + suc k)) (P - N)) [
              | inl g ↦
                  let t : round f (2 ^ (f + suc k)) ≡ (suc k + 1) * 2 ^ f = ap (round f) (sym top) ∙ round_magnitude f some ((suc k + 1) * 2 ^ f) in
                  absurd (omega (arith, round_mono f some (2 ^ (f + suc k)) (P - N) g, q.is, q.below))
              | inr g ↦ omega (arith, ap (λ (y : ℕ). 2 ^ y) (comm k f))
            ] in
            let ex : magnitude f (round f (P - N)) ≡ P - N = multiple_exact f some (P - N) k d few in
            omega (arith, ap (magnitude f) p)
      ]
    where
      comm : (k f : ℕ) → f + suc k ≡ k + suc f
      comm k f = omega arith

  -- and back: nothing is rounded where x is twice a
  pub halves : (x a : ℕ) → Finite f e a → s ≤ a → s ≤ x → above f e x ≡ 2 * above f e a → sum f e x (mirrored f e a) ≡ a
  unfolding sum
  halves x a A h g is =
      let i = infinity_lt_sign f e in
      rounded_value f e some (gains f e x (mirrored f e a)) (losses f e x (mirrored f e a)) a (omega arith) (omega (arith, A.high))
      (omega (arith, above_mirror f e some a, below_mirror f e some a (omega (arith, A.high)), below_none f e a h, below_none f e x g))
