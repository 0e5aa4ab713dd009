-- A gap of more than three digits: of the smaller significand a word keeps the digits down to the third below the larger one's last, and one sticky bit for all below. Rests on `ladder`'s Multiples.
use Rattle.std.proofs.Common.{◌≡◌, ℕ, suc, ◌+◌, ◌-◌, ◌*◌, ◌/◌, ◌%◌, ◌^◌, ◌<◌, ◌≤◌, min, Bool, true, false, cond, ◌⊎◌, sym, refl, ap, ◌∙◌, subst, ap₂, inl, inr, mul-le-mul_right, mod-lt, mul-le-mul_left, mul-lt-mul_of_pos_right, mul-pos, div-add-mod', arith, pow_pos, pow_mono, pow-add}
use native.Mathlib.Nat.{pow-succ'}
use Rattle.ladder.proofs.Cases.{le_or_lt}
use Rattle.ladder.proofs.Multiples.{sub_mul}
use Rattle.arith.specs.declared.sum.Exact.{Exact}
use Rattle.arith.specs.declared.sum.Scaled.{Scaled}
use Rattle.arith.specs.Exacts.{joined_of, steps_of, size_of, Shaped, Alike, same, sticky, Scales, Digits}

-- ---- the numbers: u and v are powers of two, Q is K * 2u and the rest L
module _ (P K L Q u v : ℕ) (q : Q ≡ K * (2 * u) + L) where
  add_even : L ≡ 0 → (16 * P + (2 * K + 0)) * (v * u) ≡ (P * (u * 16) + Q) * v
  add_even z = omega (arith, ap (λ (x : ℕ). x * v) q, ap (λ (x : ℕ). x * v) z)

  sub_even : L ≡ 0 → (16 * P - (2 * K + 0)) * (v * u) ≡ (P * (u * 16) - Q) * v
  sub_even z = sub_mul (16 * P) (2 * K + 0) (v * u) ∙ omega (arith, ap (λ (x : ℕ). x * v) q, ap (λ (x : ℕ). x * v) z) ∙ sym (sub_mul (P * (u * 16)) Q v)

  add_near : (16 * P + (2 * K + 1)) * (v * u) ≡ (8 * P + K) * (2 * u * v) + u * v
  add_near = omega arith

  add_true : (P * (u * 16) + Q) * v ≡ (8 * P + K) * (2 * u * v) + L * v
  add_true = omega (arith, ap (λ (x : ℕ). x * v) q)

  sub_near : K + 1 ≤ 8 * P → (16 * P - (2 * K + 1)) * (v * u) ≡ (8 * P - (K + 1)) * (2 * u * v) + u * v
  sub_near h = sub_mul (16 * P) (2 * K + 1) (v * u) ∙ omega (arith, sub_mul (8 * P) (K + 1) (2 * u * v), mul-le-mul_right (2 * u * v) h)

  sub_true : K + 1 ≤ 8 * P → L ≤ 2 * u → (P * (u * 16) - Q) * v ≡ (8 * P - (K + 1)) * (2 * u * v) + (2 * u - L) * v
  sub_true h l =
      sub_mul (P * (u * 16)) Q v
      ∙ omega (arith, ap (λ (x : ℕ). x * v) q, sub_mul (8 * P) (K + 1) (2 * u * v), sub_mul (2 * u) L v, mul-le-mul_right (2 * u * v) h, mul-le-mul_right v l)

-- ---- the larger significand P stands g + 4 above the smaller one Q, which stands at 2 ^ i
module _ (f g i P Q : ℕ) (some : 1 ≤ f) (big : 2 ^ f ≤ P) (few : Q < 2 * 2 ^ f) where
  abbrev K : ℕ
  K = Q / 2 ^ suc g

  abbrev L : ℕ
  L = Q % 2 ^ suc g

  abbrev u : ℕ
  u = 2 ^ g

  abbrev v : ℕ
  v = 2 ^ i

  q : Q ≡ K * (2 * u) + L
  q = sym (div-add-mod' Q (2 ^ suc g)) ∙ omega (arith, ap (λ (x : ℕ). K * x) (pow-succ' 2 g))

  low : L < 2 * u
  low = omega (arith, mod-lt Q (pow_pos (suc g)), pow-succ' 2 g)

  half : K < 2 ^ f
  half = omega (arith, q, mul-le-mul_left K (pow_pos g))

  wide : 2 ^ (suc g + i) ≡ 2 * u * v
  wide = pow-add 2 (suc g) i ∙ ap (λ (x : ℕ). x * v) (pow-succ' 2 g)

  uv : 0 < u * v
  uv = mul-pos (pow_pos g) (pow_pos i)

  -- only a sticky bit below a, where a has a digit more than an m keeps
  stuck : (a b c n m : ℕ) → 2 * 2 ^ f ≤ a → 0 < b → b < 2 * u * v → 0 < c → c < 2 * u * v → n ≡ a * (2 * u * v) + b → m ≡ a * (2 * u * v) + c → Alike f n m
  stuck a b c n m big B B' C C' N M =
      sticky (suc g + i) a b c big B (omega (arith, wide)) C (omega (arith, wide)) (N ∙ ap (λ (w : ℕ). a * w + b) (sym wide)) (M ∙ ap (λ (w : ℕ). a * w + c) (sym wide))

  at : (s : ℕ) → ((L ≡ 0) × (s ≡ 0)) ⊎ ((0 < L) × (s ≡ 1)) → (b : Bool) → Alike f (cond b (16 * P - (2 * K + s)) (16 * P + (2 * K + s)) * (v * u)) (cond b (P * (u * 16) - Q) (P * (u * 16) + Q) * v)
  at s (inl z) true = same (ap (λ (x : ℕ). (16 * P - (2 * K + x)) * (v * u)) z.1 ∙ sub_even P K L Q u v q z.0)
  at s (inl z) false = same (ap (λ (x : ℕ). (16 * P + (2 * K + x)) * (v * u)) z.1 ∙ add_even P K L Q u v q z.0)
  at s (inr z) true =
      let h : K + 1 ≤ 8 * P = omega (arith, half, pow_pos f) in
      let l : L ≤ 2 * u = omega (arith, low) in
      stuck (8 * P - (K + 1)) (u * v) ((2 * u - L) * v) _ _ (omega (arith, half)) uv (omega (arith, uv))
      (omega (arith, sub_mul (2 * u) L v, mul-lt-mul_of_pos_right low (pow_pos i)))
      (omega (arith, sub_mul (2 * u) L v, mul-lt-mul_of_pos_right low (pow_pos i), mul-pos z.0 (pow_pos i)))
      (ap (λ (x : ℕ). (16 * P - (2 * K + x)) * (v * u)) z.1 ∙ sub_near P K L Q u v q h)
      (sub_true P K L Q u v q h l)
  at s (inr z) false =
      stuck (8 * P + K) (u * v) (L * v) _ _ (omega arith) uv (omega (arith, uv)) (mul-pos z.0 (pow_pos i)) (omega (arith, mul-lt-mul_of_pos_right low (pow_pos i)))
      (ap (λ (x : ℕ). (16 * P + (2 * K + x)) * (v * u)) z.1 ∙ add_near P K L Q u v q)
      (add_true P K L Q u v q)

  jam : (b : Bool) → Alike f (cond b (16 * P - (2 * K + min L 1)) (16 * P + (2 * K + min L 1)) * 2 ^ (i + g)) (cond b (P * 2 ^ (g + 4) - Q) (P * 2 ^ (g + 4) + Q) * 2 ^ i)
  jam b =
      rw (pow-add 2 i g, pow-add 2 g 4)
      (at (min L 1) (elim (le_or_lt L 0) [ inl l ↦ inl (omega arith) | inr l ↦ inr (omega arith) ]) b)

-- ---- what `scale` makes
module _ (f : ℕ) (e : Exact) (ok : Digits f) (h : Shaped f e) where
  pub few : 2 ^ f ≤ 2 ^ 53
  few = pow_mono ok.1

  pub near_fits : e.gap ≤ 3 → (e.larger * 2 ^ e.gap + e.smaller < 2 ^ 64)
  near_fits l = omega (arith, few, h.larger, h.smaller, mul-le-mul_left e.larger (pow_mono {j = 3} l))

  pub scale_near : (u : ℕ) (r : Scaled) → u ≡ e.larger * 2 ^ e.gap → r ≡ joined_of e.opposite u e.smaller e.shift → Scales f e r
  unfolding size_of steps_of
  scale_near u r U R =
      subst (Scales f e) (sym (R ∙ ap (λ (x : ℕ). joined_of e.opposite x e.smaller e.shift) U))
      (record { alike = same refl; fine = omega arith; low = omega arith })

  pub far_fits : (k s : ℕ) → k ≤ e.smaller → s ≤ 1 → 16 * e.larger + (2 * k + s) < 2 ^ 64
  far_fits k s l m = omega (arith, few, h.larger, h.smaller)

  pub far_order : (k s : ℕ) → 3 < e.gap → k ≡ e.smaller / 2 ^ (e.gap - 3) → s ≤ 1 → 2 * k + s ≤ 16 * e.larger
  far_order k s l K S = elim h.leading [
    | inl z ↦ absurd (omega arith)
    | inr b ↦ omega (arith, h.smaller, pow_pos f, lib.Pow.shr_le e.smaller (e.gap - 3))
  ]

  pub scale_far : (k s : ℕ) (r : Scaled) → 3 < e.gap → k ≡ e.smaller / 2 ^ (e.gap - 3) → s ≡ min (e.smaller % 2 ^ (e.gap - 3)) 1
      → r ≡ joined_of e.opposite (16 * e.larger) (2 * k + s) (e.shift + (e.gap - 3 - 1)) → Scales f e r
  unfolding size_of steps_of
  scale_far k s r l K S R =
      let g = e.gap - 4 in
      let P = e.larger in
      let Q = e.smaller in
      let i = e.shift in
      let o = e.opposite in
      let z1 : e.gap - 3 ≡ suc g = omega arith in
      let z2 : e.gap - 3 - 1 ≡ g = omega arith in
      let z3 : g + 4 ≡ e.gap = omega arith in
      let big : 2 ^ f ≤ P = elim h.leading [ inl z ↦ absurd (omega arith) | inr b ↦ b ] in
      let low : i + g ≤ e.gap + i = omega arith in
      let E : r ≡ joined_of o (16 * P) (2 * (Q / 2 ^ suc g) + min (Q % 2 ^ suc g) 1) (i + g) =
      R ∙ ap₂ (λ (k s : ℕ). joined_of o (16 * P) (2 * k + s) (i + (e.gap - 3 - 1))) K S
      ∙ ap₂ (λ (d x : ℕ). joined_of o (16 * P) (2 * (Q / 2 ^ d) + min (Q % 2 ^ d) 1) (i + x)) z1 z2
      in
      subst (Scales f e) (sym E)
      (record {
        alike = subst (λ (x : ℕ). Alike f (cond o (16 * P - (2 * (Q / 2 ^ suc g) + min (Q % 2 ^ suc g) 1)) (16 * P + (2 * (Q / 2 ^ suc g) + min (Q % 2 ^ suc g) 1)) * 2 ^ (i + g)) (cond o (P * 2 ^ x - Q) (P * 2 ^ x + Q) * 2 ^ i)) z3 (jam f g i P Q ok.0 big h.smaller o);
        fine = omega arith;
        low = low;
      })
