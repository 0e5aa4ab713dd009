-- What rounding left over of an exact sum: by one word, in steps of 2^shift units; as an m; and with its sign the remainder's ordinal. Rests on `ladder`'s Exactness, Rounding and Ordinals.
use Rattle.std.proofs.Common.{◌≡◌, ℕ, suc, ◌+◌, ◌-◌, ◌*◌, ◌%◌, ◌^◌, ◌<◌, ◌≤◌, Bool, true, false, cond, not, leb, ◌⊎◌, sym, ap, ◌∙◌, subst, inl, inr, le_trans, le_of_mul-le-mul_right, arith, pow_pos, pow_mono, pow-add, leb-false, leb-true}
use native.Mathlib.Nat.{dvd-mul_left, pow-succ'}
use lib.Ieee.{size}
use lib.Ieee.Digits.{size-le}
use Rattle.ladder.specs.Magnitude.{magnitude}
use Rattle.ladder.specs.Rounding.{round}
use Rattle.ladder.specs.Ordinal.{sign, above, below}
use Rattle.ladder.specs.Ordinal as L
use Rattle.ladder.specs.Nearest.{distance}
use Rattle.ladder.proofs.Cases.{le_or_lt}
use Rattle.ladder.proofs.Digits.{shifted_lt, shifted_ge}
use Rattle.ladder.proofs.Magnitude.{magnitude_is, magnitude_lt, lt_of_magnitude}
use Rattle.ladder.proofs.Multiples.{sub_mul}
use Rattle.ladder.proofs.Rounding.{round_nearest}
use Rattle.ladder.proofs.Exactness.{digits_lt, multiple_exact}
use Rattle.ladder.proofs.Ordinals.{determines}
use Rattle.arith.specs.declared.format.Format.{Format}
use Rattle.arith.specs.declared.sum.Signed.{Signed}
use Rattle.arith.specs.declared.sum.Exact.{Exact}
use Rattle.arith.specs.declared.sum.Rounding.{Rounding}
use Rattle.arith.specs.Formats.{Sound}
use Rattle.arith.specs.Exacts.{steps_of, coarse_steps, size_of, Roundable, Encodable}
use Rattle.arith.specs.Steps.{IsSign, clear, set, is_set, ordinal_at, Represents, Rounds}
use Rattle.arith.proofs.Formats.{infinity_lt}
use Rattle.arith.proofs.Signs.{sign_clear, sign_set}
use Rattle.arith.proofs.Roundings.{rounded_m, lossy}
use Rattle.arith.proofs.Decoding.{pow_gap, signed_units}

-- ---- one word
-- l is the low word of A less B, which are less than 2^63 apart: below 2^63 it is A - B itself, else 2^64 - l is B - A
unwrapped : (A B l : ℕ) → (l + B % 2 ^ 64) % 2 ^ 64 ≡ A % 2 ^ 64 → distance A B < 2 ^ 63 → l < 2 ^ 63 → A ≡ B + l
unwrapped A B l e d h = omega arith

wrapped : (A B l k : ℕ) → (l + B % 2 ^ 64) % 2 ^ 64 ≡ A % 2 ^ 64 → distance A B < 2 ^ 63 → 2 ^ 63 ≤ l → l < 2 ^ 64 → (k + l) % 2 ^ 64 ≡ 0 → k < 2 ^ 64 → A + k ≡ B
wrapped A B l k e d h w z c = omega arith

-- the low word of a sum, and of a difference, by that of its first part
pub low_more : (A B a : ℕ) → a ≡ A % 2 ^ 64 → (a + B) % 2 ^ 64 ≡ (A + B) % 2 ^ 64
low_more A B a e = omega arith

pub low_less : (A B a : ℕ) → a ≡ A % 2 ^ 64 → B ≤ A → B < 2 ^ 64 → (a + (2 ^ 64 - B)) % 2 ^ 64 ≡ (A - B) % 2 ^ 64
low_less A B a e h w = omega arith

-- ---- distances of multiples
part_distance : (o : Bool) (a b c : ℕ) → b ≤ a → distance (cond o (a - b) (a + b) * c) (a * c) ≤ b * c
part_distance true a b c h = omega (arith, sub_mul a b c)
part_distance false a b c h = omega arith

steps_distance : (a b c d : ℕ) → 0 < c → distance (a * c) (b * c) ≤ d * c → distance a b ≤ d
steps_distance a b c d pos h = le_of_mul-le-mul_right {k = c} (omega (arith, sub_mul a b c, sub_mul b a c)) pos

-- ---- the exact size t, and r, to which it was rounded with a loss
module _ (f : ℕ) (t : Exact) (ok : Roundable f t) (r : Rounding) (R : Rounds f t r) (E : r.result.exact ≡ false) where
  abbrev k : ℕ
  k = t.shift

  abbrev m : ℕ
  m = r.result.m

  -- the rounded size in steps
  abbrev v : ℕ
  v = coarse_steps t r.kept

  kept_is : v * 2 ^ k ≡ magnitude f m
  kept_is = omega (arith, R.kept, ap (λ (x : ℕ). r.kept.significand * x) (pow_gap k r.kept.shift (R.coarser E)))

  steps_differ : steps_of t ≡ v → ⊥
  unfolding size_of
  steps_differ e = lossy f (size_of t) r.result R.is E (sym kept_is ∙ ap (λ (x : ℕ). x * 2 ^ k) (sym e))

  -- the larger part is a float's value, and the exact size is as far from it as the smaller part is large
  larger_value : magnitude f (round f (t.larger * 2 ^ t.gap * 2 ^ k)) ≡ t.larger * 2 ^ t.gap * 2 ^ k
  larger_value =
      let j = t.gap + k in
      let e : t.larger * 2 ^ j ≡ t.larger * 2 ^ t.gap * 2 ^ k = omega (arith, ap (λ (x : ℕ). t.larger * x) (pow-add 2 t.gap k)) in
      subst (λ (x : ℕ). magnitude f (round f x) ≡ x) e
      (multiple_exact f ok.fraction.0 (t.larger * 2 ^ j) j (dvd-mul_left (2 ^ j) t.larger) (digits_lt f t.larger j ok.shaped.larger))

  -- so what is left is no more than the smaller part
  steps_near : distance (steps_of t) v ≤ t.smaller
  unfolding size_of steps_of
  steps_near =
      let large = t.larger * 2 ^ t.gap in
      let far = part_distance t.opposite large t.smaller (2 ^ k) ok.shaped.order in
      let near = round_nearest f ok.fraction.0 (size_of t) (round f (large * 2 ^ k)) in
      steps_distance (steps_of t) v (2 ^ k) t.smaller (pow_pos k) (rw (kept_is, rounded_m f (size_of t) r.result R.is) (le_trans near (rw larger_value far)))

  few : t.smaller < 2 ^ 53
  few = omega (arith, ok.shaped.smaller, pow_mono {j = 52} ok.fraction.1)

  word_near : distance (steps_of t) v < 2 ^ 63
  word_near = omega (arith, steps_near, few)

  -- l is what `take_away` makes of the two, and n the size of the difference
  module _ (l : ℕ) (less : (l + v % 2 ^ 64) % 2 ^ 64 ≡ steps_of t % 2 ^ 64) where
    pub steps_short : leb (2 ^ 63) l ≡ false → steps_of t ≡ v + l
    steps_short h = unwrapped (steps_of t) v l less word_near (leb-false (2 ^ 63) l h)

    pub steps_past : leb (2 ^ 63) l ≡ true → l < 2 ^ 64 → (n : ℕ) → (n + l) % 2 ^ 64 ≡ 0 → n < 2 ^ 64 → steps_of t + n ≡ v
    steps_past h w n z c = wrapped (steps_of t) v l n less word_near (leb-true (2 ^ 63) l h) w z c

  -- what is left can be written as an m
  pub left_encodable : (n : ℕ) → distance (steps_of t) v ≡ n → Encodable f n k
  left_encodable n e = record {
    fraction = ok.fraction;
    some = elim (le_or_lt n 0) [ inl z ↦ absurd (steps_differ (omega arith)) | inr p ↦ p ];
    few = omega (arith, steps_near, ok.shaped.smaller);
    low = omega (arith, ok.low);
  }

  -- the units of the two sizes differ by those of the steps
  pub units_short : (n w : ℕ) → steps_of t ≡ v + n → w ≡ n * 2 ^ k → size_of t ≡ magnitude f m + w
  unfolding size_of
  units_short n w e W = omega (arith, kept_is, ap (λ (x : ℕ). x * 2 ^ k) e)

  pub units_past : (n w : ℕ) → steps_of t + n ≡ v → w ≡ n * 2 ^ k → size_of t + w ≡ magnitude f m
  unfolding size_of
  units_past n w e W = omega (arith, kept_is, ap (λ (x : ℕ). x * 2 ^ k) e)

-- ---- what `encode` makes: n is shifted up as far as there is room, and no further than its shift
module _ (f n s : ℕ) (ok : Encodable f n s) where
  pub digits_room : size n ≤ f + 1
  digits_room = omega (arith, size-le n (suc f) (omega (arith, ok.few, pow-succ' 2 f)))

  module _ (up : ℕ) (U : ((f + 1 - size n < s) × (up ≡ f + 1 - size n)) ⊎ ((s ≤ f + 1 - size n) × (up ≡ s))) where
    pub up_le : (up ≤ s) × (size n + up ≤ suc f)
    up_le = elim U [ inl h ↦ (omega arith, omega (arith, digits_room)) | inr h ↦ (omega arith, omega (arith, digits_room)) ]

    pub shifted_few : n * 2 ^ up < 2 * 2 ^ f
    shifted_few = omega (arith, shifted_lt n up (suc f) up_le.1, pow-succ' 2 f)

    pub encode_is : magnitude f ((s - up) * 2 ^ f + n * 2 ^ up) ≡ n * 2 ^ s
    encode_is =
        let counted : ((s - up) ≡ 0) ⊎ (2 ^ f ≤ n * 2 ^ up) = elim U [
          | inl h ↦ inr (shifted_ge n up f ok.some (omega (arith, digits_room)))
          | inr h ↦ inl (omega arith)
        ] in
        magnitude_is f (s - up) (n * 2 ^ up) counted (omega (arith, shifted_few)) ∙ omega (arith, ap (λ (x : ℕ). n * x) (pow_gap up s up_le.0))

-- ---- with a sign
-- p - q is n, with the sign b; less v with that sign, which is less than n by w, it is u - d
pub left_short : (b : Bool) (n v w p q u d : ℕ) → cond b 0 n ≡ p - q → cond b n 0 ≡ q - p → n ≡ v + w
    → p + (cond b v 0 + d) ≡ cond b 0 v + u + q → cond b 0 w + d ≡ u + cond b w 0
left_short true n v w p q u d P Q h e = omega arith
left_short false n v w p q u d P Q h e = omega arith

-- which is more than n by w
pub left_past : (b : Bool) (n v w p q u d : ℕ) → cond b 0 n ≡ p - q → cond b n 0 ≡ q - p → n + w ≡ v
    → p + (cond b v 0 + d) ≡ cond b 0 v + u + q → cond (not b) 0 w + d ≡ u + cond (not b) w 0
left_past true n v w p q u d P Q h e = omega arith
left_past false n v w p q u d P Q h e = omega arith

module _ (F : Format) (ok : Sound F) where
  -- the other sign
  pub other_sign : (s : ℕ) → IsSign F s → IsSign F (F.sign - s)
  other_sign s (clear e) = set (omega arith)
  other_sign s (set e) = clear (omega arith)

  pub other_set : (s : ℕ) → IsSign F s → is_set (F.sign - s) ≡ not (is_set s)
  other_set s (clear e) = sign_set F ok (F.sign - s) (omega arith) ∙ sym (ap not (sign_clear s e))
  other_set s (set e) = sign_clear (F.sign - s) (omega arith) ∙ sym (ap not (sign_set F ok s e))

  -- a sign and an m with the value of the finite ordinal r
  pub value_represents : (z : Signed) (r : ℕ) → L.Finite F.fraction F.exponent r → IsSign F z.sign
      → (let b = is_set z.sign in
      let w = magnitude F.fraction z.m in
      cond b 0 w + below F.fraction F.exponent r ≡ above F.fraction F.exponent r + cond b w 0)
      → Represents F r z
  value_represents z r R S e =
      let f = F.fraction in
      let x = F.exponent in
      let u = magnitude_lt f (r - sign f x) F.infinity (omega (arith, ok.infinity, ok.sign, R.high, infinity_lt F ok)) in
      let d = magnitude_lt f (sign f x - r) F.infinity (omega (arith, ok.infinity, R.low)) in
      let m = lt_of_magnitude f z.m F.infinity (inside (is_set z.sign) _ _ _ _ u d e) in
      let v = signed_units F ok z (omega arith) in
      record { ordinal = determines f x (ordinal_at F z) r (omega (arith, v)); finite = record { sign = S; m = m } }
    where
      inside : (b : Bool) (w u d i : ℕ) → u < i → d < i → cond b 0 w + d ≡ u + cond b w 0 → w < i
      inside true w u d i U D e = omega arith
      inside false w u d i U D e = omega arith
