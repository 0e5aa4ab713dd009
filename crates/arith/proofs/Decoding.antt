-- Step 1 of the forward sum: sizes taken apart and the exact sum of two floats, with nothing lost. Rests on `ladder`'s Magnitude, Multiples and Ordinals.
use Rattle.std.proofs.Common.{◌≡◌, ℕ, ◌+◌, ◌-◌, ◌*◌, ◌/◌, ◌^◌, ◌<◌, ◌≤◌, Bool, true, false, cond, not, eqb, sym, refl, ap, ◌∙◌, ap₂, inl, inr, le_trans, mul-le-mul_right, mul-le-mul_left, div-mul-le_self, le_of_mul-le-mul_right, arith, pow_pos, pow-add, eq-eqb, ne_eqb}
use mathlib.Core.Bool.{beq}
use Rattle.ladder.specs.Magnitude.{magnitude, shift, significand}
use Rattle.ladder.specs.Ordinal.{above, below}
use Rattle.ladder.proofs.Magnitude.{parts, magnitude_parts, shift_le, magnitude_le}
use Rattle.ladder.proofs.Multiples.{sub_mul}
use Rattle.ladder.proofs.Ordinals.{signed_value}
use Rattle.arith.specs.declared.sum.Scaled.{Scaled}
use Rattle.arith.specs.declared.sum.Exact.{Exact}
use Rattle.arith.specs.declared.sum.ExactSum.{ExactSum}
use Rattle.arith.specs.declared.format.Format.{Format}
use Rattle.arith.specs.declared.sum.Signed.{Signed}
use Rattle.arith.specs.Formats.{Sound}
use Rattle.arith.specs.Exacts.{parts_of, exact_of, steps_of, size_of, Shaped, Low}
use Rattle.arith.specs.Steps.{IsSign, clear, set, is_set, FiniteSigned, Summands, ordinal_at, Exactly}
use Rattle.arith.proofs.Formats.{infinity_lt}
use Rattle.arith.proofs.Signs.{sign_set, sign_clear}

-- 2 ^ (j - i) times 2 ^ i
pub pow_gap : (i j : ℕ) → i ≤ j → 2 ^ (j - i) * 2 ^ i ≡ 2 ^ j
pow_gap i j h = sym (pow-add 2 (j - i) i) ∙ ap (λ (x : ℕ). 2 ^ x) (omega arith)

-- the size of an exact sum by its two parts in units
pub size_is : (t : Exact) (A B : ℕ) → t.larger * 2 ^ t.gap * 2 ^ t.shift ≡ A → t.smaller * 2 ^ t.shift ≡ B → size_of t ≡ cond t.opposite (A - B) (A + B)
unfolding size_of steps_of
size_is t A B a b = go t.opposite
  where
    go : (o : Bool) → cond o (t.larger * 2 ^ t.gap - t.smaller) (t.larger * 2 ^ t.gap + t.smaller) * 2 ^ t.shift ≡ cond o (A - B) (A + B)
    go true = sub_mul (t.larger * 2 ^ t.gap) t.smaller (2 ^ t.shift) ∙ omega arith
    go false = omega arith

module _ (f m n : ℕ) (opposite : Bool) (h : n ≤ m) where
  abbrev e : Exact
  e = exact_of f opposite m n

  pub large : e.larger * 2 ^ e.gap * 2 ^ e.shift ≡ magnitude f m
  large = omega (arith, magnitude_parts f m, ap (λ (x : ℕ). e.larger * x) (pow_gap (shift f n) (shift f m) (shift_le f m n h)))

  size_exact : size_of e ≡ cond opposite (magnitude f m - magnitude f n) (magnitude f m + magnitude f n)
  size_exact = size_is e (magnitude f m) (magnitude f n) large (sym (magnitude_parts f n))

  top : e.gap + e.shift ≡ shift f m
  top = omega (arith, shift_le f m n h)

  pub low : m ≤ 2 ^ 63 → Low f e
  low l = omega (arith, (parts f m).is, ap (λ (x : ℕ). x * 2 ^ f) top)

  pub shaped : m ≤ 2 ^ 63 → Shaped f e
  shaped l =
      let a = parts f m in
      let b = parts f n in
      let o : e.smaller * 2 ^ e.shift ≤ e.larger * 2 ^ e.gap * 2 ^ e.shift = omega (arith, large, magnitude_parts f n, magnitude_le f n m h) in
      record {
        larger = a.below;
        smaller = b.below;
        leading = elim a.counted [ inl z ↦ inl (omega (arith, top)) | inr g ↦ inr g ];
        order = le_of_mul-le-mul_right {k = 2 ^ e.shift} o (pow_pos e.shift);
        height = le_trans (le_mul (e.gap + e.shift) (2 ^ f) (pow_pos f)) (low l);
      }
    where
      le_mul : (x k : ℕ) → 0 < k → x ≤ x * k
      le_mul x k p = omega (arith, mul-le-mul_left x p)

-- the signs differ
abbrev pub apart : Bool → Bool → Bool
apart s t = not (beq s t)

-- A is at least B, with the signs s and t
pub signed_up : (s t : Bool) (A B : ℕ) → B ≤ A → cond s 0 (cond (apart s t) (A - B) (A + B)) ≡ (cond s 0 A + cond t 0 B) - (cond s A 0 + cond t B 0)
signed_up true true A B h = omega arith
signed_up true false A B h = omega arith
signed_up false true A B h = omega arith
signed_up false false A B h = omega arith

pub signed_down : (s t : Bool) (A B : ℕ) → B ≤ A → cond s (cond (apart s t) (A - B) (A + B)) 0 ≡ (cond s A 0 + cond t B 0) - (cond s 0 A + cond t 0 B)
signed_down true true A B h = omega arith
signed_down true false A B h = omega arith
signed_down false true A B h = omega arith
signed_down false false A B h = omega arith

-- ---- what `decode` and `combine` make
pub decode_is : (f m d s u : ℕ) → d ≡ m / 2 ^ f → s ≡ d - 1 → u ≡ s * 2 ^ f → record { significand = m - u; shift = s } ≡ parts_of f m
unfolding significand shift
decode_is f m d s u D S U =
    let e : s ≡ m / 2 ^ f - 1 = omega arith in
    ap₂ (λ (u s : ℕ). record { significand = m - u; shift = s }) (U ∙ ap (λ (s : ℕ). s * 2 ^ f) e) e

pub decode_under : (f m d s : ℕ) → d ≡ m / 2 ^ f → s ≡ d - 1 → s * 2 ^ f ≤ m
decode_under f m d s D S = let l : s ≤ m / 2 ^ f = omega arith in omega (arith, mul-le-mul_right (2 ^ f) l, div-mul-le_self m (2 ^ f))

pub gap_le : (f m n : ℕ) (p q : Scaled) → p ≡ parts_of f m → q ≡ parts_of f n → n ≤ m → q.shift ≤ p.shift
gap_le f m n p q e g h = omega (arith, ap (λ (x : Scaled). x.shift) e, ap (λ (x : Scaled). x.shift) g, shift_le f m n h)

-- ---- signs
-- the signs differ
apart_is : (F : Format) → Sound F → (s t : ℕ) → IsSign F s → IsSign F t → not (eqb s t) ≡ apart (is_set s) (is_set t)
apart_is F ok s t S T = elim S [
  | clear p ↦ elim T [
    | clear q ↦ simp (eq-eqb s t (omega arith), sign_clear s p, sign_clear t q)
    | set q ↦ simp (ne_eqb s t (λ z. omega (arith, infinity_lt F ok)), sign_clear s p, sign_set F ok t q)
  ]
  | set p ↦ elim T [
    | clear q ↦ simp (ne_eqb s t (λ z. omega (arith, infinity_lt F ok)), sign_set F ok s p, sign_clear t q)
    | set q ↦ simp (eq-eqb s t (omega arith), sign_set F ok s p, sign_set F ok t q)
  ]
]

-- ---- the exact sum of two floats by their sign and m
from_sign : (b : Bool) (s m : ℕ) → m ≤ s → cond b (s - m) (s + m) + cond b m 0 ≡ s + cond b 0 m
from_sign true s m h = omega arith
from_sign false s m h = omega arith

-- the units on either side of zero
pub signed_units : (F : Format) → Sound F → (z : Signed) → z.m ≤ F.infinity
    → (above F.fraction F.exponent (ordinal_at F z) ≡ cond (is_set z.sign) 0 (magnitude F.fraction z.m))
    × (below F.fraction F.exponent (ordinal_at F z) ≡ cond (is_set z.sign) (magnitude F.fraction z.m) 0)
signed_units F ok z h =
    let l : z.m ≤ F.sign = omega (arith, infinity_lt F ok) in
    let b = is_set z.sign in
    signed_value F.fraction F.exponent b (ordinal_at F z) z.m (from_sign b F.sign z.m l ∙ ap (λ (s : ℕ). s + cond b 0 z.m) ok.sign)

-- x is the larger one, so the sum has its sign
exact_first : (F : Format) (x a : Signed) (o : Bool) → Summands FiniteSigned F x a → o ≡ apart (is_set x.sign) (is_set a.sign) → a.m ≤ x.m
    → Exactly F (ordinal_at F x) (ordinal_at F a) (record { sign = x.sign; size = exact_of F.fraction o x.m a.m })
exact_first F x a o ok O h =
    let f = F.fraction in
    let s = is_set x.sign in
    let t = is_set a.sign in
    let p = signed_units F F.sound x (omega (arith, ok.x_finite.m)) in
    let q = signed_units F F.sound a (omega (arith, ok.a_finite.m)) in
    let le = magnitude_le f a.m x.m h in
    let size = size_exact f x.m a.m o h ∙ ap (λ (b : Bool). cond b (magnitude f x.m - magnitude f a.m) (magnitude f x.m + magnitude f a.m)) O in
    let high : x.m ≤ 2 ^ 63 = omega (arith, ok.x_finite.m, F.sound.word, infinity_lt F F.sound) in
    record {
      sign = ok.x_finite.sign;
      amounts = record {
        up = ap (cond s 0) size ∙ signed_up s t (magnitude f x.m) (magnitude f a.m) le ∙ sym (ap₂ ◌-◌ (ap₂ ◌+◌ p.0 q.0) (ap₂ ◌+◌ p.1 q.1));
        down = ap (λ (z : ℕ). cond s z 0) size ∙ signed_down s t (magnitude f x.m) (magnitude f a.m) le ∙ sym (ap₂ ◌-◌ (ap₂ ◌+◌ p.1 q.1) (ap₂ ◌+◌ p.0 q.0));
        shaped = shaped f x.m a.m o h high;
        low = low f x.m a.m o h high;
      };
    }

pub apart_comm : (s t : Bool) → apart s t ≡ apart t s
apart_comm true true = refl
apart_comm true false = refl
apart_comm false true = refl
apart_comm false false = refl

swapped : (F : Format) (x a : ℕ) (t : ExactSum) → Exactly F a x t → Exactly F x a t
swapped F x a t h = let m = h.amounts in record { sign = h.sign; amounts = record { up = m.up ∙ omega arith; down = m.down ∙ omega arith; shaped = m.shaped; low = m.low } }

-- what `exact_sum` makes
module _ (F : Format) (x a : Signed) (t : Exact) (ok : Summands FiniteSigned F x a) where
  -- the signs differ
  abbrev o : Bool
  o = not (eqb x.sign a.sign)

  differ : o ≡ apart (is_set x.sign) (is_set a.sign)
  differ = apart_is F F.sound x.sign a.sign ok.x_finite.sign ok.a_finite.sign

  pub exact_x : a.m ≤ x.m → t ≡ exact_of F.fraction o x.m a.m → Exactly F (ordinal_at F x) (ordinal_at F a) (record { sign = x.sign; size = t })
  exact_x h T = rw T (exact_first F x a o ok differ h)

  pub exact_a : x.m < a.m → t ≡ exact_of F.fraction o a.m x.m → Exactly F (ordinal_at F x) (ordinal_at F a) (record { sign = a.sign; size = t })
  exact_a h T =
      let turned : Summands FiniteSigned F a x = record { x_finite = ok.a_finite; a_finite = ok.x_finite } in
      rw T (swapped F (ordinal_at F x) (ordinal_at F a) _ (exact_first F a x o turned (differ ∙ apart_comm (is_set x.sign) (is_set a.sign)) (omega arith)))
