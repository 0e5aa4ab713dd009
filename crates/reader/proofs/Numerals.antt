-- What is written as digits is read as the number: a digit, digits of a base, a pattern, a numeral. Rests on specs/Digits and specs/Numbers.
use mathlib.Core.Path.{◌≡◌, refl, ap, ◌∙◌}
use mathlib.Core.Logic.{inl, inr}
use mathlib.Core.List.{List, [], ◌∷◌, ◌++◌}
use Prim.Native.Nat.{ℕ, zero, suc, ◌+◌, ◌*◌, ◌/◌, ◌%◌, ◌^◌, ◌≤◌, ◌<◌}
use native.Mathlib.Nat.{pow-zero, pow-suc, mod-lt, div-lt_iff_lt-mul, div-add-mod'}
use native.Mathlib.Omega.{arith}
use mathlib.Core.Bool.{cond}
use lib.Dec.{ltb}
use borrow.Author.Tests.{eq-eqb, ne_eqb, lt-ltb, le-ltb}
use lib.ListN.{length, get_or, length-append}
use Rattle.ladder.proofs.Cases.{le_or_lt}
use Rattle.reader.specs.Numbers.{digit_of, value_from, numeral_of, pattern_of, digits_for}
use Rattle.reader.specs.Digits.{digit_byte, digits_of, digit_count, decimal_of, hex_of}
use Rattle.std.specs.Prelude.{Option, Some, None}
use Rattle.std.specs.Option.{option_and_then}

-- ---- digits
digit_back : (d : ℕ) → d < 16 → digit_of (digit_byte d) ≡ Some d
unfolding digit_of digit_byte
digit_back d h = elim (le_or_lt 10 d) [
  | inl a ↦ rw (le-ltb d 10 a, le-ltb (55 + d) 48 (omega arith), le-ltb (55 + d) 58 (omega arith), le-ltb (55 + d) 65 (omega arith), lt-ltb (55 + d) 71 (omega arith)) (ap Some (omega arith))
  | inr b ↦ rw (lt-ltb d 10 b, le-ltb (48 + d) 48 (omega arith), lt-ltb (48 + d) 58 (omega arith)) (ap Some (omega arith))
]

-- no digit's byte is below 48, and 48 is that of 0 alone
pub digit_high : (d : ℕ) → 48 ≤ digit_byte d
unfolding digit_byte
digit_high d = elim (le_or_lt 10 d) [ inl a ↦ rw (le-ltb d 10 a) (omega arith) | inr b ↦ rw (lt-ltb d 10 b) (omega arith) ]

digit_zero : (d : ℕ) → 0 < d → digit_byte d ≡ 48 → ⊥
unfolding digit_byte
digit_zero d p = elim (le_or_lt 10 d) [
  | inl a ↦ rw (le-ltb d 10 a) (λ e. omega arith)
  | inr b ↦ rw (lt-ltb d 10 b) (λ e. omega arith)
]

pub digits_length : (base k n : ℕ) → length (digits_of base k n) ≡ k
unfolding digits_of
digits_length base zero n = refl
digits_length base (suc k) n = simp (length-append, digits_length base k (n / base)) (omega arith)

-- one digit more
digit_then : (base w d v : ℕ) (xs ys : List ℕ) → ((c : ℕ) → value_from base (v * base + c) xs ≡ Some w → value_from base (v * base + c) ys ≡ Some (w * base + d)) → (o : Option ℕ) →
    option_and_then (λ c. cond (ltb c base) (value_from base (v * base + c) xs) None) o ≡ Some w → option_and_then (λ c. cond (ltb c base) (value_from base (v * base + c) ys) None) o ≡ Some (w * base + d)
digit_then base w d v xs ys more None e = cc
digit_then base w d v xs ys more (Some c) e = elim (le_or_lt base c) [
  | inl a ↦ cc (rw (le-ltb c base a) at e)
  | inr b ↦ rw (lt-ltb c base b) (more c (rw (lt-ltb c base b) at e))
]

value_more : (base v w d : ℕ) (xs : List ℕ) → value_from base v xs ≡ Some w → d < base → base ≤ 16 → value_from base v (xs ++ (digit_byte d ∷ [])) ≡ Some (w * base + d)
unfolding value_from
value_more base v w d [] e h k =
    let f : v ≡ w = cc in
    rw (digit_back d (omega arith), lt-ltb d base h, f)
value_more base v w d (x ∷ xs) e h k = digit_then base w d v xs (xs ++ (digit_byte d ∷ [])) (λ c f. value_more base (v * base + c) w d xs f h k) (digit_of x) e

-- digits enough to hold the number
value_back : (base k n : ℕ) → 0 < base → base ≤ 16 → n < base ^ k → value_from base 0 (digits_of base k n) ≡ Some n
unfolding value_from digits_of
value_back base zero n p q h = ap Some (let e = pow-zero base in omega arith)
value_back base (suc k) n p q h =
    value_more base 0 (n / base) (n % base) (digits_of base k (n / base)) (value_back base k (n / base) p q ((div-lt_iff_lt-mul p).1 (rw (pow-suc base k) at h))) (mod-lt n p) q
    ∙ ap Some (div-add-mod' n base)

-- ---- a pattern
pub pattern_back : (width n : ℕ) → n < 16 ^ digits_for width → pattern_of width (hex_of width n) ≡ Some n
unfolding pattern_of hex_of
pattern_back width n h = rw (eq-eqb (length (digits_of 16 (digits_for width) n)) (digits_for width) (digits_length 16 (digits_for width) n)) (value_back 16 (digits_for width) n (omega arith) (omega arith) h)

-- ---- a numeral
numeral_one : (n : ℕ) → n < 10 → numeral_of (digits_of 10 1 n) ≡ Some n
unfolding numeral_of
numeral_one n h = rw (eq-eqb (length (digits_of 10 1 n)) 1 (digits_length 10 1 n)) (value_back 10 1 n (omega arith) (omega arith) (omega arith))

numeral_more : (k n : ℕ) → 2 ≤ k → k ≤ 5 → n < 10 ^ k → (get_or (digits_of 10 k n) 0 0 ≡ 48 → ⊥) → numeral_of (digits_of 10 k n) ≡ Some n
unfolding numeral_of
numeral_more k n a b h z =
    let e = digits_length 10 k n in
    rw (ne_eqb (length (digits_of 10 k n)) 1 (λ f. omega arith), le-ltb (length (digits_of 10 k n)) 2 (omega arith), le-ltb 5 (length (digits_of 10 k n)) (omega arith), ne_eqb (get_or (digits_of 10 k n) 0 0) 48 z)
    (value_back 10 k n (omega arith) (omega arith) h)

-- a number of at most 5 digits, by how many it has
record Short (n : ℕ) : Type 0 where
  size : ℕ
  is : digit_count 19 n ≡ size
  few : size ≤ 5
  reads : numeral_of (digits_of 10 size n) ≡ Some n

short : (n : ℕ) → n < 100000 → Short n
unfolding digit_count digits_of
short n h = elim (le_or_lt 10 n) [
  | inr a ↦ record { size = 1; is = rw (lt-ltb n 10 a); few = omega arith; reads = numeral_one n a }
  | inl a ↦ elim (le_or_lt 10 (n / 10)) [
    | inr b ↦ record { size = 2; is = rw (le-ltb n 10 a, lt-ltb (n / 10) 10 b); few = omega arith; reads = numeral_more 2 n (omega arith) (omega arith) (omega arith) (digit_zero (n / 10 % 10) (omega arith)) }
    | inl b ↦ elim (le_or_lt 10 (n / 10 / 10)) [
      | inr d ↦ record { size = 3; is = rw (le-ltb n 10 a, le-ltb (n / 10) 10 b, lt-ltb (n / 10 / 10) 10 d); few = omega arith; reads = numeral_more 3 n (omega arith) (omega arith) (omega arith) (digit_zero (n / 10 / 10 % 10) (omega arith)) }
      | inl d ↦ elim (le_or_lt 10 (n / 10 / 10 / 10)) [
        | inr e ↦ record { size = 4; is = rw (le-ltb n 10 a, le-ltb (n / 10) 10 b, le-ltb (n / 10 / 10) 10 d, lt-ltb (n / 10 / 10 / 10) 10 e); few = omega arith; reads = numeral_more 4 n (omega arith) (omega arith) (omega arith) (digit_zero (n / 10 / 10 / 10 % 10) (omega arith)) }
        | inl e ↦ record { size = 5; is = rw (le-ltb n 10 a, le-ltb (n / 10) 10 b, le-ltb (n / 10 / 10) 10 d, le-ltb (n / 10 / 10 / 10) 10 e, lt-ltb (n / 10 / 10 / 10 / 10) 10 (omega arith)); few = omega arith; reads = numeral_more 5 n (omega arith) (omega arith) (omega arith) (digit_zero (n / 10 / 10 / 10 / 10 % 10) (omega arith)) }
      ]
    ]
  ]
]

pub numeral_back : (n : ℕ) → n < 100000 → numeral_of (decimal_of n) ≡ Some n
unfolding decimal_of
numeral_back n h = let s = short n h in rw s.is s.reads

pub decimal_short : (n : ℕ) → n < 100000 → length (decimal_of n) ≤ 5
unfolding decimal_of
decimal_short n h = let s = short n h in omega (arith, digits_length 10 (digit_count 19 n) n)
