-- Fields that hold none of a byte, what stands before and after that byte, and how often it occurs. Rests on Counting and Numerals.
use mathlib.Core.Path.{◌≡◌, refl}
use mathlib.Core.List.{List, [], ◌∷◌, ◌++◌}
use Prim.Native.Nat.{ℕ, zero, suc, ◌+◌, ◌/◌, ◌%◌, ◌<◌}
use native.Mathlib.Omega.{arith}
use borrow.Author.Tests.{eq-eqb, ne_eqb}
use lib.ListN.{length}
use lib.Seq.{take-append_seam, drop-append-add}
use Rattle.reader.specs.Bytes.{index_of, before, after, count_of}
use Rattle.reader.specs.Digits.{digit_byte, digits_of, digit_count, decimal_of, hex_of}
use Rattle.reader.specs.Numbers.{digits_for}
use Rattle.reader.proofs.Counting.{count_more}
use Rattle.reader.proofs.Numerals.{digit_high}

-- no element is b
abbrev pub Free : ℕ → List ℕ → Type 0
Free b [] = Unit {0}
Free b (x ∷ xs) = (x ≡ b → ⊥) × Free b xs

pub free_append : (b : ℕ) (xs ys : List ℕ) → Free b xs → Free b ys → Free b (xs ++ ys)
free_append b [] ys f g = g
free_append b (x ∷ xs) ys f g = (f.0, free_append b xs ys f.1 g)

-- ---- up to the first b
module _ (b : ℕ) where
  pub index_free : (xs ys : List ℕ) → Free b xs → index_of b (xs ++ (b ∷ ys)) ≡ length xs
  unfolding index_of
  index_free [] ys f = rw (eq-eqb b b refl)
  index_free (x ∷ xs) ys f = rw (ne_eqb x b f.0, index_free xs ys f.1) (omega arith)

  pub before_free : (xs ys : List ℕ) → Free b xs → before b (xs ++ (b ∷ ys)) ≡ xs
  unfolding before
  before_free xs ys f = rw (index_free xs ys f) (take-append_seam xs (b ∷ ys))

  pub after_free : (xs ys : List ℕ) → Free b xs → after b (xs ++ (b ∷ ys)) ≡ ys
  unfolding after
  after_free xs ys f = rw (index_free xs ys f) (drop-append-add xs (b ∷ ys) 1)

  pub count_free : (xs ys : List ℕ) → Free b xs → count_of b (xs ++ (b ∷ ys)) ≡ count_of b ys + 1
  count_free [] ys f = rw (count_more b b ys, eq-eqb b b refl) (omega arith)
  count_free (x ∷ xs) ys f = rw (count_more b x (xs ++ (b ∷ ys)), ne_eqb x b f.0, count_free xs ys f.1) (omega arith)

  -- ---- digits
  pub digits_free : (base k n : ℕ) → b < 48 → Free b (digits_of base k n)
  unfolding digits_of
  digits_free base zero n h = tt
  digits_free base (suc k) n h = free_append b (digits_of base k (n / base)) (digit_byte (n % base) ∷ []) (digits_free base k (n / base) h) (λ e. omega (arith, digit_high (n % base)), tt)

  pub decimal_free : (n : ℕ) → b < 48 → Free b (decimal_of n)
  unfolding decimal_of
  decimal_free n h = digits_free 10 (digit_count 19 n) n h

  pub hex_free : (width n : ℕ) → b < 48 → Free b (hex_of width n)
  unfolding hex_of
  hex_free width n h = digits_free 16 (digits_for width) n h
