-- One digit more of a number, the highest first. Rests on specs/Digits of `reader`.
use mathlib.Core.Path.{◌≡◌, refl}
use mathlib.Core.List.{List, [], ◌∷◌, ◌++◌, append_assoc}
use Prim.Native.Nat.{ℕ, zero, suc, ◌-◌, ◌/◌, ◌%◌, ◌≤◌, ◌<◌}
use native.Mathlib.Numerals.{add-one}
use native.Mathlib.Omega.{arith}
use lib.ListN.{length, set, drop}
use Rattle.std.proofs.lemmas.List.{drop-set}
use Rattle.reader.specs.Digits.{digit_byte, digits_of}

digit_filled : (base k m : ℕ) (b : List ℕ) → k < length b → digits_of base k (m / base) ++ drop k (set b k (digit_byte (m % base))) ≡ digits_of base (suc k) m ++ drop (suc k) b
unfolding digits_of
digit_filled base k m b h = rw (drop-set b k (digit_byte (m % base)) h, add-one k, append_assoc (digits_of base k (m / base)) (digit_byte (m % base) ∷ []) (drop (suc k) b)) refl

-- the digit before place j
pub one_filled : (base j m d : ℕ) (b : List ℕ) → 0 < j → j ≤ length b → d ≡ digit_byte (m % base) → digits_of base (j - 1) (m / base) ++ drop (j - 1) (set b (j - 1) d) ≡ digits_of base j m ++ drop j b
one_filled base zero m d b p h e = absurd (omega arith)
one_filled base (suc k) m d b p h e =
    let f : suc k - 1 ≡ k = omega arith in
    rw (f, e) (digit_filled base k m b (omega arith))

-- none is left
pub none_left : (base j m : ℕ) (b : List ℕ) → j ≤ 0 → digits_of base j m ++ drop j b ≡ b
unfolding digits_of
none_left base zero m b h = refl
none_left base (suc k) m b h = absurd (omega arith)
