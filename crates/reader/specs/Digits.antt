-- Numbers written as digits: 01's decimal numbers and hexadecimal patterns. Assumes nothing.
use Rattle.std.specs.Prelude.{ℕ, zero, suc, ◌+◌, ◌/◌, ◌%◌, cond, List, [], ◌∷◌, ◌++◌, ltb}
use Rattle.reader.specs.Numbers.{digits_for}

-- the byte of a digit: 0 to 9, A to F
unfoldable pub digit_byte : ℕ → ℕ
digit_byte d = cond (ltb d 10) (48 + d) (55 + d)

-- the last k digits of n in a base, the highest first
unfoldable pub digits_of : ℕ → ℕ → ℕ → List ℕ
digits_of base zero n = []
digits_of base (suc k) n = digits_of base k (n / base) ++ (digit_byte (n % base) ∷ [])

-- how many decimal digits n has, at most k + 1
unfoldable pub digit_count : ℕ → ℕ → ℕ
digit_count zero n = 1
digit_count (suc k) n = cond (ltb n 10) 1 (suc (digit_count k (n / 10)))

-- a number in decimal, without leading zeros; a word has at most 20 digits
unfoldable pub decimal_of : ℕ → List ℕ
decimal_of n = digits_of 10 (digit_count 19 n) n

-- a pattern in hexadecimal, as many digits as the width asks
unfoldable pub hex_of : ℕ → ℕ → List ℕ
hex_of width n = digits_of 16 (digits_for width) n
