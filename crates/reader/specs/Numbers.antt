-- 01's numerals and patterns as bytes: numbers, or none where the bytes are malformed. Assumes nothing.
use Rattle.std.specs.Prelude.{ℕ, ◌+◌, ◌-◌, ◌*◌, cond, List, [], ◌∷◌, length, get_or, eqb, ltb, Option, Some, None}
use Rattle.std.specs.Option.{option_and_then}

-- the value of a digit, 0 to 9 and A to F
unfoldable pub digit_of : ℕ → Option ℕ
digit_of b = cond (ltb b 48) None (cond (ltb b 58) (Some (b - 48)) (cond (ltb b 65) None (cond (ltb b 71) (Some (b - 55)) None)))

-- digits of a base, read on from the value v of those before them
unfoldable pub value_from : ℕ → ℕ → List ℕ → Option ℕ
value_from base v [] = Some v
value_from base v (b ∷ bs) = option_and_then (λ d. cond (ltb d base) (value_from base (v * base + d) bs) None) (digit_of b)

-- 01's numeral: decimal, 1 to 5 digits, no leading zero but `0` itself
unfoldable pub numeral_of : List ℕ → Option ℕ
numeral_of f =
    cond (eqb (length f) 1) (value_from 10 0 f)
    (cond (ltb (length f) 2) None
    (cond (ltb 5 (length f)) None
    (cond (eqb (get_or f 0 0) 48) None (value_from 10 0 f))))

-- the digits of a pattern by width: 8 for 32, 16 for any other
unfoldable pub digits_for : ℕ → ℕ
digits_for width = cond (eqb width 32) 8 16

-- 01's pattern: hexadecimal capitals, as many as the width asks
unfoldable pub pattern_of : ℕ → List ℕ → Option ℕ
pattern_of width f = cond (eqb (length f) (digits_for width)) (value_from 16 0 f) None
