-- The size of an exact sum in words of the machine, and its rounding: what the steps of the forward sum (Steps) and the functions below them make. For contracts inside the crate; no public one cites it. Assumes nothing.
use Rattle.std.specs.Prelude.{◌≡◌, ℕ, ◌+◌, ◌-◌, ◌*◌, ◌%◌, ◌^◌, ◌<◌, ◌≤◌, Bool, true, cond, ◌⊎◌, ◌==◌}
use Rattle.std.specs.Float.Ieee.Nearest.{closest}
use Rattle.ladder.specs.Magnitude.{magnitude, shift, significand}
use Rattle.ladder.specs.Rounding.{round}
use Rattle.arith.specs.declared.sum.Exact.{Exact}
use Rattle.arith.specs.declared.sum.Scaled.{Scaled}
use Rattle.arith.specs.declared.sum.Rounded.{Rounded}
use Rattle.arith.specs.declared.sum.Rounding.{Rounding}

-- ---- sizes of words
-- the numbers of fraction bits that the arithmetic takes
abbrev pub Fraction : ℕ → Type 0
Fraction f = (1 ≤ f) × (f ≤ 52)

-- and how many digits beside the first a significand may have
abbrev pub Digits : ℕ → Type 0
Digits d = (1 ≤ d) × (d ≤ 53)

-- ---- the exact sum
-- the value of m taken apart
abbrev pub parts_of : ℕ → ℕ → Scaled
parts_of f m = record { significand = significand f m; shift = shift f m }

-- the size of the sum of two floats by their m and n, of which m is no smaller; opposite says that the signs differ
abbrev pub exact_of : ℕ → Bool → ℕ → ℕ → Exact
exact_of f opposite m n =
    record {
      opposite = opposite;
      larger = significand f m;
      smaller = significand f n;
      gap = shift f m - shift f n;
      shift = shift f n;
    }

-- the size of an exact sum, in steps of 2^shift units
unfoldable pub steps_of : Exact → ℕ
steps_of t = cond t.opposite (t.larger * 2 ^ t.gap - t.smaller) (t.larger * 2 ^ t.gap + t.smaller)

-- and in units
unfoldable pub size_of : Exact → ℕ
size_of t = steps_of t * 2 ^ t.shift

-- s in the steps of t, than which it is no finer
abbrev pub coarse_steps : Exact → Scaled → ℕ
coarse_steps t s = s.significand * 2 ^ (s.shift - t.shift)

-- what rounding relies on: both significands have at most d + 1 digits; where there is a gap, the larger has all of them; the smaller part is no larger than the larger one; the exponent fits a word
pub record Shaped (d : ℕ) (t : Exact) : Type 0 where
  pub larger : t.larger < 2 * 2 ^ d
  pub smaller : t.smaller < 2 * 2 ^ d
  pub leading : (t.gap ≡ 0) ⊎ (2 ^ d ≤ t.larger)
  pub order : t.smaller ≤ t.larger * 2 ^ t.gap
  pub height : t.gap + t.shift ≤ 2 ^ 63

-- the exponent, over f fraction bits, fits a word
abbrev pub Low : ℕ → Exact → Type 0
Low f t = (t.gap + t.shift) * 2 ^ f ≤ 2 ^ 63

-- t is an exact sum that can be rounded to f fraction bits
pub record Roundable (f : ℕ) (t : Exact) : Type 0 where
  pub fraction : Fraction f
  pub shaped : Shaped f t
  pub low : Low f t

-- t is the size of p - n units, which lie below zero where negative says so, and rounding can take it
pub record Amounts (f d p n : ℕ) (negative : Bool) (t : Exact) : Type 0 where
  pub up : cond negative 0 (size_of t) ≡ p - n
  pub down : cond negative (size_of t) 0 ≡ n - p
  pub shaped : Shaped d t
  pub low : Low f t

-- ---- rounding
-- n units rounded to the nearest m, and whether nothing was lost
unfoldable pub rounding_of : ℕ → ℕ → Rounded
rounding_of f n = record { m = round f n; exact = (magnitude f (round f n) == n) }

-- a number of f + 1 + excess digits rounded to f + 1, and the result taken apart: n has its digits from the top of a word on
abbrev pub leading_of : ℕ → ℕ → ℕ → Rounding
leading_of f n excess =
    let kept = closest n (2 ^ (63 - f)) in
    record {
      result = record { m = excess * 2 ^ f + kept; exact = (n % 2 ^ (63 - f) == 0) };
      kept = record { significand = kept; shift = excess };
    }

-- m itself, of which every digit is kept
abbrev pub kept_of : ℕ → Rounding
kept_of m = record { result = record { m = m; exact = true }; kept = record { significand = m; shift = 0 } }

-- larger and smaller, added, or taken away where the signs are opposite
abbrev pub joined_of : Bool → ℕ → ℕ → ℕ → Scaled
joined_of opposite larger smaller shift = record { significand = cond opposite (larger - smaller) (larger + smaller); shift = shift }

-- n and m are the same, or agree in more than d + 1 digits and below these both have something: no rounding to d + 1 digits tells them apart
pub data Alike (d n m : ℕ) : Type 0 where
  same : n ≡ m → Alike d n m
  sticky : (j a b c : ℕ) → 2 * 2 ^ d ≤ a → 0 < b → b < 2 ^ j → 0 < c → c < 2 ^ j → n ≡ a * 2 ^ j + b → m ≡ a * 2 ^ j + c → Alike d n m

-- s rounds as the exact sum t does, and its shift is no smaller than t's and no larger than t's exponent
pub record Scales (d : ℕ) (t : Exact) (s : Scaled) : Type 0 where
  pub alike : Alike d (s.significand * 2 ^ s.shift) (size_of t)
  pub fine : t.shift ≤ s.shift
  pub low : s.shift ≤ t.gap + t.shift

-- ---- back from units to an m
-- n * 2^shift units are the value of an m, which fits a word
pub record Encodable (f n shift : ℕ) : Type 0 where
  pub fraction : Fraction f
  pub some : 0 < n
  pub few : n < 2 * 2 ^ f
  pub low : shift * 2 ^ f ≤ 2 ^ 63
