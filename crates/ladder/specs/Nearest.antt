-- What rounding to nearest even means, with no formula for it: of all candidates none is nearer to the exact sum, and where another is as near, it is the even one. Assumes nothing.
use Rattle.std.specs.Prelude.{◌≡◌, ◌≢◌, ℕ, ◌+◌, ◌-◌, ◌%◌, ◌≤◌}
use Rattle.ladder.specs.Magnitude.{magnitude}
use Rattle.ladder.specs.Ordinal.{above, below, Finite}

-- the distance of two numbers
abbrev pub distance : ℕ → ℕ → ℕ
distance a b = (a - b) + (b - a)

-- r is the candidate with the smallest error; where another has the same error, r is even
pub record NearestEven (Candidate : ℕ → Type 0) (error : ℕ → ℕ) (r : ℕ) : Type 0 where
  pub candidate : Candidate r
  pub nearest : (y : ℕ) → Candidate y → error r ≤ error y
  pub even : (y : ℕ) → Candidate y → y ≢ r → error y ≡ error r → r % 2 ≡ 0

-- ---- as if no exponent were too large
-- every m is a candidate
abbrev pub Any : ℕ → Type 0
Any m = Unit

-- how far the value of m is from n units
abbrev pub size_error : ℕ → ℕ → ℕ → ℕ
size_error f n m = distance (magnitude f m) n

-- m is the nearest to n units of the floats of every exponent; at equal distance the even one. At most one m is (`nearest_size_unique`, proofs/Nearest)
abbrev pub NearestSize : ℕ → ℕ → ℕ → Type 0
NearestSize f n m = NearestEven Any (size_error f n) m

-- ---- of the finite floats
-- how far the ordinal r is from p - n units
unfoldable pub error : ℕ → ℕ → ℕ → ℕ → ℕ → ℕ
error f e p n r = distance (above f e r + n) (p + below f e r)

-- r is the finite float nearest to p - n units; at equal distance the one with even m (r and m have one parity). At most one r is (`nearest_unique`, proofs/Nearest)
abbrev pub Nearest : ℕ → ℕ → ℕ → ℕ → ℕ → Type 0
Nearest f e p n r = NearestEven (Finite f e) (error f e p n) r
