-- What holds of every format's numbers. The struct `Format` carries it. Assumes nothing.
use Rattle.std.specs.Prelude.{◌≡◌, ℕ, ◌^◌, ◌≤◌}
use Rattle.ladder.specs.Ordinal as L

-- the sign bit's weight and infinity's pattern are those of f fraction and e exponent bits, and a pattern fits a word
pub record IsBinary (f e sign_bit infinite : ℕ) : Type 0 where
  pub some : 1 ≤ f
  pub few : f ≤ 52
  pub sign : sign_bit ≡ L.sign f e
  pub infinity : infinite ≡ L.infinity f e
  pub word : sign_bit ≤ 2 ^ 63
