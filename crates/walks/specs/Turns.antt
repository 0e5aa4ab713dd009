-- The turns of a loop. Assumes nothing.
use Rattle.std.specs.Prelude.{◌≡◌, ℕ, ◌+◌}

-- of n turns i are made and t are left
abbrev pub Counts : ℕ → ℕ → ℕ → Type 0
Counts n t i = i + t ≡ n
