-- Intervals of a box in patterns: their mirror and their cut are those of the ordinals. Assumes nothing.
use Rattle.std.specs.Prelude.{Ok}
use mathlib.Core.Path.{◌≡◌, ap, ap₂, ◌∙◌}
use mathlib.Core.Bool.{true}
use Prim.Native.Nat.{ℕ}
use native.Mathlib.Omega.{arith}
use Rattle.ladder.specs.Solution as L
use Rattle.ladder.specs.Search.{reflection}
use Rattle.ladder.proofs.Solutions.{mirror_bounded}
use Rattle.arith.specs.Formats.{is_known, format_of}
use Rattle.arith.specs.Intervals.{Valid, mirrored_ends, cut_of}
use Rattle.arith.proofs.Valid.{mirrored_written, written_span, written_valid, shared, cut_answer, valid_cut}
use Rattle.sheet.specs.Cells.{fraction_of, exponent_of, patterns_of}
use Rattle.sheet.specs.Boxes.{Proper}
use Rattle.propagation.proofs.Places.{bounded}

-- the mirror of a proper interval is one
pub mirror_proper : (f e : ℕ) (I : L.Interval) → Proper f e I → Proper f e (reflection f e I)
mirror_proper f e I p = let b = mirror_bounded f e I (bounded p) in record { low = b.low; high = b.high; order = omega (arith, p.order) }

module _ (width : ℕ) (known : is_known width ≡ true) where
  abbrev f : ℕ
  f = fraction_of width

  abbrev e : ℕ
  e = exponent_of width

  written_proper : (I : L.Interval) → Proper f e I → Valid width (patterns_of width I)
  written_proper I p = written_valid width I (bounded p) known p.order

  pub mirror_written : (I : L.Interval) → Proper f e I → mirrored_ends (format_of width) (patterns_of width I) ≡ patterns_of width (reflection f e I)
  mirror_written I p =
      mirrored_written width (patterns_of width I) (written_proper I p)
      ∙ ap (λ (K : L.Interval). patterns_of width (reflection f e K)) (written_span width I (bounded p))

  pub cut_written : (I J : L.Interval) → Proper f e I → Proper f e J → cut_of width (patterns_of width I) (patterns_of width J) ≡ Ok (cut_answer width (shared I J))
  cut_written I J p q =
      valid_cut width (patterns_of width I) (patterns_of width J) (written_proper I p) (written_proper J q)
      ∙ ap₂ (λ (K M : L.Interval). Ok (cut_answer width (shared K M))) (written_span width I (bounded p)) (written_span width J (bounded q))
