-- 01's intervals of patterns, and the whole answers of their cut, shift and mirror, refusals in their order. Assumes nothing.
use Rattle.std.specs.Prelude.{◌≡◌, ℕ, min, max, Bool, true, cond, ◌&&◌, nat_le, Option, Some, None, Result, Ok}
use Rattle.ladder.specs.Solution as L
use Rattle.arith.specs.declared.format.Format.{Format}
use Rattle.arith.specs.declared.refusal.Reason.{Reason}
use Rattle.arith.specs.declared.refusal.Refusal.{Refusal}
use Rattle.arith.specs.declared.range.Range.{Range}
use Rattle.arith.specs.declared.interval.Interval.{Interval}
use Rattle.arith.specs.Refusals.{or_refuse}
use Rattle.arith.specs.Formats.{is_known, format_of, is_finite, ordinal, pattern, negated, sum, mirrored}
use Rattle.arith.specs.Sums.{is_finite_ordinal}

-- refusal 2 for low, then high
unfoldable pub ends_finite : Format → Interval → Bool
ends_finite F I = is_finite F I.low && is_finite F I.high

-- the ends of an interval by their ordinals
abbrev pub range_of : Format → Interval → Range
range_of F I = record { low = ordinal F I.low; high = ordinal F I.high }

-- and back, each end in its one pattern
abbrev pub interval_of : Format → Range → Interval
interval_of F R = record { low = pattern F R.low; high = pattern F R.high }

-- a range of ordinals as ladder's interval
abbrev pub span : Range → L.Interval
span R = record { low = R.low; high = R.high }

-- both ends are finite
abbrev pub Bounded : Format → Range → Type 0
Bounded F R = L.Bounded F.fraction F.exponent (span R)

-- refusal 3 is for low above high
unfoldable pub is_ordered : Range → Bool
is_ordered R = nat_le R.low R.high

-- 01's interval: none of refusals 1 to 3 applies to it
pub record Valid (width : ℕ) (I : Interval) : Type 0 where
  pub known : is_known width ≡ true
  pub finite : ends_finite (format_of width) I ≡ true
  pub ordered : is_ordered (range_of (format_of width) I) ≡ true

-- what two ranges share
abbrev pub common : Range → Range → Range
common R S = record { low = max R.low S.low; high = min R.high S.high }

-- the shared interval, or the word that nothing is shared
unfoldable pub shared_in : Format → Range → Option Interval
shared_in F R = cond (is_ordered R) (Some (interval_of F R)) None

-- from low ⊕ c to high ⊕ c, on ordinals
abbrev pub translated : Format → Range → ℕ → Range
translated F R c = record { low = sum F R.low c; high = sum F R.high c }

-- from -high to -low, on ordinals
abbrev pub reflected : Format → Range → Range
reflected F R = record { low = mirrored F R.high; high = mirrored F R.low }

-- from -high to -low, on patterns
abbrev pub mirrored_ends : Format → Interval → Interval
mirrored_ends F I = record { low = negated F I.high; high = negated F I.low }

-- ---- the answers in a format
-- canonical: 2 for low, high; 3
unfoldable pub canonical_in : Format → Interval → Result Interval Refusal
canonical_in F I =
    or_refuse (ends_finite F I) Reason.NotFinite
    (or_refuse (is_ordered (range_of F I)) Reason.Reversed
    (Ok (interval_of F (range_of F I))))

-- cut: 2 for the own low, high, then the second interval's; 3 for the own, then the second
unfoldable pub cut_in : Format → Interval → Interval → Result (Option Interval) Refusal
cut_in F I J =
    or_refuse (ends_finite F I) Reason.NotFinite
    (or_refuse (ends_finite F J) Reason.NotFinite
    (or_refuse (is_ordered (range_of F I)) Reason.Reversed
    (or_refuse (is_ordered (range_of F J)) Reason.Reversed
    (Ok (shared_in F (common (range_of F I) (range_of F J)))))))

-- an interval moved, or refusal 9 if an end has no finite sum
unfoldable pub moved_in : Format → Range → Result Interval Refusal
moved_in F R =
    or_refuse (is_finite_ordinal F R.low) Reason.Overflow
    (or_refuse (is_finite_ordinal F R.high) Reason.Overflow
    (Ok (interval_of F R)))

-- shift: 2 for the own low, high, then c; 3; 9
unfoldable pub shift_in : Format → Interval → ℕ → Result Interval Refusal
shift_in F I c =
    or_refuse (ends_finite F I) Reason.NotFinite
    (or_refuse (is_finite F c) Reason.NotFinite
    (or_refuse (is_ordered (range_of F I)) Reason.Reversed
    (moved_in F (translated F (range_of F I) (ordinal F c)))))

-- mirror: 2 for low, high; 3
unfoldable pub mirror_in : Format → Interval → Result Interval Refusal
mirror_in F I =
    or_refuse (ends_finite F I) Reason.NotFinite
    (or_refuse (is_ordered (range_of F I)) Reason.Reversed
    (Ok (interval_of F (reflected F (range_of F I)))))

-- ---- the whole answers of the methods
-- canonical: 1; 2 for low, high; 3
unfoldable pub canonical_of : ℕ → Interval → Result Interval Refusal
canonical_of width I = or_refuse (is_known width) Reason.Width (canonical_in (format_of width) I)

-- cut: 1; 2 for the own low, high, then the second interval's; 3 for the own, then the second
unfoldable pub cut_of : ℕ → Interval → Interval → Result (Option Interval) Refusal
cut_of width I J = or_refuse (is_known width) Reason.Width (cut_in (format_of width) I J)

-- shift: 1; 2 for the own low, high, then c; 3; 9
unfoldable pub shift_of : ℕ → Interval → ℕ → Result Interval Refusal
shift_of width I c = or_refuse (is_known width) Reason.Width (shift_in (format_of width) I c)

-- mirror: 1; 2 for low, high; 3
unfoldable pub mirror_of : ℕ → Interval → Result Interval Refusal
mirror_of width I = or_refuse (is_known width) Reason.Width (mirror_in (format_of width) I)
