-- The whole answer of the narrowing of one sum: 01's refusals in their order, then the six ends. Assumes nothing.
use Rattle.std.specs.Prelude.{ℕ, Result, Ok, Err}
use Rattle.ladder.specs.Solution as L
use Rattle.ladder.specs.Narrowing as N
use Rattle.ladder.specs.Narrowing.{Narrowing, none, ends}
use Rattle.arith.specs.declared.format.Format.{Format}
use Rattle.arith.specs.declared.refusal.Reason.{Reason}
use Rattle.arith.specs.declared.refusal.Refusal.{Refusal}
use Rattle.arith.specs.declared.range.Range.{Range}
use Rattle.arith.specs.declared.interval.Interval.{Interval}
use Rattle.arith.specs.declared.narrow.Narrowed.{Narrowed}
use Rattle.arith.specs.Refusals.{refusal, or_refuse}
use Rattle.arith.specs.Formats.{is_known, format_of, pattern}
use Rattle.arith.specs.Intervals.{ends_finite, is_ordered, range_of, span}

-- the narrowing of three ranges
abbrev pub narrowing : Format → Range → Range → Range → Narrowing
narrowing F X A B = N.narrowing F.fraction F.exponent (span X) (span A) (span B)

-- the ends of an interval of ordinals, each in its one pattern
abbrev pub written : Format → L.Interval → Interval
written F I = record { low = pattern F I.low; high = pattern F I.high }

-- the answer where no interval is refused: refusal 11 where there is no triple
abbrev pub narrow_answer : Format → Narrowing → Result Narrowed Refusal
narrow_answer F none = Err (refusal Reason.NoTriple)
narrow_answer F (ends X A B) = Ok (record { x = written F X; a = written F A; b = written F B })

-- three ranges of ordinals: 3 for x, a, b; 11
unfoldable pub narrow_finite : Format → Range → Range → Range → Result Narrowed Refusal
narrow_finite F X A B =
    or_refuse (is_ordered X) Reason.Reversed
    (or_refuse (is_ordered A) Reason.Reversed
    (or_refuse (is_ordered B) Reason.Reversed
    (narrow_answer F (narrowing F X A B))))

-- three intervals in a format: 2 for x low, x high, a low, a high, b low, b high; 3 for x, a, b; 11
unfoldable pub narrow_in : Format → Interval → Interval → Interval → Result Narrowed Refusal
narrow_in F x a b =
    or_refuse (ends_finite F x) Reason.NotFinite
    (or_refuse (ends_finite F a) Reason.NotFinite
    (or_refuse (ends_finite F b) Reason.NotFinite
    (narrow_finite F (range_of F x) (range_of F a) (range_of F b))))

-- one sum: 1; 2 for x low, x high, a low, a high, b low, b high; 3 for x, a, b; 11
unfoldable pub narrow_of : ℕ → Interval → Interval → Interval → Result Narrowed Refusal
narrow_of width x a b = or_refuse (is_known width) Reason.Width (narrow_in (format_of width) x a b)
