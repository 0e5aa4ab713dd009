-- 02's sums with one float in two places, x ⊕ x = b and x ⊕ a = x: the narrowing of the two floats' ranges, and the whole answer, refusals in their order, then the four ends. Assumes nothing.
use Rattle.std.specs.Prelude.{ℕ, Result, Ok, Err}
use Rattle.ladder.specs.Pairing as P
use Rattle.ladder.specs.Pairing.{Pairing, none, ends}
use Rattle.arith.specs.declared.format.Format.{Format}
use Rattle.arith.specs.declared.refusal.Reason.{Reason}
use Rattle.arith.specs.declared.refusal.Refusal.{Refusal}
use Rattle.arith.specs.declared.range.Range.{Range}
use Rattle.arith.specs.declared.interval.Interval.{Interval}
use Rattle.arith.specs.declared.repeated.Paired.{Paired}
use Rattle.arith.specs.Refusals.{refusal, or_refuse}
use Rattle.arith.specs.Formats.{is_known, format_of}
use Rattle.arith.specs.Intervals.{ends_finite, is_ordered, range_of, span}
use Rattle.arith.specs.Narrows.{written}

-- ---- the relations
-- what narrows two ranges in a format
abbrev pub Relation : Type 0
Relation = Format → Range → Range → Pairing

-- x ⊕ x = b
abbrev pub doubling : Relation
doubling F X B = P.pairing (P.doubles F.fraction F.exponent) (span X) (span B)

-- x ⊕ a = x
abbrev pub absorbing : Relation
absorbing F X A = P.pairing (P.absorbs F.fraction F.exponent) (span X) (span A)

-- ---- the whole answer
-- where no interval is refused: refusal 11 where no two values are left
abbrev pub pair_answer : Format → Pairing → Result Paired Refusal
pair_answer F none = Err (refusal Reason.NoTriple)
pair_answer F (ends P Q) = Ok (record { p = written F P; q = written F Q })

-- two intervals in a format: 2 for the first, low then high, and the second; 3 for the first, the second; 11
unfoldable pub pair_in : Relation → Format → Interval → Interval → Result Paired Refusal
pair_in by F i j =
    or_refuse (ends_finite F i) Reason.NotFinite
    (or_refuse (ends_finite F j) Reason.NotFinite
    (or_refuse (is_ordered (range_of F i)) Reason.Reversed
    (or_refuse (is_ordered (range_of F j)) Reason.Reversed
    (pair_answer F (by F (range_of F i) (range_of F j))))))

-- 1, then the same
unfoldable pub pair_of : Relation → ℕ → Interval → Interval → Result Paired Refusal
pair_of by width i j = or_refuse (is_known width) Reason.Width (pair_in by (format_of width) i j)
