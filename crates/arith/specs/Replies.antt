-- 01's replies that are due: its tests in their order, then the values. The contracts of the public functions say that an answer tells the reply due. Assumes nothing.
use Rattle.std.specs.Prelude.{ℕ, Bool, true, false, cond, List, [], ◌∷◌, ◌++◌}
use Rattle.ladder.specs.Narrowing.{Narrowing, none, ends}
use Rattle.ladder.specs.Pairing as P
use Rattle.ladder.specs.Pairing.{Pairing}
use Rattle.arith.specs.declared.refusal.Reason.{Reason}
use Rattle.arith.specs.declared.refusal.Refusal.{Refusal}
use Rattle.arith.specs.declared.range.Range.{Range}
use Rattle.arith.specs.declared.interval.Interval.{Interval}
use Rattle.arith.specs.Refusals.{refusal}
use Rattle.arith.specs.Formats.{is_known, format_of, is_finite, ordinal, pattern, sum, remainder}
use Rattle.arith.specs.Sums.{is_finite_ordinal, mark_number, mark_of}
use Rattle.arith.specs.Intervals.{ends_finite, range_of, interval_of, is_ordered, common, translated, reflected}
use Rattle.arith.specs.Narrows.{narrowing, written}
use Rattle.arith.specs.Repeats.{Relation}
use Rattle.arith.specs.Answers.{Reply, gives, refuses, two_ends}

-- ---- tests
-- one test: whether it is passed, and its refusal
abbrev pub Test : Type 0
Test = Bool × Refusal

-- the first test in their order that is not passed refuses; where all are passed, the values are given
abbrev pub reply_after : {A : Type 0} → List Test → List A → Reply A
reply_after [] values = gives values
reply_after (test ∷ tests) values = cond test.0 (reply_after tests values) (refuses test.1)

-- 1: the width
abbrev pub known : ℕ → Test
known width = (is_known width, refusal Reason.Width)

-- 2: a pattern
abbrev pub finite : ℕ → ℕ → Test
finite width p = (is_finite (format_of width) p, refusal Reason.NotFinite)

-- 2: low, then high
abbrev pub both_finite : ℕ → Interval → Test
both_finite width I = (ends_finite (format_of width) I, refusal Reason.NotFinite)

-- an interval by the ordinals of its ends
abbrev pub ordinals : ℕ → Interval → Range
ordinals width I = range_of (format_of width) I

-- 3: low not above high
abbrev pub ordered : ℕ → Interval → Test
ordered width I = (is_ordered (ordinals width I), refusal Reason.Reversed)

-- 9: a sum, by its ordinal
abbrev pub finite_sum : ℕ → ℕ → Test
finite_sum width s = (is_finite_ordinal (format_of width) s, refusal Reason.Overflow)

-- 11: a triple
abbrev pub solved : Narrowing → Test
solved none = (false, refusal Reason.NoTriple)
solved (ends X A B) = (true, refusal Reason.NoTriple)

-- 11: a pair
abbrev pub paired : Pairing → Test
paired P.none = (false, refusal Reason.NoTriple)
paired (P.ends X A) = (true, refusal Reason.NoTriple)

-- ---- the forward sum
-- x ⊕ a, by its ordinal
abbrev pub sum_of : ℕ → ℕ → ℕ → ℕ
sum_of width x a = let F = format_of width in sum F (ordinal F x) (ordinal F a)

-- 1; 2 for x, then a; 9
abbrev pub add_tests : ℕ → ℕ → ℕ → List Test
add_tests width x a = known width ∷ finite width x ∷ finite width a ∷ finite_sum width (sum_of width x a) ∷ []

-- its pattern, its mark, and the pattern of what it leaves over
abbrev pub add_values : ℕ → ℕ → ℕ → List ℕ
add_values width x a =
    let F = format_of width in
    let s = sum_of width x a in
    pattern F s ∷ mark_number (mark_of F (ordinal F x) (ordinal F a) s) ∷ pattern F (remainder F (ordinal F x) (ordinal F a) s) ∷ []

-- ---- intervals
-- the ends of a range, each in its one pattern
abbrev pub patterns : ℕ → Range → List ℕ
patterns width R = two_ends (interval_of (format_of width) R)

-- canonical form and mirror: 1; 2 for low, high; 3
abbrev pub own_tests : ℕ → Interval → List Test
own_tests width I = known width ∷ both_finite width I ∷ ordered width I ∷ []

-- the same ends
abbrev pub canonical_values : ℕ → Interval → List ℕ
canonical_values width I = patterns width (ordinals width I)

-- -high and -low
abbrev pub mirror_values : ℕ → Interval → List ℕ
mirror_values width I = patterns width (reflected (format_of width) (ordinals width I))

-- cut: 1; 2 for the own low, high, then the second interval's; 3 for the own, then the second
abbrev pub cut_tests : ℕ → Interval → Interval → List Test
cut_tests width I J = known width ∷ both_finite width I ∷ both_finite width J ∷ ordered width I ∷ ordered width J ∷ []

-- the ends of what is shared; none where nothing is
abbrev pub cut_values : ℕ → Interval → Interval → List ℕ
cut_values width I J = let R = common (ordinals width I) (ordinals width J) in cond (is_ordered R) (patterns width R) []

-- from low ⊕ c to high ⊕ c, by their ordinals
abbrev pub shifted : ℕ → Interval → ℕ → Range
shifted width I c = let F = format_of width in translated F (ordinals width I) (ordinal F c)

-- shift: 1; 2 for the own low, high, then c; 3; 9 for low ⊕ c, then high ⊕ c
abbrev pub shift_tests : ℕ → Interval → ℕ → List Test
shift_tests width I c =
    let R = shifted width I c in
    known width ∷ both_finite width I ∷ finite width c ∷ ordered width I ∷ finite_sum width R.low ∷ finite_sum width R.high ∷ []

-- low ⊕ c and high ⊕ c
abbrev pub shift_values : ℕ → Interval → ℕ → List ℕ
shift_values width I c = patterns width (shifted width I c)

-- ---- one sum
-- 1; 2 for x low, x high, a low, a high, b low, b high; 3 for x, a, b
abbrev pub given_tests : ℕ → Interval → Interval → Interval → List Test
given_tests width x a b =
    known width ∷ both_finite width x ∷ both_finite width a ∷ both_finite width b ∷ ordered width x ∷ ordered width a ∷ ordered width b ∷ []

-- the least and greatest values standing in a triple, by their ordinals
abbrev pub in_triples : ℕ → Interval → Interval → Interval → Narrowing
in_triples width x a b = narrowing (format_of width) (ordinals width x) (ordinals width a) (ordinals width b)

-- the same; 11
abbrev pub narrow_tests : ℕ → Interval → Interval → Interval → List Test
narrow_tests width x a b = given_tests width x a b ++ solved (in_triples width x a b) ∷ []

-- six ends, each in its one pattern
abbrev pub six_patterns : ℕ → Narrowing → List ℕ
six_patterns width none = []
six_patterns width (ends X A B) = let F = format_of width in two_ends (written F X) ++ two_ends (written F A) ++ two_ends (written F B)

-- the least and the greatest x, a and b
abbrev pub narrow_values : ℕ → Interval → Interval → Interval → List ℕ
narrow_values width x a b = six_patterns width (in_triples width x a b)

-- ---- a sum with one float in two places
-- the least and greatest values standing in a pair, by their ordinals
abbrev pub in_pairs : Relation → ℕ → Interval → Interval → Pairing
in_pairs by width i j = by (format_of width) (ordinals width i) (ordinals width j)

-- 1; 2 for the first, low then high, and the second; 3 for the first, the second
abbrev pub given_pair : ℕ → Interval → Interval → List Test
given_pair width i j = known width ∷ both_finite width i ∷ both_finite width j ∷ ordered width i ∷ ordered width j ∷ []

-- the same; 11
abbrev pub pair_tests : Relation → ℕ → Interval → Interval → List Test
pair_tests by width i j = given_pair width i j ++ paired (in_pairs by width i j) ∷ []

-- four ends, each in its one pattern
abbrev pub four_patterns : ℕ → Pairing → List ℕ
four_patterns width P.none = []
four_patterns width (P.ends X A) = let F = format_of width in two_ends (written F X) ++ two_ends (written F A)

-- the least and the greatest of both
abbrev pub pair_values : Relation → ℕ → Interval → Interval → List ℕ
pair_values by width i j = four_patterns width (in_pairs by width i j)

-- the reply due
abbrev pub pair_reply : Relation → ℕ → Interval → Interval → Reply ℕ
pair_reply by width i j = reply_after (pair_tests by width i j) (pair_values by width i j)
