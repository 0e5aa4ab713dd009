-- The narrowing of one sum at width 64 with its result as floats: for each interval one float where both ends agree, two otherwise, or the word that there is none. Assumes nothing.
use Rattle.std.specs.Prelude.{cond, List, [], ◌∷◌, ℕ, eqb, Result, Ok, Err}
use Rattle.std.specs.Float.{binary64}
use Rattle.std.specs.Float.Ieee.{of_bits, to_bits}
use Rattle.ladder.specs.Narrowing.{Narrowing, none, ends}
use Rattle.arith.specs.declared.interval.Interval.{Interval}
use Rattle.arith.specs.declared.narrow.Narrowed.{Narrowed}
use Rattle.arith.specs.declared.refusal.Refusal.{Refusal}
use Rattle.arith.specs.Refusals.{number}
use Rattle.arith.specs.Formats.{format_of}
use Rattle.arith.specs.Narrows.{written, narrow_of}
use Rattle.arith.specs.Answers.{Reply, told, two_ends}
use Rattle.arith.specs.Replies.{in_triples}
use Rattle.tazsmibor.specs.declared.floats.Floats.{Floats}
use Rattle.tazsmibor.specs.declared.floats.Floats.TheVariants.{Point, Span, None}
use Rattle.tazsmibor.specs.declared.floats.FloatEnds.{FloatEnds}

-- ---- the answer
-- an interval of patterns as floats, each by its pattern
unfoldable pub floats_of : Interval → Floats
floats_of I = cond (eqb I.low I.high) (Point (of_bits binary64 I.low)) (Span (of_bits binary64 I.low) (of_bits binary64 I.high))

-- three intervals of patterns as floats
abbrev pub float_ends : Narrowed → FloatEnds
float_ends n = record { x = floats_of n.x; a = floats_of n.a; b = floats_of n.b }

-- none for all three
abbrev pub no_floats : FloatEnds
no_floats = record { x = None; a = None; b = None }

-- the answer as floats: none for all three in place of refusal 11, and every other refusal as it is
abbrev pub float_answer : Result Narrowed Refusal → Result FloatEnds Refusal
float_answer (Ok n) = Ok (float_ends n)
float_answer (Err r) = cond (eqb (number r.reason) 11) (Ok no_floats) (Err r)

-- one sum at width 64: 2 for x, a, b; 3 for x, a, b; then the floats
unfoldable pub narrow_floats_of : Interval → Interval → Interval → Result FloatEnds Refusal
narrow_floats_of x a b = float_answer (narrow_of 64 x a b)

-- ---- what each case tells
-- an interval as floats: the patterns of one float, of two, or of none
abbrev pub float_patterns : Floats → List ℕ
float_patterns (Point v) = to_bits binary64 v ∷ []
float_patterns (Span v w) = to_bits binary64 v ∷ to_bits binary64 w ∷ []
float_patterns None = []

-- three intervals: those of x, of a and of b
abbrev pub three_patterns : FloatEnds → List (List ℕ)
three_patterns f = float_patterns f.x ∷ float_patterns f.a ∷ float_patterns f.b ∷ []

-- the answer
abbrev pub floats_told : Result FloatEnds Refusal → Reply (List ℕ)
floats_told = told three_patterns

-- ---- the values due, after 01's tests (arith specs/Replies)
-- an interval's ends: one pattern where both agree, two otherwise
abbrev pub one_or_two : Interval → List ℕ
one_or_two I = cond (eqb I.low I.high) (I.low ∷ []) (two_ends I)

-- for x, a and b; none for all three in place of 11
abbrev pub three_floats : Narrowing → List (List ℕ)
three_floats none = [] ∷ [] ∷ [] ∷ []
three_floats (ends X A B) = let F = format_of 64 in one_or_two (written F X) ∷ one_or_two (written F A) ∷ one_or_two (written F B) ∷ []

-- the least and the greatest x, a and b
abbrev pub float_values : Interval → Interval → Interval → List (List ℕ)
float_values x a b = three_floats (in_triples 64 x a b)
