-- The narrowing of two intervals by a test on two values: for the first and for the second the least and greatest value that passes with one of the other. First as a search through the intervals, then by what holds of it.
-- That the two agree is a law of proofs/. The tests of 02's sums with one float in two places stand at the end: x ⊕ x = b, and x ⊕ a = x. Assumes nothing.
use Rattle.std.specs.Prelude.{Bool, ℕ, T, eqb}
use Rattle.ladder.specs.Sum.{sum}
use Rattle.ladder.specs.Solution.{Interval, In}
use Rattle.ladder.specs.Narrowing.{any_in, Extent, empty, over, extent_in, Spans}

-- ---- by search
-- of the p inside P, those that pass with a q inside Q
unfoldable pub first_extent : (ℕ → ℕ → Bool) → Interval → Interval → Extent
first_extent t P Q = extent_in P (λ p. any_in Q (λ q. t p q))

-- of the q inside Q, those that pass with a p inside P
unfoldable pub second_extent : (ℕ → ℕ → Bool) → Interval → Interval → Extent
second_extent t P Q = extent_in Q (λ q. any_in P (λ p. t p q))

-- that no two pass, or the two intervals cut down
pub data Pairing : Type 0 where
  none : Pairing
  ends : Interval → Interval → Pairing

-- none where one of the two is empty
abbrev pub couple : Extent → Extent → Pairing
couple empty s = none
couple (over p) empty = none
couple (over p) (over q) = ends p q

-- the narrowing of P and Q by the test
unfoldable pub pairing : (ℕ → ℕ → Bool) → Interval → Interval → Pairing
pairing t P Q = couple (first_extent t P Q) (second_extent t P Q)

-- ---- the same by what holds of it
-- p and q, each inside its interval, pass
pub record Pair (t : ℕ → ℕ → Bool) (P Q : Interval) (p q : ℕ) : Type 0 where
  pub p_in : In P p
  pub q_in : In Q q
  pub passes : T (t p q)

-- p passes with some q
pub record HasFirst (t : ℕ → ℕ → Bool) (P Q : Interval) (p : ℕ) : Type 0 where
  pub q : ℕ
  pub pair : Pair t P Q p q

-- q passes with some p
pub record HasSecond (t : ℕ → ℕ → Bool) (P Q : Interval) (q : ℕ) : Type 0 where
  pub p : ℕ
  pub pair : Pair t P Q p q

-- each end stands in a pair that passes, and every such pair lies between the ends
pub record PairHull (t : ℕ → ℕ → Bool) (P Q P' Q' : Interval) : Type 0 where
  pub firsts : Spans (HasFirst t P Q) P'
  pub seconds : Spans (HasSecond t P Q) Q'

-- none means that no two pass
abbrev pub IsPairing : (ℕ → ℕ → Bool) → Interval → Interval → Pairing → Type 0
IsPairing t P Q none = (p q : ℕ) → Pair t P Q p q → ⊥
IsPairing t P Q (ends P' Q') = PairHull t P Q P' Q'

-- ---- the two tests
-- x ⊕ x = b
abbrev pub doubles : ℕ → ℕ → ℕ → ℕ → Bool
doubles f e x b = eqb (sum f e x x) b

-- x ⊕ a = x: x absorbs a
abbrev pub absorbs : ℕ → ℕ → ℕ → ℕ → Bool
absorbs f e x a = eqb (sum f e x a) x
