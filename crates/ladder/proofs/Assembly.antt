-- The narrowing from its three parts: that of x, that of a as x with the operands swapped, and that of b over what x and a were narrowed to. Assumes nothing.
use mathlib.Core.Path.{◌≡◌}
use Prim.Native.Nat.{ℕ}
use Rattle.ladder.specs.Solution.{Interval}
use Rattle.ladder.specs.Narrowing.{none, ends, narrowing, HasX, HasA, HasB, Spans}
use Rattle.ladder.specs.Search.{Never}
use Rattle.ladder.proofs.Narrowing.{narrowing_unique}
use Rattle.ladder.proofs.Solutions.{Kept, kept_b, swap_spans}
use Rattle.ladder.proofs.Hull.{Within, in_within, spans_within, same_spans}

module _ (f e : ℕ) (X A B : Interval) where
  pub never_x : Never (HasX f e X A B) → none ≡ narrowing f e X A B
  never_x n = narrowing_unique f e X A B none (λ x a b s. n x (record { a = a; b = b; solution = s }))

  pub x_within : (X' : Interval) → Spans (HasX f e X A B) X' → Within X X'
  x_within X' = spans_within (HasX f e X A B) X X' (λ y w. w.solution.x_in)

  module _ (X' A' : Interval) (p : Spans (HasX f e X A B) X') (q : Spans (HasX f e A X B) A') where
    a_spans : Spans (HasA f e X A B) A'
    a_spans = swap_spans f e X A B A' q

    -- the triples of what x and a were narrowed to are those that were there
    pub narrowed_kept : Kept f e X A B X' A' B
    narrowed_kept x a b s = record { x_in = p.all x (record { a = a; b = b; solution = s }); a_in = a_spans.all a (record { x = x; b = b; solution = s }); b_in = s.b_in; is = s.is }

    narrowed_given : Kept f e X' A' B X A B
    narrowed_given x a b s = record {
      x_in = in_within (x_within X' p) x s.x_in;
      a_in = in_within (spans_within (HasA f e X A B) A A' (λ y w. w.solution.a_in) a_spans) a s.a_in;
      b_in = s.b_in;
      is = s.is;
    }

    pub assembled : (B' : Interval) → Spans (HasB f e X' A' B) B' → ends X' A' B' ≡ narrowing f e X A B
    assembled B' r =
        narrowing_unique f e X A B (ends X' A' B')
        (record { xs = p; «as» = a_spans; bs = same_spans (kept_b f e X' A' B X A B narrowed_given) (kept_b f e X A B X' A' B narrowed_kept) B' r })
