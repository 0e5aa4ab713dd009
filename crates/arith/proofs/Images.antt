-- An interval's own tests, 2 for its ends and 3 for their order, and after them its image. Assumes nothing.
use Rattle.std.proofs.Common.{◌≡◌, Bool, true, false, Result, Ok, Err, ap, ◌∙◌}
use Rattle.arith.specs.declared.format.Format.{Format}
use Rattle.arith.specs.declared.range.Range.{Range}
use Rattle.arith.specs.declared.refusal.Reason.{Reason}
use Rattle.arith.specs.declared.refusal.Refusal.{Refusal}
use Rattle.arith.specs.declared.interval.Interval.{Interval}
use Rattle.arith.specs.Refusals.{refusal, or_refuse}
use Rattle.arith.specs.Intervals.{ends_finite, is_ordered, range_of, interval_of}
use Rattle.arith.proofs.Refusing.{refused, passed, holds, fails}

-- the range P is the image
abbrev image_of : Format → Interval → Range → Result Interval Refusal
image_of F I P = or_refuse (ends_finite F I) Reason.NotFinite (or_refuse (is_ordered (range_of F I)) Reason.Reversed (Ok (interval_of F P)))

-- what the calls gave: both ends are finite, the range is R, and o says whether it is ordered
module _ (F : Format) (I : Interval) {f o : Bool} {R : Range} (e : f ≡ ends_finite F I) (h : f ≡ true) (r : R ≡ range_of F I) (p : o ≡ is_ordered R) where
  pub reversed : (P : Range) {q : Refusal} → o ≡ false → q ≡ refusal Reason.Reversed → Err q ≡ image_of F I P
  reversed P t d = passed Reason.NotFinite _ _ (holds e h) (refused Reason.Reversed _ _ d (fails (p ∙ ap is_ordered r) t))

  pub imaged : (P : Range) {J : Interval} → o ≡ true → J ≡ interval_of F P → Ok J ≡ image_of F I P
  imaged P l j = passed Reason.NotFinite _ _ (holds e h) (passed Reason.Reversed _ _ (holds (p ∙ ap is_ordered r) l) (ap Ok j))
