-- The ends of an interval, of a cut and of a mirror are finite; the shift by the sums of its ends; the mirror by patterns. Rests on `ladder`'s Ordinals and Solutions.
use Rattle.std.proofs.Common.{◌≡◌, ℕ, Bool, true, false, cond, Result, Ok, Err, refl, sym, subst, ap₂, arith, ap, ◌∙◌}
use Rattle.ladder.proofs.Ordinals.{ordinal_finite, negated_is}
use Rattle.ladder.proofs.Solutions.{mirror_bounded}
use Rattle.arith.specs.declared.format.Format.{Format}
use Rattle.arith.specs.declared.refusal.Reason.{Reason}
use Rattle.arith.specs.declared.range.Range.{Range}
use Rattle.arith.specs.declared.interval.Interval.{Interval}
use Rattle.arith.specs.declared.refusal.Refusal.{Refusal}
use Rattle.arith.specs.declared.sum.Sum.{Sum}
use Rattle.arith.specs.Refusals.{refusal, or_refuse}
use Rattle.arith.specs.Formats.{is_finite, sum}
use Rattle.arith.specs.Sums.{is_finite_ordinal, sum_is, in_range, sum_answer}
use Rattle.arith.specs.Intervals.{Bounded, ends_finite, range_of, interval_of, span, common, moved_in, reflected, mirrored_ends}
use Rattle.arith.specs.Steps.{between_sums}
use Rattle.arith.proofs.Formats.{both}

pub ends_both : (F : Format) (I : Interval) → ends_finite F I ≡ true → (is_finite F I.low ≡ true) × (is_finite F I.high ≡ true)
unfolding ends_finite
ends_both F I h = both (is_finite F I.low) (is_finite F I.high) h

pub range_ends : (F : Format) (I : Interval) (R : Range) → R ≡ range_of F I → ends_finite F I ≡ true → Bounded F R
range_ends F I R e h =
    let b = ends_both F I h in
    subst (Bounded F) (sym e)
    (record {
      low = ordinal_finite F.fraction F.exponent I.low b.0;
      high = ordinal_finite F.fraction F.exponent I.high b.1;
    })

pub common_ends : (F : Format) (R S T : Range) → T ≡ common R S → Bounded F R → Bounded F S → Bounded F T
common_ends F R S T e r s =
    subst (Bounded F) (sym e)
    (record {
      low = record { low = omega (arith, r.low.low, s.low.low); high = omega (arith, r.low.high, s.low.high) };
      high = record { low = omega (arith, r.high.low, s.high.low); high = omega (arith, r.high.high, s.high.high) };
    })

-- the interval between two sums is the shifted one
pub sums_moved : (F : Format) (x y c : ℕ) → between_sums (sum_answer F x c) (sum_answer F y c) ≡ moved_in F (record { low = sum F x c; high = sum F y c })
unfolding moved_in in_range
sums_moved F x y c = go (is_finite_ordinal F (sum F x c)) (is_finite_ordinal F (sum F y c))
  where
    moved : Result Interval Refusal
    moved = Ok (interval_of F (record { low = sum F x c; high = sum F y c }))

    go : (p q : Bool)
        → between_sums (cond p (Ok (sum_is F x c (sum F x c))) (Err (refusal Reason.Overflow))) (cond q (Ok (sum_is F y c (sum F y c))) (Err (refusal Reason.Overflow)))
        ≡ or_refuse p Reason.Overflow (or_refuse q Reason.Overflow moved)
    go true true = refl
    go true false = refl
    go false q = refl

-- as the two calls answer: both sums, or the first that is refused
module _ (F : Format) (x y c : ℕ) where
  abbrev moved : Result Interval Refusal
  moved = moved_in F (record { low = sum F x c; high = sum F y c })

  pub both_moved : {p q : Sum} → Ok p ≡ sum_answer F x c → Ok q ≡ sum_answer F y c → Ok (record { low = p.pattern; high = q.pattern }) ≡ moved
  both_moved d e = ap₂ between_sums d e ∙ sums_moved F x y c

  pub low_refused : {q : Refusal} → Err q ≡ sum_answer F x c → Err q ≡ moved
  low_refused d = ap (λ (s : Result Sum Refusal). between_sums s (sum_answer F y c)) d ∙ sums_moved F x y c

  pub high_refused : {p : Sum} {q : Refusal} → Ok p ≡ sum_answer F x c → Err q ≡ sum_answer F y c → Err q ≡ moved
  high_refused d e = ap₂ between_sums d e ∙ sums_moved F x y c

-- the mirror of finite ends by patterns is the one by ordinals
pub mirrored_ends_lem : (F : Format) (I : Interval) → ends_finite F I ≡ true → mirrored_ends F I ≡ interval_of F (reflected F (range_of F I))
mirrored_ends_lem F I h =
    let b = ends_both F I h in
    ap₂ (λ (l h : ℕ). record { low = l; high = h }) (negated_is F.fraction F.exponent I.high b.1) (negated_is F.fraction F.exponent I.low b.0)

pub reflected_ends : (F : Format) (R S : Range) → S ≡ reflected F R → Bounded F R → Bounded F S
reflected_ends F R S e r = subst (Bounded F) (sym e) (mirror_bounded F.fraction F.exponent (span R) r)
