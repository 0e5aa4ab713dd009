-- The narrowing's answer as floats, and that it tells the reply due. Rests on the kit's law that a float's pattern is the one it was read from.
use mathlib.Core.Path.{◌≡◌, refl, sym, ap, ap₂, ◌∙◌}
use mathlib.Core.Bool.{Bool, true, false, cond, not}
use mathlib.Core.List.{[], ◌∷◌}
use Prim.Native.Nat.{ℕ}
use denote.Enum.Bare.{sameb}
use lib.Dec.{T, eqb}
use lib.Ieee.{nan_bits, binary64, of_bits, to_bits}
use borrow.Author.Tests.{eq-eqb, ne_eqb}
use Rattle.std.specs.Prelude.{Result, Ok, Err}
use Rattle.ladder.specs.Narrowing.{Narrowing, none, ends}
use Rattle.ladder.proofs.Standard.{pattern_number, pattern_read}
use Rattle.arith.specs.declared.format.Format.{Format}
use Rattle.arith.specs.declared.interval.Interval.{Interval}
use Rattle.arith.specs.declared.refusal.Reason.{Reason}
use Rattle.arith.specs.declared.refusal.Refusal.{Refusal}
use Rattle.arith.specs.contracts.refusal.Reason.{the_type}
use Rattle.arith.specs.Refusals.{number}
use Rattle.arith.specs.declared.narrow.Narrowed.{Narrowed}
use Rattle.arith.specs.Formats.{format_of}
use Rattle.arith.specs.Intervals.{ends_finite}
use Rattle.tazsmibor.specs.declared.floats.Floats.TheVariants.{Point, Span}
use Rattle.tazsmibor.specs.declared.floats.FloatEnds.{FloatEnds}
use Rattle.arith.specs.Narrows.{written, narrow_answer, narrow_finite, narrow_in, narrow_of}
use Rattle.arith.specs.Answers.{gives}
use Rattle.arith.specs.Replies.{reply_after, given_tests, in_triples}
use Rattle.arith.proofs.Intervals.{ends_both}
use Rattle.arith.proofs.Callers.{narrow_answered, answered_finite}
use Rattle.arith.proofs.Replies.{on_test, Passed, after_chain, tells}
use Rattle.tazsmibor.specs.Floating.{floats_of, float_ends, no_floats, float_answer, narrow_floats_of, float_patterns, three_patterns, floats_told, one_or_two, three_floats, float_values}

-- ---- an interval as floats
-- finite patterns are no NaN's
pub low_number : (I : Interval) → ends_finite (format_of 64) I ≡ true → T (not (nan_bits binary64 I.low))
low_number I h = pattern_number binary64 I.low (ends_both (format_of 64) I h).0

pub high_number : (I : Interval) → ends_finite (format_of 64) I ≡ true → T (not (nan_bits binary64 I.high))
high_number I h = pattern_number binary64 I.high (ends_both (format_of 64) I h).1

pub point_is : (I : Interval) → I.low ≡ I.high → Point (of_bits binary64 I.low) ≡ floats_of I
unfolding floats_of
point_is I e = simp (eq-eqb _ _ e)

pub span_is : (I : Interval) → (I.low ≡ I.high → ⊥) → Span (of_bits binary64 I.low) (of_bits binary64 I.high) ≡ floats_of I
unfolding floats_of
span_is I n = simp (ne_eqb _ _ n)

-- ---- the answer as floats
-- 11 is the number of one reason alone
eleven : (q : Reason) → sameb the_type q Reason.NoTriple ≡ eqb (number q) 11
eleven Reason.Width = refl
eleven Reason.NotFinite = refl
eleven Reason.Reversed = refl
eleven Reason.Malformed = refl
eleven Reason.NoCell = refl
eleven Reason.Limit = refl
eleven Reason.TooLong = refl
eleven Reason.Overflow = refl
eleven Reason.Full = refl
eleven Reason.NoTriple = refl
eleven Reason.Short = refl

module _ (x a b : Interval) where
  pub floats_ends : (n : Narrowed) {f : FloatEnds} → f ≡ float_ends n → Ok n ≡ narrow_of 64 x a b → Ok f ≡ narrow_floats_of x a b
  unfolding narrow_floats_of
  floats_ends n i e = rw i (ap float_answer e)

  refusal_is : (r : Refusal) {t : Bool} → t ≡ sameb the_type r.reason Reason.NoTriple → Err r ≡ narrow_of 64 x a b → cond t (Ok no_floats) (Err r) ≡ narrow_floats_of x a b
  unfolding narrow_floats_of
  refusal_is r q e = ap (λ (t : Bool). cond t (Ok no_floats) (Err r)) (q ∙ eleven r.reason) ∙ ap float_answer e

  pub floats_none : (r : Refusal) {t : Bool} → t ≡ sameb the_type r.reason Reason.NoTriple → t ≡ true → Err r ≡ narrow_of 64 x a b → Ok no_floats ≡ narrow_floats_of x a b
  floats_none r q h e = refusal_is r (sym h ∙ q) e

  pub floats_refused : (r : Refusal) {t : Bool} → t ≡ sameb the_type r.reason Reason.NoTriple → t ≡ false → Err r ≡ narrow_of 64 x a b → Err r ≡ narrow_floats_of x a b
  floats_refused r q h e = refusal_is r (sym h ∙ q) e

  -- an answer's ends are finite
  pub finite_ends : (n : Narrowed) → Ok n ≡ narrow_of 64 x a b → (ends_finite (format_of 64) n.x ≡ true) × (ends_finite (format_of 64) n.a ≡ true) × (ends_finite (format_of 64) n.b ≡ true)
  finite_ends n e = answered_finite 64 x a b n.x n.a n.b (narrow_answered 64 x a b n.x n.a n.b (sym e))

-- ---- the reply due
-- the patterns of an interval's floats are its ends
patterns_told : (I : Interval) → ends_finite (format_of 64) I ≡ true → float_patterns (floats_of I) ≡ one_or_two I
unfolding floats_of
patterns_told I h = on_test float_patterns (eqb I.low I.high) _ _ (λ _. ap (λ (p : ℕ). p ∷ []) l) (ap₂ (λ (p q : ℕ). p ∷ q ∷ []) l u)
  where
    l : to_bits binary64 (of_bits binary64 I.low) ≡ I.low
    l = pattern_read binary64 I.low (ends_both (format_of 64) I h).0

    u : to_bits binary64 (of_bits binary64 I.high) ≡ I.high
    u = pattern_read binary64 I.high (ends_both (format_of 64) I h).1

module _ (x a b : Interval) where
  abbrev F : Format
  F = format_of 64

  three_told : Passed (given_tests 64 x a b) → (n : Narrowing) → in_triples 64 x a b ≡ n → floats_told (float_answer (narrow_answer F n)) ≡ gives (three_floats n)
  three_told p none i = refl
  three_told p (ends X A B) i =
      let s = p.1 in
      let f =
      answered_finite 64 x a b _ _ _
      (record {
        valid_x = record { known = p.0; finite = s.0; ordered = s.1.1.1.0 };
        valid_a = record { known = p.0; finite = s.1.0; ordered = s.1.1.1.1.0 };
        valid_b = record { known = p.0; finite = s.1.1.0; ordered = s.1.1.1.1.1.0 };
        X = X;
        A = A;
        B = B;
        is = i;
        x_is = refl;
        a_is = refl;
        b_is = refl;
      })
      in
      rw (patterns_told (written F X) f.0, patterns_told (written F A) f.1, patterns_told (written F B) f.2)

  floats_due : floats_told (narrow_floats_of x a b) ≡ reply_after (given_tests 64 x a b) (float_values x a b)
  unfolding narrow_floats_of narrow_of narrow_in narrow_finite
  floats_due =
      let n = in_triples 64 x a b in
      after_chain (λ (N : Result Narrowed Refusal). floats_told (float_answer N)) (λ r. r) (given_tests 64 x a b) [] (narrow_answer F n) (three_floats n)
      (refl, (refl, (refl, (refl, (refl, (refl, (refl, tt)))))))
      (λ p. three_told p n refl)

  pub floats_reply : {r : Result FloatEnds Refusal} → r ≡ narrow_floats_of x a b → floats_told r ≡ reply_after (given_tests 64 x a b) (float_values x a b)
  floats_reply e = tells three_patterns e floats_due
