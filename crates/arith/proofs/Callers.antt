-- What a caller of the narrowing goes by: what an answer with ends says of the three intervals, and the answer for intervals that are not refused. Rests on `ladder`'s laws of the narrowing.
use Rattle.std.proofs.Common.{◌≡◌, ℕ, Bool, true, false, Result, Ok, sym, refl, ap, arith}
use Rattle.ladder.specs.Solution as L
use Rattle.ladder.specs.Narrowing.{Narrowing, none, ends}
use Rattle.ladder.specs.Solution.{Bounded}
use Rattle.ladder.proofs.Ordinals.{pattern_finite}
use Rattle.ladder.proofs.Hull.{narrowing_hull, hull_bounded}
use Rattle.arith.specs.declared.format.Format.{Format}
use Rattle.arith.specs.declared.refusal.Reason.{Reason}
use Rattle.arith.specs.declared.refusal.Refusal.{Refusal}
use Rattle.arith.specs.declared.interval.Interval.{Interval}
use Rattle.arith.specs.declared.narrow.Narrowed.{Narrowed}
use Rattle.arith.specs.Refusals.{or_refuse}
use Rattle.arith.specs.Formats.{is_known, format_of}
use Rattle.arith.specs.Intervals.{Valid, ends_finite, is_ordered, range_of, span}
use Rattle.arith.specs.Narrows.{narrowing, written, narrow_answer, narrow_finite, narrow_in, narrow_of}
use Rattle.arith.proofs.Refusing.{passed}
use Rattle.arith.proofs.Intervals.{range_ends}

-- a test that an answer with ends has passed
passes : (ok : Bool) (n : Reason) (rest : Result Narrowed Refusal) (p q r : Interval) → or_refuse ok n rest ≡ Ok (record { x = p; a = q; b = r }) → (ok ≡ true) × (rest ≡ Ok (record { x = p; a = q; b = r }))
passes true n rest p q r e = (refl, e)
passes false n rest p q r e = let z : ◌≡◌ {A = ℕ} 0 1 = cc in absurd (omega arith)

-- what an answer with ends says: no interval was refused, and p, q, r are the ends of the narrowing, written
pub record Answered (width : ℕ) (x a b p q r : Interval) : Type 0 where
  pub valid_x : Valid width x
  pub valid_a : Valid width a
  pub valid_b : Valid width b
  pub X : L.Interval
  pub A : L.Interval
  pub B : L.Interval
  pub is : narrowing (format_of width) (range_of (format_of width) x) (range_of (format_of width) a) (range_of (format_of width) b) ≡ ends X A B
  pub x_is : p ≡ written (format_of width) X
  pub a_is : q ≡ written (format_of width) A
  pub b_is : r ≡ written (format_of width) B

module _ (width : ℕ) (x a b : Interval) where
  abbrev F : Format
  F = format_of width

  from_narrowing : (p q r : Interval) → Valid width x → Valid width a → Valid width b → (n : Narrowing) → narrowing F (range_of F x) (range_of F a) (range_of F b) ≡ n → narrow_answer F n ≡ Ok (record { x = p; a = q; b = r }) → Answered width x a b p q r
  from_narrowing p q r vx va vb none i h = let z : ◌≡◌ {A = ℕ} 0 1 = cc in absurd (omega arith)
  from_narrowing p q r vx va vb (ends X A B) i h =
      let n : ◌≡◌ {A = Narrowed} (record { x = p; a = q; b = r }) (record { x = written F X; a = written F A; b = written F B }) = cc in
      record { valid_x = vx; valid_a = va; valid_b = vb; X = X; A = A; B = B; is = i; x_is = ap (λ (n : Narrowed). n.x) n; a_is = ap (λ (n : Narrowed). n.a) n; b_is = ap (λ (n : Narrowed). n.b) n }

  pub narrow_answered : (p q r : Interval) → narrow_of width x a b ≡ Ok (record { x = p; a = q; b = r }) → Answered width x a b p q r
  unfolding narrow_of narrow_in narrow_finite
  narrow_answered p q r e =
      let s1 = passes _ Reason.Width _ p q r e in
      let s2 = passes _ Reason.NotFinite _ p q r s1.1 in
      let s3 = passes _ Reason.NotFinite _ p q r s2.1 in
      let s4 = passes _ Reason.NotFinite _ p q r s3.1 in
      let s5 = passes _ Reason.Reversed _ p q r s4.1 in
      let s6 = passes _ Reason.Reversed _ p q r s5.1 in
      let s7 = passes _ Reason.Reversed _ p q r s6.1 in
      from_narrowing p q r
      (record { known = s1.0; finite = s2.0; ordered = s5.0 })
      (record { known = s1.0; finite = s3.0; ordered = s6.0 })
      (record { known = s1.0; finite = s4.0; ordered = s7.0 })
      _ refl s7.1

  -- the answer for intervals to which none of refusals 1 to 3 applies
  pub narrow_valid : is_known width ≡ true → ends_finite F x ≡ true → ends_finite F a ≡ true → ends_finite F b ≡ true → is_ordered (range_of F x) ≡ true → is_ordered (range_of F a) ≡ true → is_ordered (range_of F b) ≡ true
      → narrow_of width x a b ≡ narrow_answer F (narrowing F (range_of F x) (range_of F a) (range_of F b))
  unfolding narrow_of narrow_in narrow_finite
  narrow_valid k fx fa fb ox oa ob = sym (passed Reason.Width _ _ k (passed Reason.NotFinite _ _ fx (passed Reason.NotFinite _ _ fa (passed Reason.NotFinite _ _ fb (passed Reason.Reversed _ _ ox (passed Reason.Reversed _ _ oa (passed Reason.Reversed _ _ ob refl)))))))

-- written ends are finite
pub written_finite : (F : Format) (I : L.Interval) → Bounded F.fraction F.exponent I → ends_finite F (written F I) ≡ true
unfolding ends_finite
written_finite F I n = rw (pattern_finite F.fraction F.exponent I.low n.low, pattern_finite F.fraction F.exponent I.high n.high)

pub answered_finite : (width : ℕ) (x a b p q r : Interval) → Answered width x a b p q r → (ends_finite (format_of width) p ≡ true) × (ends_finite (format_of width) q ≡ true) × (ends_finite (format_of width) r ≡ true)
answered_finite width x a b p q r w =
    let F = format_of width in
    let f = F.fraction in
    let e = F.exponent in
    let X = span (range_of F x) in
    let A = span (range_of F a) in
    let B = span (range_of F b) in
    let h = narrowing_hull f e X A B w.X w.A w.B w.is in
    let n = hull_bounded f e X A B w.X w.A w.B h (range_ends F x (range_of F x) refl w.valid_x.finite) (range_ends F a (range_of F a) refl w.valid_a.finite) (range_ends F b (range_of F b) refl w.valid_b.finite) in
    (rw w.x_is (written_finite F w.X n.0), rw w.a_is (written_finite F w.A n.1), rw w.b_is (written_finite F w.B n.2))
