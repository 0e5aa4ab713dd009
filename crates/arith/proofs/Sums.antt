-- Step 3 of the forward sum: the rounded exact sum, tested for its range, is 01's sum, as an ordinal and as an answer, and what rounding left over is 02's remainder.
-- Rests on `ladder`'s laws of rounding and of the remainder.
use Rattle.std.proofs.Common.{◌≡◌, ℕ, ◌+◌, ◌-◌, ◌<◌, ◌≤◌, min, Bool, true, false, cond, ◌&&◌, eqb, ltb, sym, refl, ap, ◌∙◌, subst, ap₂, inl, inr, arith, le-ltb, lt-ltb, le-leb, Result, Ok, Err}
use borrow.Author.Tests.{lt-leb}
use Rattle.ladder.specs.Magnitude.{magnitude}
use Rattle.ladder.specs.Rounding.{round}
use Rattle.ladder.specs.Ordinal.{above, below}
use Rattle.ladder.specs.Ordinal as L
use Rattle.ladder.specs.Sum.{gains, losses, rounded}
use Rattle.ladder.specs.Sum as S
use Rattle.ladder.proofs.Cases.{le_or_lt}
use Rattle.ladder.proofs.Magnitude.{magnitude_lt}
use Rattle.ladder.proofs.Sum.{rounded_up, rounded_down}
use Rattle.ladder.proofs.Remainder.{sum_remainder}
use Rattle.arith.specs.declared.format.Format.{Format}
use Rattle.arith.specs.declared.sum.Signed.{Signed}
use Rattle.arith.specs.declared.refusal.Reason.{Reason}
use Rattle.arith.specs.declared.refusal.Refusal.{Refusal}
use Rattle.arith.specs.declared.sum.ExactSum.{ExactSum}
use Rattle.arith.specs.declared.sum.Rounded.{Rounded}
use Rattle.arith.specs.declared.sum.Rounding.{Rounding}
use Rattle.arith.specs.declared.sum.Addition.{Addition}
use Rattle.arith.specs.declared.sum.Tested.{Tested}
use Rattle.arith.specs.declared.sum.Tested.TheVariants.{Finite, Overflow}
use Rattle.arith.specs.declared.sum.Mark.{Mark}
use Rattle.arith.specs.declared.sum.Sum.{Sum}
use Rattle.arith.specs.Refusals.{refusal}
use Rattle.arith.specs.Formats.{Sound, pattern, sum, remainder}
use Rattle.arith.specs.Exacts.{size_of}
use Rattle.arith.specs.Sums.{is_finite_ordinal, mark_for, is_exact, mark_of, sum_is, in_range, sum_answer}
use Rattle.arith.specs.Steps.{is_set, FiniteSigned, ordinal_at, Represents, Exactly, Rounds, tested_of, answer_of, RangeTested, RoundedSum, LeftOver, short, past, IsSum}
use Rattle.arith.proofs.Formats.{infinity_lt}
use Rattle.arith.proofs.Roundings.{same_eqb, rounded_m, rounded_exact}
use Rattle.arith.proofs.Decoding.{signed_units}
use Rattle.arith.proofs.Remainders.{left_short, left_past, other_sign, other_set, value_represents}

and_no : (p q : Bool) → q ≡ false → (p && q) ≡ false
and_no true q e = e
and_no false q e = refl

-- ---- m with the sign b, as an ordinal
signed_low : (b : Bool) (m s i : ℕ) → m < i → i < s → s < cond b (s - m) (s + m) + i
signed_low true m s i h l = omega arith
signed_low false m s i h l = omega arith

signed_high : (b : Bool) (m s i : ℕ) → m < i → cond b (s - m) (s + m) < s + i
signed_high true m s i h = omega arith
signed_high false m s i h = omega arith

signed_distance : (b : Bool) (m s : ℕ) → m ≤ s → (cond b (s - m) (s + m) - s) + (s - cond b (s - m) (s + m)) ≡ m
signed_distance true m s h = omega arith
signed_distance false m s h = omega arith

-- the sums on either side of zero are the same exactly where the sizes are
same_size : (b : Bool) (v n p q : ℕ) → cond b 0 n ≡ p - q → cond b n 0 ≡ q - p → eqb (cond b 0 v + q) (p + cond b v 0) ≡ eqb v n
same_size true v n p q u d = same_eqb (0 + q) (p + v) v n (λ z. omega arith) (λ z. omega arith)
same_size false v n p q u d = same_eqb (v + q) (p + 0) v n (λ z. omega arith) (λ z. omega arith)

module _ (F : Format) (ok : Sound F) where
  abbrev f : ℕ
  f = F.fraction

  abbrev e : ℕ
  e = F.exponent

  abbrev s : ℕ
  s = F.sign

  -- n units with the sign b, as p above zero and q below
  rounded_signed : (b : Bool) (n p q : ℕ) → cond b 0 n ≡ p - q → cond b n 0 ≡ q - p → rounded f e p q ≡ cond b (s - min (round f n) F.infinity) (s + min (round f n) F.infinity)
  rounded_signed true n p q u d = omega (arith, ok.sign, ok.infinity, ap (round f) d, rounded_down f e ok.some p q (omega arith))
  rounded_signed false n p q u d = omega (arith, ok.sign, ok.infinity, ap (round f) u, rounded_up f e ok.some p q (omega arith))

  -- ---- whether m with the sign b is a finite float's
  finite_yes : (b : Bool) (m : ℕ) → m < F.infinity → is_finite_ordinal F (cond b (s - m) (s + m)) ≡ true
  unfolding is_finite_ordinal
  finite_yes b m h = ap₂ ◌&&◌ (lt-ltb _ _ (signed_low b m s F.infinity h (infinity_lt F ok))) (lt-ltb _ _ (signed_high b m s F.infinity h))

  finite_no : (b : Bool) → is_finite_ordinal F (cond b (s - F.infinity) (s + F.infinity)) ≡ false
  unfolding is_finite_ordinal
  finite_no true = let l : s - F.infinity + F.infinity ≤ s = omega (arith, infinity_lt F ok) in ap (λ (z : Bool). z && ltb (s - F.infinity) (s + F.infinity)) (le-ltb _ _ l)
  finite_no false = let l : s + F.infinity ≤ s + F.infinity = omega arith in and_no (ltb s (s + F.infinity + F.infinity)) (ltb (s + F.infinity) (s + F.infinity)) (le-ltb _ _ l)

  pub finite_ordinal : (z : Signed) → FiniteSigned F z → L.Finite f e (ordinal_at F z)
  finite_ordinal z h = record {
    low = omega (arith, ok.sign, ok.infinity, signed_low (is_set z.sign) z.m s F.infinity h.m (infinity_lt F ok));
    high = omega (arith, ok.sign, ok.infinity, signed_high (is_set z.sign) z.m s F.infinity h.m);
  }

-- ---- the range test
module _ (F : Format) (sign : ℕ) (r : Rounded) where
  abbrev sized : ℕ → Signed
  sized m = record { sign = sign; m = m }

  pub test_over : F.infinity ≤ r.m → RangeTested F sign r (Overflow (sized F.infinity))
  test_over h = record {
    is = simp (le-leb F.infinity r.m h);
    refused = λ z. (λ e y l. magnitude_lt F.fraction y r.m (omega arith), λ p. refl);
  }

  pub test_in : (k : Mark) → k ≡ mark_for F.fraction r.m r.exact → r.m < F.infinity → RangeTested F sign r (Finite (sized r.m) k)
  test_in k K h = record {
    is = ap (Finite (sized r.m)) K ∙ simp (lt-leb F.infinity r.m h);
    refused = λ z. (λ e. let z : ◌≡◌ {A = ℕ} 0 1 = cc in absurd (omega arith), λ p. absurd (omega (arith, p r.m h)));
  }

-- ---- the three steps: t is the exact sum of x and a, and r that sum rounded
module _ (F : Format) (x a : ℕ) (t : ExactSum) (g : Rounding) (ok : Sound F) (T : Exactly F x a t) (R : Rounds F.fraction t.size g) where
  abbrev r : Rounded
  r = g.result

  abbrev fraction : ℕ
  fraction = F.fraction

  abbrev exponent : ℕ
  exponent = F.exponent

  abbrev i : ℕ
  i = F.infinity

  abbrev y : ℕ
  y = sum F x a

  abbrev n : ℕ
  n = size_of t.size

  abbrev b : Bool
  b = is_set t.sign

  -- the sum's sign with another m
  abbrev at : ℕ → Signed
  at m = record { sign = t.sign; m = m }

  sum_is_lem : (m : ℕ) → m ≡ min r.m i → ordinal_at F (at m) ≡ y
  unfolding S.sum
  sum_is_lem m h =
      ap (λ (z : ℕ). ordinal_at F (at z)) (h ∙ ap (λ (z : ℕ). min z i) (rounded_m fraction n r R.is))
      ∙ sym (rounded_signed F ok b n (gains fraction exponent x a) (losses fraction exponent x a) T.amounts.up T.amounts.down)

  mark_is : r.m < i → mark_for fraction r.m r.exact ≡ mark_of F x a (ordinal_at F (at r.m))
  unfolding mark_of is_exact
  mark_is h =
      let l : r.m ≤ F.sign = omega (arith, infinity_lt F ok) in
      let u = signed_units F ok (at r.m) (omega arith) in
      let X : r.exact ≡ is_exact F x a (ordinal_at F (at r.m)) =
      rounded_exact fraction n r R.is
      ∙ sym (ap₂ (λ (p q : ℕ). eqb (p + losses fraction exponent x a) (gains fraction exponent x a + q)) u.0 u.1
      ∙ same_size b (magnitude fraction r.m) n (gains fraction exponent x a) (losses fraction exponent x a) T.amounts.up T.amounts.down)
      in
      ap₂ (mark_for fraction) (sym (signed_distance b r.m F.sign l)) X

  rounded_sum : RoundedSum F t g
  rounded_sum = record { sign = T.sign; roundable = record { fraction = (ok.some, ok.few); shaped = T.amounts.shaped; low = T.amounts.low }; rounds = R }

  -- ---- an overflow
  over_answer : (o : ℕ) → o ≡ y → is_finite_ordinal F o ≡ false → Err (refusal Reason.Overflow) ≡ sum_answer F x a
  unfolding in_range
  over_answer o O N = sym (ap (λ (z : Bool). cond z (Ok (sum_is F x a y)) (Err (refusal Reason.Overflow))) (ap (is_finite_ordinal F) (sym O) ∙ N))

  -- ---- in range
  module _ (h : r.m < i) where
    o : ordinal_at F (at r.m) ≡ y
    o = sum_is_lem r.m (omega arith)

    fits : FiniteSigned F (at r.m)
    fits = record { sign = T.sign; m = h }

    -- what is left over is the remainder
    remainder_is : L.Finite fraction exponent x → L.Finite fraction exponent a → (z : Signed) → LeftOver F t r.m z → Represents F (remainder F x a y) z
    remainder_is X A z left =
        let Y : L.Finite fraction exponent y = subst (L.Finite fraction exponent) o (finite_ordinal F ok (at r.m) fits) in
        let C = sum_remainder fraction exponent ok.some x a X A Y in
        let q = remainder F x a y in
        let v = magnitude fraction r.m in
        let w = magnitude fraction z.m in
        let u = signed_units F ok (at r.m) (omega arith) in
        let over = ap (above fraction exponent) (sym o) ∙ u.0 in
        let under = ap (below fraction exponent) (sym o) ∙ u.1 in
        let whole : gains fraction exponent x a + (cond b v 0 + below fraction exponent q) ≡ cond b 0 v + above fraction exponent q + losses fraction exponent x a =
        omega (arith, C.whole)
        in
        elim left [
          | short same N ↦
              value_represents F ok z q C.finite (rw same T.sign)
              (rw same (left_short b n v w _ _ _ _ T.amounts.up T.amounts.down N whole))
          | past other N ↦
              value_represents F ok z q C.finite (rw other (other_sign F ok t.sign T.sign))
              (rw (other, other_set F ok t.sign T.sign) (left_past b n v w _ _ _ _ T.amounts.up T.amounts.down N whole))
        ]

    abbrev sum_with : ℕ → Mark → ℕ → Result Sum Refusal
    sum_with p k q = Ok (record { pattern = pattern F p; mark = k; remainder = pattern F q })

    in_answer : (z : Signed) → ordinal_at F z ≡ remainder F x a y → answer_of F (Finite (at r.m) (mark_for fraction r.m r.exact)) z ≡ sum_answer F x a
    unfolding in_range
    in_answer z Z =
        ap₂ (sum_with (ordinal_at F (at r.m))) (mark_is h) Z
        ∙ ap (λ (p : ℕ). sum_with p (mark_of F x a p) (remainder F x a y)) o
        ∙ sym (ap (λ (c : Bool). cond c (Ok (sum_is F x a y)) (Err (refusal Reason.Overflow))) (ap (is_finite_ordinal F) (sym o) ∙ finite_yes F ok b r.m h))

  -- the sum by its steps
  abbrev made : Tested → Addition
  made v = record { exact = t; rounding = g; tested = v }

  overflowed : (v : Tested) → i ≤ r.m → IsSum F x a (made v) (Overflow (at i))
  overflowed v h =
      let o = sum_is_lem i (omega arith) in
      record { rounded = rounded_sum; within = refl; ordinal = o; answer = over_answer (ordinal_at F (at i)) o (finite_no F ok b) }

  in_range_lem : (v : Tested) → L.Finite fraction exponent x → L.Finite fraction exponent a → (h : r.m < i) → IsSum F x a (made v) (Finite (at r.m) (mark_for fraction r.m r.exact))
  in_range_lem v X A h = record {
    rounded = rounded_sum;
    within = fits h;
    ordinal = o h;
    answer = λ z left. let Z = remainder_is h X A z left in record { finite = Z.finite; is = in_answer h z Z.ordinal };
  }

  pub steps_sum : (v : Tested) → L.Finite fraction exponent x → L.Finite fraction exponent a → v ≡ tested_of F t.sign r → IsSum F x a (made v) v
  steps_sum v X A P = elim (le_or_lt i r.m) [
    | inl h ↦ subst (IsSum F x a (made v)) (sym (P ∙ simp (le-leb i r.m h))) (overflowed v h)
    | inr h ↦ subst (IsSum F x a (made v)) (sym (P ∙ simp (lt-leb i r.m h))) (in_range_lem v X A h)
  ]

-- the same of the ordinals that the operands stand for, by the case v that was matched
pub matched : {F : Format} {p q : ℕ} {x a : Signed} {s : Addition} {v : Tested} → Represents F p x → Represents F q a → s.tested ≡ v
    → IsSum F (ordinal_at F x) (ordinal_at F a) s s.tested → IsSum F p q s v
matched {F} {p} {q} {x} {a} {s} X A e h = subst (IsSum F p q s) e (rw (X.ordinal, A.ordinal) at h)
