-- A sum with one float in two places: the ranges found are the narrowing, the answer for them, and the reply that it tells. Rests on `ladder`'s Pairing and Halves.
use Rattle.std.proofs.Common.{◌≡◌, ℕ, ◌+◌, ◌-◌, ◌<◌, ◌≤◌, Bool, true, false, [], ◌∷◌, Option, None, Some, Result, sym, refl, ap, ◌∙◌, subst, ap₂, arith, leb-false, leb-true}
use Rattle.ladder.specs.Solution as L
use Rattle.ladder.specs.Halves.{doubled}
use Rattle.ladder.specs.Pairing.{Pairing, none, ends, pairing, doubles, PairHull}
use Rattle.ladder.proofs.Pairing.{pairing_unique, pairing_hull, pair_bounded}
use Rattle.ladder.proofs.Halves.{doubles_none, doubles_hull}
use Rattle.ladder.proofs.Doubling.{sum_doubled_up, sum_doubled_down}
use Rattle.arith.specs.declared.format.Format.{Format}
use Rattle.arith.specs.declared.range.Range.{Range}
use Rattle.arith.specs.declared.refusal.Refusal.{Refusal}
use Rattle.arith.specs.declared.interval.Interval.{Interval}
use Rattle.arith.specs.declared.repeated.Couple.{Couple}
use Rattle.arith.specs.declared.repeated.Paired.{Paired}
use Rattle.arith.specs.Formats.{Sound, Finite, format_of, sum}
use Rattle.arith.specs.Intervals.{Bounded, ends_finite, is_ordered, range_of, span, common}
use Rattle.arith.specs.Answers.{paired_values, paired_told}
use Rattle.arith.specs.Replies.{reply_after, paired, in_pairs, given_pair, four_patterns, pair_reply}
use Rattle.arith.specs.Repeats.{Relation, doubling, pair_answer, pair_in, pair_of}
use Rattle.arith.specs.PairSearches.{PairTest, relation_of, Filled, BothFilled, coupled, FiniteEnds, LeastHalf, GreatestHalf}
use Rattle.arith.proofs.Formats.{infinity_lt}
use Rattle.arith.proofs.Refusing.{holds, fails}
use Rattle.arith.proofs.Intervals.{range_ends}
use Rattle.arith.proofs.Replies.{told_chain}

-- ---- x ⊕ x, where it is finite
module _ (F : Format) (ok : Sound F) (x : ℕ) (n : Finite F (sum F x x)) where
  pub double_above : F.sign ≤ x → (doubled F.fraction (x - F.sign) < F.infinity) × (F.sign + doubled F.fraction (x - F.sign) ≡ sum F x x)
  double_above l =
      let d = rw (sym ok.sign) at (sum_doubled_up F.fraction F.exponent ok.some x (omega (arith, ok.sign))) in
      (omega (arith, d, n.high, ok.sign, ok.infinity), omega (arith, d, n.high, ok.sign, ok.infinity))

  pub double_below : x < F.sign → (doubled F.fraction (F.sign - x) < F.infinity) × (F.sign - doubled F.fraction (F.sign - x) ≡ sum F x x)
  double_below l =
      let d = rw (sym ok.sign) at (sum_doubled_down F.fraction F.exponent ok.some x (omega (arith, ok.sign))) in
      (omega (arith, d, n.low, ok.sign, ok.infinity, infinity_lt F ok), omega (arith, d, n.low, ok.sign, ok.infinity, infinity_lt F ok))

-- ---- x ⊕ x = b
-- l and u are the halves of B, C is what X shares with them, and o says whether it is ordered
module _ (F : Format) (X B : Range) (g : BothFilled F X B) {l u : ℕ} (least : LeastHalf F B.low l) (greatest : GreatestHalf F B.high u)
    {C : Range} {o : Bool} (e : C ≡ common X (record { low = l; high = u })) (p : o ≡ is_ordered C) where
  abbrev cut : Range
  cut = common X (record { low = l; high = u })

  abbrev f : ℕ
  f = F.fraction

  abbrev d : ℕ
  d = F.exponent

  abbrev some : 1 ≤ f
  some = F.sound.some

  -- the doubles of a range's ends
  abbrev doubles_of : Range → L.Interval
  doubles_of R = record { low = sum F R.low R.low; high = sum F R.high R.high }

  pub double_none : o ≡ false → coupled None ≡ doubling F X B
  unfolding is_ordered
  double_none t = pairing_unique (doubles f d) (span X) (span B) none (doubles_none f d some (span X) (span B) l u least greatest (leb-false _ _ (fails (p ∙ ap is_ordered e) t)))

  double_hull : o ≡ true → PairHull (doubles f d) (span X) (span B) (span cut) (doubles_of cut)
  unfolding is_ordered
  double_hull t = doubles_hull f d some (span X) (span B) l u least greatest (leb-true _ _ (holds (p ∙ ap is_ordered e) t))

  -- which are finite
  pub double_finite : o ≡ true → L.Bounded f d (doubles_of C)
  double_finite t =
      subst (λ (D : Range). L.Bounded f d (doubles_of D)) (sym e)
      (pair_bounded (doubles f d) (span X) (span B) (span cut) (doubles_of cut) (double_hull t) g.first.ends g.second.ends).1

  pub double_ends : o ≡ true → {r s : ℕ} → r ≡ sum F C.low C.low → s ≡ sum F C.high C.high → coupled (Some (record { p = C; q = record { low = r; high = s } })) ≡ doubling F X B
  double_ends t {r} {s} v w =
      ap₂ (λ (y z : ℕ). let q : L.Interval = record { low = y; high = z } in ends (span C) q) v w
      ∙ ap (λ (D : Range). ends (span D) (doubles_of D)) e
      ∙ pairing_unique (doubles f d) (span X) (span B) _ (double_hull t)

-- ---- the answer for ranges
-- the ends found are finite
pub coupled_finite : (F : Format) (t : ℕ → ℕ → Bool) (X A : Range) (c : Couple) → coupled (Some c) ≡ pairing t (span X) (span A) → Bounded F X → Bounded F A → Bounded F c.p × Bounded F c.q
coupled_finite F t X A c e x a = pair_bounded t (span X) (span A) (span c.p) (span c.q) (pairing_hull t (span X) (span A) (span c.p) (span c.q) (sym e)) x a

pub both_finite_lem : (F : Format) (test : PairTest) (X A : Range) → BothFilled F X A → (c : Option Couple) → coupled c ≡ relation_of test F X A → FiniteEnds F c
both_finite_lem F test X A g None e = tt
both_finite_lem F test X A g (Some c) e = coupled_finite F (test F.fraction F.exponent) X A c e g.first.ends g.second.ends

-- a range whose interval passed the tests
pub filled : (F : Format) → Sound F → (i : Interval) {R : Range} → R ≡ range_of F i → ends_finite F i ≡ true → is_ordered (range_of F i) ≡ true → Filled F R
unfolding is_ordered
filled F ok i e n o = record { ends = range_ends F i _ e n; order = rw e (leb-true _ _ o) }

-- ---- the reply
answer_told_lem : (width : ℕ) (n : Pairing) → paired_told (pair_answer (format_of width) n) ≡ reply_after (paired n ∷ []) (four_patterns width n)
answer_told_lem width none = refl
answer_told_lem width (ends P Q) = refl

pair_told : (by : Relation) (width : ℕ) (i j : Interval) → paired_told (pair_of by width i j) ≡ pair_reply by width i j
unfolding pair_of pair_in
pair_told by width i j =
    let n = in_pairs by width i j in
    told_chain paired_values (given_pair width i j) (paired n ∷ []) (pair_answer (format_of width) n) (four_patterns width n) (answer_told_lem width n)

-- an answer that is the one defined tells it
pub pair_due : (by : Relation) (width : ℕ) (i j : Interval) {r : Result Paired Refusal} → r ≡ pair_of by width i j → paired_told r ≡ pair_reply by width i j
pair_due by width i j e = ap paired_told e ∙ pair_told by width i j
