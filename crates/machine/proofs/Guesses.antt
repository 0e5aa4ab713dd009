-- The least operand by a guess: the patterns next to one, what the two sums of `check` show, and what `trim` cuts by it. Rests on Floats, HalfUlps, `arith`'s Formats and `ladder`'s Trimming.
use mathlib.Core.Path.{◌≡◌, refl, sym, ap, subst, ◌∙◌}
use mathlib.Core.Logic.{inl, inr}
use mathlib.Core.Bool.{Bool, true, false, not, cond, ◌&&◌, ◌||◌, true≢false, beq}
use Prim.Native.Nat.{ℕ, ◌+◌, ◌-◌, ◌^◌, ◌≤◌, ◌<◌}
use native.Mathlib.Omega.{arith}
use lib.Dec.{eqb, leb, ltb}
use borrow.Author.Tests.{eq-eqb, lt-ltb, le-ltb, ltb-true, leb-true, leb-false}
use Rattle.ladder.specs.Search.{Threshold, Trimmed}
use Rattle.ladder.proofs.Cases.{le_or_lt}
use Rattle.ladder.proofs.Ordinals.{ordinal_finite}
use Rattle.ladder.proofs.Trimming.{threshold_after, trim_none, trim_up, trim_down}
use Rattle.arith.specs.declared.format.Format.{Format}
use Rattle.arith.specs.declared.interval.Interval.{Interval}
use Rattle.arith.specs.Formats.{Sound, is_finite, ordinal, sum}
use Rattle.arith.specs.Intervals.{ends_finite}
use Rattle.arith.proofs.Formats.{both, infinity_lt, finite_high, ordinal_low, ordinal_high}
use Rattle.arith.proofs.Intervals.{ends_both}
use Rattle.machine.specs.declared.guess.Checked.{Checked}
use Rattle.machine.specs.Floats.{ordinals, unsigned, Adds, Negates}
use Rattle.machine.specs.Shortcuts.{Checks, Trims}
use Rattle.machine.proofs.Floats.{chosen}
use Rattle.machine.proofs.HalfUlps.{low_finite, size_low, size_high}

-- with nothing else to hold
one_of : (p : Bool) → (p || false) ≡ true → p ≡ true
one_of true e = refl
one_of false e = e

-- ---- patterns next to each other
-- c is neither zero nor next to an infinity
pub record Inner (F : Format) (c : ℕ) : Type 0 where
  pub some : 0 < unsigned F c
  pub few : unsigned F c + 1 < F.infinity

-- the finite numbers after and before c
pub record Near (F : Format) (c after before : ℕ) : Type 0 where
  pub finite : is_finite F c ≡ true
  pub after_finite : is_finite F after ≡ true
  pub before_finite : is_finite F before ≡ true
  pub after_is : ordinal F after ≡ ordinal F c + 1
  pub before_is : ordinal F c ≡ ordinal F before + 1

-- by the test of its m
inner_at : (F G : Format) (m c : ℕ) → G ≡ F → m ≡ unsigned F c → (not (eqb m 0) && ltb m (G.infinity - 1)) ≡ true → Inner F c
inner_at F G m c e h t =
    let i = ap (λ (H : Format). H.infinity) e in
    let b = both (not (eqb m 0)) (ltb m (G.infinity - 1)) t in
    let l = ltb-true m (G.infinity - 1) b.1 in
    record { some = elim (le_or_lt m 0) [ inl z ↦ absurd (true≢false (sym b.0 ∙ ap not (eq-eqb m 0 (omega arith)))) | inr z ↦ omega arith ]; few = omega arith }

module _ (F : Format) (ok : Sound F) where
  one_inner : 2 < F.infinity → Inner F 1
  one_inner l = let z = size_low F ok 1 (omega (arith, infinity_lt F ok)) in record { some = omega arith; few = omega arith }

  -- c where the test holds, else 1
  pub inner : (G : Format) (m c d : ℕ) (within : Bool) → 2 < F.infinity → G ≡ F → m ≡ unsigned F c → within ≡ (not (eqb m 0) && ltb m (G.infinity - 1)) → d ≡ cond within c 1 → Inner F d
  inner G m c d true l e h t i = rw i (inner_at F G m c e h (sym t))
  inner G m c d false l e h t i = rw i (one_inner l)

  -- a number stands before c
  pub inner_some : (c : ℕ) → Inner F c → 1 ≤ c
  inner_some c n = elim (le_or_lt F.sign c) [
    | inl l ↦ omega (arith, infinity_lt F ok, n.few)
    | inr l ↦ omega (arith, size_low F ok c l, n.some)
  ]

  -- the number after c fits a word
  pub inner_fits : (c : ℕ) → Inner F c → c + 1 < 2 ^ 64
  inner_fits c n = elim (le_or_lt F.sign c) [
    | inl l ↦ omega (arith, size_high F ok c l, n.few, infinity_lt F ok, ok.word)
    | inr l ↦ omega (arith, ok.word)
  ]

  high_finite : (p : ℕ) → F.sign ≤ p → p - F.sign < F.infinity → is_finite F p ≡ true
  high_finite p l h = sym (finite_high F ok p l) ∙ lt-ltb (p - F.sign) F.infinity h

  near_low : (c : ℕ) → 0 < c → c + 1 < F.infinity → Near F c (c + 1) (c - 1)
  near_low c s h =
      let i = infinity_lt F ok in
      record {
        finite = low_finite F ok c (omega arith);
        after_finite = low_finite F ok (c + 1) h;
        before_finite = low_finite F ok (c - 1) (omega arith);
        after_is = omega (arith, ordinal_low F ok c (omega arith), ordinal_low F ok (c + 1) (omega arith));
        before_is = omega (arith, ordinal_low F ok c (omega arith), ordinal_low F ok (c - 1) (omega arith));
      }

  near_high : (c : ℕ) → F.sign < c → c - F.sign + 1 < F.infinity → Near F c (c - 1) (c + 1)
  near_high c s h =
      let i = infinity_lt F ok in
      record {
        finite = high_finite c (omega arith) (omega arith);
        after_finite = high_finite (c - 1) (omega arith) (omega arith);
        before_finite = high_finite (c + 1) (omega arith) (omega arith);
        after_is = omega (arith, ordinal_high F ok c (omega arith), ordinal_high F ok (c - 1) (omega arith));
        before_is = omega (arith, ordinal_high F ok c (omega arith), ordinal_high F ok (c + 1) (omega arith));
      }

  near_at : (c : ℕ) → Inner F c → Near F c (cond (ltb c F.sign) (c + 1) (c - 1)) (cond (ltb c F.sign) (c - 1) (c + 1))
  near_at c n = elim (le_or_lt F.sign c) [
    | inl l ↦ let z = size_high F ok c l in simp (le-ltb _ _ l) (near_high c (omega (arith, n.some)) (omega (arith, n.few)))
    | inr l ↦ let z = size_low F ok c l in simp (lt-ltb _ _ l) (near_low c (omega (arith, n.some)) (omega (arith, n.few)))
  ]

  pub near : (s c after before : ℕ) → Inner F c → s ≡ F.sign → after ≡ cond (ltb c s) (c + 1) (c - 1) → before ≡ cond (ltb c s) (c - 1) (c + 1) → Near F c after before
  near s c after before n e h k = rw (h, k, e) (near_at c n)

  -- ---- what two sums show
  module _ (p q d after before : ℕ) (n : Near F d after before) (s other t : ℕ) (T : Adds F other p t) where
    -- d's sum is enough, that of the number before is not
    stays : (reaches : Bool) → ordinal F s ≡ sum F (ordinal F d) (ordinal F p) → leb (ordinal F q) (ordinal F s) ≡ true → other ≡ before → reaches ≡ leb (ordinal F q) (ordinal F t) → not (beq reaches true) ≡ true → Threshold F.fraction F.exponent (ordinal F p) (ordinal F q) (ordinal F d)
    stays true i h o r e = absurd (true≢false (sym e))
    stays false i h o r e =
        let u : ordinal F t ≡ sum F (ordinal F before) (ordinal F p) = rw o at (T.is (rw o n.before_finite)) in
        let v : ordinal F s ≡ sum F (ordinal F before + 1) (ordinal F p) = i ∙ ap (λ (r : ℕ). sum F r (ordinal F p)) n.before_is in
        rw n.before_is (threshold_after F.fraction F.exponent ok.some (ordinal F p) (ordinal F q) (ordinal F before) (omega (arith, leb-false (ordinal F q) (ordinal F t) (sym r))) (omega (arith, leb-true (ordinal F q) (ordinal F s) h)))

    -- d's sum is not enough, that of the number after is
    moves : (reaches : Bool) → ordinal F s ≡ sum F (ordinal F d) (ordinal F p) → leb (ordinal F q) (ordinal F s) ≡ false → other ≡ after → reaches ≡ leb (ordinal F q) (ordinal F t) → not (beq reaches false) ≡ true → Threshold F.fraction F.exponent (ordinal F p) (ordinal F q) (ordinal F after)
    moves false i h o r e = absurd (true≢false (sym e))
    moves true i h o r e =
        let u : ordinal F t ≡ sum F (ordinal F d + 1) (ordinal F p) = rw (o, n.after_is) at (T.is (rw o n.after_finite)) in
        rw n.after_is (threshold_after F.fraction F.exponent ok.some (ordinal F p) (ordinal F q) (ordinal F d) (omega (arith, leb-false (ordinal F q) (ordinal F s) h)) (omega (arith, leb-true (ordinal F q) (ordinal F t) (sym r))))

    module _ (c : ℕ) (S : Adds F c p s) where
      own : d ≡ c → ordinal F s ≡ sum F (ordinal F d) (ordinal F p)
      own w = S.is (subst (λ (m : ℕ). is_finite F m ≡ true) w n.finite) ∙ ap (λ (m : ℕ). sum F (ordinal F m) (ordinal F p)) (sym w)

      -- the sum is c's, and where the test holds d is c
      least : (within enough reaches : Bool) → d ≡ cond within c 1 → enough ≡ leb (ordinal F q) (ordinal F s) → other ≡ cond enough before after → reaches ≡ leb (ordinal F q) (ordinal F t) → (within && not (beq reaches enough)) ≡ true → Threshold F.fraction F.exponent (ordinal F p) (ordinal F q) (ordinal F (cond enough d after))
      least false enough reaches w h o r e = absurd (true≢false (sym e))
      least true true reaches w h o r e = stays reaches (own w) (sym h) o r e
      least true false reaches w h o r e = moves reaches (own w) (sym h) o r e

      pub checked : (within enough reaches sure : Bool) (y : ℕ) → d ≡ cond within c 1 → enough ≡ leb (ordinal F q) (ordinal F s) → other ≡ cond enough before after → reaches ≡ leb (ordinal F q) (ordinal F t) → y ≡ cond enough d after → sure ≡ (within && not (beq reaches enough)) → Checks F p q (record { y = y; sure = sure })
      checked within enough reaches sure y w h o r i j = record {
        finite = chosen (λ (m : ℕ). is_finite F m ≡ true) enough y d after i n.finite n.after_finite;
        least = λ e. rw i (least within enough reaches w h o r (sym j ∙ e));
      }

  -- ---- what is cut
  module _ (x a s : ℕ) (b : Interval) (X : is_finite F x ≡ true) (A : is_finite F a ≡ true) (B : ends_finite F b ≡ true) (S : Adds F x a s) where
    abbrev Cut : ℕ → ℕ → Type 0
    Cut p q = Trimmed F.fraction F.exponent (ordinals F b) (ordinal F x) (ordinal F a) (ordinal F p) (ordinal F q)

    -- the sum is inside b
    hit : Cut x a
    hit = trim_none F.fraction F.exponent ok.some (ordinals F b) (ordinal F x) (ordinal F a)

    -- it falls short
    goes_up : (t : Checked) → leb (ordinal F b.low) (ordinal F s) ≡ false → Checks F a b.low t → t.sure ≡ true → Cut t.y a
    goes_up t h k e =
        let i = S.is X in
        trim_up F.fraction F.exponent ok.some (ordinals F b) (ordinal F x) (ordinal F a) (ordinal F t.y) (omega (arith, leb-false (ordinal F b.low) (ordinal F s) h)) (k.least e)

    -- it is past
    comes_down : (t : Checked) (mx mb o : ℕ) → leb (ordinal F s) (ordinal F b.high) ≡ false → Negates F x mx → Negates F b.high mb → Negates F t.y o → Checks F mx mb t → t.sure ≡ true → Cut x o
    comes_down t mx mb o h u v w k e =
        let i = S.is X in
        rw w.is
        (trim_down F.fraction F.exponent ok.some (ordinals F b) (ordinal F x) (ordinal F a) (ordinal F t.y)
        (ordinal_finite F.fraction F.exponent x X) (ordinal_finite F.fraction F.exponent a A) (ordinal_finite F.fraction F.exponent b.high (ends_both F b B).1)
        (omega (arith, leb-false (ordinal F s) (ordinal F b.high) h))
        (rw (u.is, v.is) at (k.least e)))

    module _ (t : Checked) (mx mb o : ℕ) (X⁻ : Negates F x mx) (B⁻ : Negates F b.high mb) (Y⁻ : Negates F t.y o) where
      -- by the two comparisons: short is that not enough, past is that not up to b's high end; both cannot be
      cut : (enough upto : Bool) → ordinal F b.low ≤ ordinal F b.high → enough ≡ leb (ordinal F b.low) (ordinal F s) → upto ≡ leb (ordinal F s) (ordinal F b.high) → Checks F (cond (not enough) a mx) (cond (not enough) b.low mb) t → (t.sure || beq (not enough) (not upto)) ≡ true → Cut (cond (not enough) t.y x) (cond (not upto) o a)
      cut true true l h k z e = hit
      cut true false l h k z e = comes_down t mx mb o (sym k) X⁻ B⁻ Y⁻ z (one_of t.sure e)
      cut false true l h k z e = goes_up t (sym h) z (one_of t.sure e)
      cut false false l h k z e = absurd (omega (arith, l, leb-false (ordinal F b.low) (ordinal F s) (sym h), leb-false (ordinal F s) (ordinal F b.high) (sym k)))

      pub trimmed :
          (enough upto sure : Bool) (g h p q r : ℕ) →
          ordinal F b.low ≤ ordinal F b.high →
          enough ≡ leb (ordinal F b.low) (ordinal F s) →
          upto ≡ leb (ordinal F s) (ordinal F b.high) →
          g ≡ cond (not enough) a mx →
          h ≡ cond (not enough) b.low mb →
          Checks F g h t →
          p ≡ cond (not enough) t.y x →
          q ≡ cond (not upto) o a →
          Adds F p q r →
          sure ≡ (t.sure || beq (not enough) (not upto)) →
          sure ≡ true → Trims F x a b (record { low = p; high = q; sum = r; sure = sure })
      trimmed enough upto sure g h p q r l is-enough is-upto gs hs k ps qs R is-sure e =
          let k' : Checks F (cond (not enough) a mx) (cond (not enough) b.low mb) t = rw (gs, hs) at k in
          let fp = chosen (λ (n : ℕ). is_finite F n ≡ true) (not enough) p t.y x ps k.finite X in
          let fq = chosen (λ (n : ℕ). is_finite F n ≡ true) (not upto) q o a qs (Y⁻.finite k.finite) A in
          record {
            summed = record { low = fp; high = fq; number = R.number; is = R.is fp };
            trimmed = rw (ps, qs) (cut enough upto l is-enough is-upto k' (sym is-sure ∙ e));
          }
