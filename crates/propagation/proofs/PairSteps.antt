-- The step of a sum or a diff with one cell in two places, from the narrowing of two intervals by a test; and of a record over one cell, of which only zero is left. Rests on ladder proofs/Pairing.
use mathlib.Core.Path.{◌≡◌, refl, sym, ap, subst, ◌∙◌}
use mathlib.Core.Logic.{◌≢◌}
use mathlib.Core.Bool.{Bool, true, cond}
use mathlib.Core.List.{[], ◌∷◌}
use Prim.Native.Nat.{ℕ, ◌<◌}
use native.Mathlib.Omega.{arith}
use lib.Dec.{eqb}
use lib.ListN.{length, length-set}
use borrow.Author.Tests.{eq-eqb, ne_eqb}
use Rattle.ladder.specs.Solution.{Interval, In}
use Rattle.ladder.specs.Narrowing.{Spans}
use Rattle.ladder.specs.Pairing.{Pairing, none, ends, pairing, Pair, PairHull}
use Rattle.ladder.proofs.Hull.{same_spans}
use Rattle.ladder.proofs.Pairing.{pairing_none, pairing_hull}
use Rattle.sheet.specs.declared.kept.Record.{Record}
use Rattle.sheet.specs.Members.{Each}
use Rattle.sheet.specs.declared.kind.Kind.{Kind}
use Rattle.sheet.specs.Kinds.{kind_of}
use Rattle.sheet.specs.Records.{named, Values, fits_by, fits}
use Rattle.sheet.specs.Boxes.{Box, at}
use Rattle.propagation.specs.Runs.{Step, unsolved, left, step}
use Rattle.propagation.specs.Consistency.{Solution, Has}
use Rattle.propagation.proofs.Fitting.{fits_local, fits_as}
use Rattle.propagation.proofs.Stepping.{Left, step_unique}
use Rattle.propagation.proofs.Searching.{true_holds, holds_true}
use Rattle.propagation.proofs.KindSteps.{put, Agree, put_x, put_a, put_b, put_other}

-- ---- two cells in three places
-- which of two a place has
pub data Which : Type 0 where
  one : Which
  other : Which

abbrev pub pick : {A : Type 0} → Which → A → A → A
pick one p q = p
pick other p q = q

pick_map : {A B : Type 0} (h : A → B) (w : Which) (p q : A) → h (pick w p q) ≡ pick w (h p) (h q)
pick_map h one p q = refl
pick_map h other p q = refl

-- places with one cell have one interval
pick_agree : (p q : ℕ) → q ≢ p → (w v : Which) {I : Type 0} (P Q : I) → pick w p q ≡ pick v p q → pick w P Q ≡ pick v P Q
pick_agree p q n one one P Q e = refl
pick_agree p q n one other P Q e = absurd (n (sym e))
pick_agree p q n other one P Q e = absurd (n e)
pick_agree p q n other other P Q e = refl

-- ---- values of two cells: u at p, v at the others
two : ℕ → ℕ → ℕ → Values
two p u v j = cond (eqb j p) u v

two_at : (p q u v : ℕ) → q ≢ p → (w : Which) → two p u v (pick w p q) ≡ pick w u v
unfolding two
two_at p q u v n one = rw (eq-eqb p p refl)
two_at p q u v n other = rw (ne_eqb q p n)

-- ---- a record of kind k whose x, a and b have the cells p and q so
module _ (f e : ℕ) (c : Box) (r : Record) (k : Kind) (kind : kind_of r.kind ≡ k) (naming : named r ≡ r.x ∷ r.a ∷ r.b ∷ [])
    (names : Each (λ i. i < length c) (named r)) (p q : ℕ) (apart : q ≢ p) (wx wa wb : Which)
    (x_is : r.x ≡ pick wx p q) (a_is : r.a ≡ pick wa p q) (b_is : r.b ≡ pick wb p q)
    (both : (P : ℕ → Type 0) → P r.x → P r.a → P r.b → P p × P q) where
  -- the test on the values of both
  abbrev pair_test : ℕ → ℕ → Bool
  pair_test u v = fits_by f e k (pick wx u v) (pick wa u v) (pick wb u v)

  abbrev Both : ℕ → ℕ → Type 0
  Both u v = Pair pair_test (at c p) (at c q) u v

  -- what holds of both holds of each place
  each_place : (P : ℕ → Type 0) → P p → P q → (w : Which) {i : ℕ} → i ≡ pick w p q → P i
  each_place P m n one h = subst P (sym h) m
  each_place P m n other h = subst P (sym h) n

  each_named : (P : ℕ → Type 0) → P p → P q → Each P (named r)
  each_named P m n = subst (Each P) (sym naming) (each_place P m n wx x_is, (each_place P m n wa a_is, (each_place P m n wb b_is, tt)))

  named_both : (P : ℕ → Type 0) → Each P (named r) → P p × P q
  named_both P m = let n = subst (Each P) naming m in both P n.0 n.1.0 n.1.1.0

  -- the record's test is the test on both
  test_is : (v : Values) → fits f e r v ≡ pair_test (v p) (v q)
  test_is v =
      fits_as f e r k kind v
      ∙ (λ i. fits_by f e k (place_is wx x_is i) (place_is wa a_is i) (place_is wb b_is i))
    where
      place_is : (w : Which) {j : ℕ} → j ≡ pick w p q → v j ≡ pick w (v p) (v q)
      place_is w h = ap v h ∙ pick_map v w p q

  solution_to : (v : Values) → Solution (fits f e) c r v → Both (v p) (v q)
  solution_to v s =
      let i = named_both (λ j. In (at c j) (v j)) s.inside in
      record { p_in = i.0; q_in = i.1; passes = true_holds _ (sym (test_is v) ∙ s.fits) }

  solution_from : (v : Values) → Both (v p) (v q) → Solution (fits f e) c r v
  solution_from v s = record { inside = each_named (λ j. In (at c j) (v j)) s.p_in s.q_in; fits = test_is v ∙ holds_true _ s.passes }

  made : (u v : ℕ) → Both u v → Solution (fits f e) c r (two p u v)
  made u v s = solution_from (two p u v) (rw (two_at p q u v apart one, two_at p q u v apart other) s)

  module _ (P Q : Interval) (hull : PairHull pair_test (at c p) (at c q) P Q) where
    abbrev new : Box
    new = put c r (pick wx P Q) (pick wa P Q) (pick wb P Q)

    agree : Agree r (pick wx P Q) (pick wa P Q) (pick wb P Q)
    agree = record {
      a_x = λ h. pick_agree p q apart wa wx P Q (sym a_is ∙ h ∙ x_is);
      b_x = λ h. pick_agree p q apart wb wx P Q (sym b_is ∙ h ∙ x_is);
      b_a = λ h. pick_agree p q apart wb wa P Q (sym b_is ∙ h ∙ a_is);
    }

    spans_p : Spans (Has (fits f e) c r p) P
    spans_p =
        same_spans
        (λ y w. record { values = two p y w.q; is = two_at p q y w.q apart one; solution = made y w.q w.pair })
        (λ y w. record { q = w.values q; pair = subst (λ (z : ℕ). Both z (w.values q)) w.is (solution_to w.values w.solution) })
        P hull.firsts

    spans_q : Spans (Has (fits f e) c r q) Q
    spans_q =
        same_spans
        (λ y w. record { values = two p w.p y; is = two_at p q w.p y apart other; solution = made w.p y w.pair })
        (λ y w. record { p = w.values p; pair = subst (Both (w.values p)) w.is (solution_to w.values w.solution) })
        Q hull.seconds

    spans_at : (w : Which) {i : ℕ} → i ≡ pick w p q → Spans (Has (fits f e) c r i) (pick w P Q)
    spans_at one h = subst (λ (j : ℕ). Spans (Has (fits f e) c r j) P) (sym h) spans_p
    spans_at other h = subst (λ (j : ℕ). Spans (Has (fits f e) c r j) Q) (sym h) spans_q

    leaves : Left (fits f e) c r new
    leaves =
        let m = subst (Each (λ i. i < length c)) naming names in
        let X = pick wx P Q in
        let A = pick wa P Q in
        let B = pick wb P Q in
        record {
          cells = simp length-set;
          spans = subst (Each (λ i. Spans (Has (fits f e) c r i) (at new i))) (sym naming) (
            subst (Spans (Has (fits f e) c r r.x)) (sym (put_x c r m.0 X A B)) (spans_at wx x_is),
            (
              subst (Spans (Has (fits f e) c r r.a)) (sym (put_a c r m.1.0 X A B agree)) (spans_at wa a_is),
              (subst (Spans (Has (fits f e) c r r.b)) (sym (put_b c r m.1.1.0 X A B agree)) (spans_at wb b_is), tt),
            ),
          );
          others = λ j h. let n = subst (Each (λ i. j ≢ i)) naming h in put_other c r X A B j n.0 n.1.0 n.1.1.0;
        }

  -- the step that a narrowing of both tells
  abbrev step_of_pair : Pairing → Step
  step_of_pair none = unsolved
  step_of_pair (ends P Q) = left (put c r (pick wx P Q) (pick wa P Q) (pick wb P Q))

  pub pair_step : (n : Pairing) → pairing pair_test (at c p) (at c q) ≡ n → step (fits f e) c r ≡ step_of_pair n
  pair_step none h = sym (step_unique (fits f e) (fits_local f e) c r names unsolved (λ v s. pairing_none pair_test (at c p) (at c q) h _ _ (solution_to v s)))
  pair_step (ends P Q) h = sym (step_unique (fits f e) (fits_local f e) c r names (left _) (leaves P Q (pairing_hull pair_test (at c p) (at c q) P Q h)))

-- ---- a record over one cell that only the value z fits
module _ (f e : ℕ) (c : Box) (r : Record) (p z : ℕ) (names : Each (λ i. i < length c) (named r))
    (each : (P : ℕ → Type 0) → P p → Each P (named r)) (first : (P : ℕ → Type 0) → Each P (named r) → P p)
    (to : (v : Values) → In (at c p) (v p) → fits f e r v ≡ true → v p ≡ z) (from : fits f e r (λ _. z) ≡ true) where
  abbrev Z : Interval
  Z = record { low = z; high = z }

  value : (v : Values) → Solution (fits f e) c r v → v p ≡ z
  value v s = to v (first (λ i. In (at c i) (v i)) s.inside) s.fits

  has : In (at c p) z → Has (fits f e) c r p z
  has i = record { values = λ _. z; is = refl; solution = record { inside = each (λ j. In (at c j) z) i; fits = from } }

  spans : In (at c p) z → Spans (Has (fits f e) c r p) Z
  spans i = record {
    low = has i;
    high = has i;
    all = λ y w. let h = sym w.is ∙ value w.values w.solution in record { low = omega arith; high = omega arith };
  }

  pub one_step : In (at c p) z → (new : Box) → length new ≡ length c → at new p ≡ Z → ((j : ℕ) → j ≢ p → at new j ≡ at c j) → step (fits f e) c r ≡ left new
  one_step i new l g rest =
      sym
      (step_unique (fits f e) (fits_local f e) c r names (left new)
      (record {
        cells = l;
        spans = each (λ j. Spans (Has (fits f e) c r j) (at new j)) (subst (Spans (Has (fits f e) c r p)) (sym g) (spans i));
        others = λ j m. rest j (first (λ i. j ≢ i) m);
      }))

  pub one_none : (In (at c p) z → ⊥) → step (fits f e) c r ≡ unsolved
  one_none n =
      sym
      (step_unique (fits f e) (fits_local f e) c r names unsolved
      (λ v s. n (subst (In (at c p)) (value v s) (first (λ i. In (at c i) (v i)) s.inside))))
