-- A step on cells of a record with one cell in two places or in all: what the code answers is the step on the box. Rests on ladder proofs/Alike and Differences.
use mathlib.Core.Path.{◌≡◌, refl, sym, ap, ap₂, subst, ◌∙◌}
use mathlib.Core.Logic.{◌≢◌}
use mathlib.Core.Bool.{Bool, true, false, cond}
use mathlib.Core.List.{List, [], ◌∷◌}
use Prim.Native.Nat.{ℕ, ◌<◌, ◌≤◌}
use native.Mathlib.Nat.{le_refl}
use native.Mathlib.Omega.{arith}
use native.Mathlib.Decide.{ℕ_discrete}
use lib.Dec.{leb}
use lib.ListN.{length, set, length-set}
use lib.Seq.{set-get_or, get_or-set_same, get_or-set_other}
use borrow.Author.Tests.{leb-true, leb-false, eq-eqb, ne_eqb, eqb-true, le-ltb}
use Rattle.ladder.specs.Ordinal as O
use Rattle.ladder.specs.Ordinal.{mirrored}
use Rattle.ladder.specs.Solution as L
use Rattle.ladder.specs.Solution.{In}
use Rattle.ladder.specs.Search.{reflection}
use Rattle.ladder.specs.Pairing.{Pairing, none, ends, pairing, doubles, absorbs}
use Rattle.ladder.proofs.Reflection.{in_twice}
use Rattle.ladder.proofs.Solutions.{finite_in, mirror_bounded}
use Rattle.ladder.proofs.Pairing.{pairing_hull, pair_within}
use Rattle.ladder.proofs.Hull.{within_bounded}
use Rattle.ladder.proofs.Differences.{opposed_none, opposed_ends}
use Rattle.ladder.proofs.Alike.{double_self, difference_self, absorbs_other, difference_pairing, zero_none, zero_ends}
use Rattle.arith.specs.declared.interval.Interval.{Interval}
use Rattle.arith.specs.declared.refusal.Refusal.{Refusal}
use Rattle.arith.specs.declared.repeated.Paired.{Paired}
use Rattle.arith.specs.Formats.{format_of}
use Rattle.arith.specs.Intervals.{mirrored_ends, cut_of, span}
use Rattle.arith.specs.Repeats as R
use Rattle.arith.specs.Repeats.{doubling, absorbing, pair_of}
use Rattle.arith.proofs.Valid.{written_span, shared, valid_pair}
use Rattle.sheet.specs.Members.{Each}
use Rattle.sheet.specs.declared.kind.Kind.{Kind}
use Rattle.sheet.specs.declared.kind.Kind.TheVariants.{Sum, Diff, Neg}
use Rattle.sheet.specs.Kinds.{kind_of}
use Rattle.sheet.specs.Records.{named_by, named, Values, fits_by, fits}
use Rattle.sheet.specs.Cells.{patterns_of}
use Rattle.sheet.specs.Sheets.{no_cell}
use Rattle.sheet.specs.Boxes.{Box, Proper}
use Rattle.sheet.proofs.Members.{each_map}
use Rattle.sheet.proofs.Records.{first_in}
use Rattle.propagation.specs.declared.step.Alike.{Alike}
use Rattle.propagation.specs.declared.step.Alike.TheVariants.{XA, XB, AB, All}
use Rattle.std.specs.Prelude.{Option, Some, None, Result, Ok}
use Rattle.propagation.specs.RecordSteps.{zero_by, zero_answer, turn_other, two_answer, pair_in_roles, both_by, alike_of}
use Rattle.propagation.specs.Runs.{Step, unsolved, left, step}
use Rattle.propagation.proofs.Fitting.{fits_as}
use Rattle.propagation.proofs.Mirroring.{mirror_proper, mirror_written, cut_written}
use Rattle.propagation.proofs.KindSteps.{put, put_x, put_other}
use Rattle.propagation.proofs.PairSteps.{one, other, pair_step, one_step, one_none}
use Rattle.propagation.proofs.Places.{bounded}
use Rattle.propagation.proofs.Settings.{Setting, f, e, X, A, B, x_proper, a_proper, b_proper, in_box, cells, x_cell, a_cell, b_cell, x_is, a_is, b_is, valid, MadeBy, pair_places, put_places}

-- ---- which of three numbers are one
pub data AlikeIn (x a b : ℕ) : Alike → Type 0 where
  x_a : a ≡ x → b ≢ x → AlikeIn x a b XA
  x_b : b ≡ x → a ≢ x → AlikeIn x a b XB
  a_b : b ≡ a → a ≢ x → AlikeIn x a b AB
  all : a ≡ x → b ≡ x → AlikeIn x a b All

pub data CellsAre (x a b : ℕ) : Option Alike → Type 0 where
  apart : a ≢ x → b ≢ x → b ≢ a → CellsAre x a b None
  twice : {w : Alike} → AlikeIn x a b w → CellsAre x a b (Some w)

pub cells_are : (x a b : ℕ) → CellsAre x a b (alike_of x a b)
cells_are x a b = go (ℕ_discrete x a) (ℕ_discrete x b) (ℕ_discrete a b)
  where
    go : Dec (x ≡ a) → Dec (x ≡ b) → Dec (a ≡ b) → CellsAre x a b (alike_of x a b)
    go (yes p) (yes q) s = rw (eq-eqb x a p, eq-eqb x b q) (twice (all (sym p) (sym q)))
    go (yes p) (no q) s = rw (eq-eqb x a p, ne_eqb x b q) (twice (x_a (sym p) (λ h. q (sym h))))
    go (no p) (yes q) s = rw (ne_eqb x a p, eq-eqb x b q) (twice (x_b (sym q) (λ h. p (sym h))))
    go (no p) (no q) (yes s) = rw (ne_eqb x a p, ne_eqb x b q, eq-eqb a b s) (twice (a_b (sym s) (λ h. p (sym h))))
    go (no p) (no q) (no s) = rw (ne_eqb x a p, ne_eqb x b q, ne_eqb a b s) (apart (λ h. p (sym h)) (λ h. q (sym h)) (λ h. s (sym h)))

module _ (g : Setting) where
  abbrev zero : ℕ
  zero = O.sign (f g) (e g)

  some : 1 ≤ f g
  some = (format_of g.width).sound.some

  names : Each (λ i. i < length g.box) (named g.r)
  names = each_map (λ i. i < g.n) (λ i. i < length g.box) (named g.r) (λ i l. in_box g l) g.names.cells

  -- ---- the narrowing of two intervals in patterns
  pair_is :
      (t : ℕ → ℕ → ℕ → ℕ → Bool) (I J : L.Interval) → Proper (f g) (e g) I → Proper (f g) (e g) J →
      pair_of (λ F P Q. pairing (t F.fraction F.exponent) (span P) (span Q)) g.width (patterns_of g.width I) (patterns_of g.width J)
      ≡ R.pair_answer (format_of g.width) (pairing (t (f g) (e g)) I J)
  pair_is t I J p q =
      valid_pair (λ F P Q. pairing (t F.fraction F.exponent) (span P) (span Q)) g.width (patterns_of g.width I) (patterns_of g.width J) (valid g I p) (valid g J q)
      ∙ rw (written_span g.width I (bounded p), written_span g.width J (bounded q))

  -- the step that it tells, with its two intervals in the record's cells
  abbrev step_with : (L.Interval → L.Interval → Box) → Pairing → Step
  step_with write none = unsolved
  step_with write (ends P Q) = left (write P Q)

  -- ---- zero alone
  abbrev Z : L.Interval
  Z = record { low = zero; high = zero }

  zero_finite : O.Finite (f g) (e g) zero
  zero_finite = let p = (x_proper g).low in record { low = omega (arith, p.low, p.high); high = omega (arith, p.low, p.high) }

  zero_written : patterns_of g.width Z ≡ no_cell
  unfolding O.pattern
  zero_written =
      let z : O.pattern (f g) (e g) zero ≡ 0 = rw (le-ltb zero zero (le_refl zero)) (omega arith) in
      λ i. record { low = z i; high = z i }

  data ZeroCut (I : L.Interval) : Result (Option Interval) Refusal → Type 0 where
    there : In I zero → ZeroCut I (Ok (Some no_cell))
    not_there : (In I zero → ⊥) → ZeroCut I (Ok None)

  zero_cut : (I : L.Interval) → Proper (f g) (e g) I → ZeroCut I (cut_of g.width (patterns_of g.width I) no_cell)
  zero_cut I p =
      subst (ZeroCut I)
      (sym
      (ap (cut_of g.width (patterns_of g.width I)) (sym zero_written)
      ∙ cut_written g.width g.known I Z p (record { low = zero_finite; high = zero_finite; order = le_refl zero })))
      (go (leb (shared I Z).low (shared I Z).high) refl)
    where
      go : (t : Bool) → leb (shared I Z).low (shared I Z).high ≡ t → ZeroCut I (Ok (cond t (Some (patterns_of g.width (shared I Z))) None))
      go true h =
          let o = leb-true (shared I Z).low (shared I Z).high h in
          let l : (shared I Z).low ≡ zero = omega arith in
          let u : (shared I Z).high ≡ zero = omega arith in
          let same : shared I Z ≡ Z = (λ i. record { low = l i; high = u i }) in
          subst (λ (J : Interval). ZeroCut I (Ok (Some J))) (sym (ap (patterns_of g.width) same ∙ zero_written)) (there (record { low = omega arith; high = omega arith }))
      go false h = let o = leb-false (shared I Z).low (shared I Z).high h in not_there (λ (i : In I zero). omega (arith, o, i.low, i.high))

  -- ---- a sum or a diff, whose numbers name all three
  module _ (k : Kind) (kind : kind_of g.r.kind ≡ k) (naming : named g.r ≡ g.r.x ∷ g.r.a ∷ g.r.b ∷ []) where
    -- x and a are one
    module _ (same : g.r.a ≡ g.r.x) (differ : g.r.b ≢ g.r.x) where
      abbrev test_xa : ℕ → ℕ → Bool
      test_xa u v = fits_by (f g) (e g) k u u v

      step_xa : (n : Pairing) → pairing test_xa (X g) (B g) ≡ n → step (fits (f g) (e g)) g.box g.r ≡ step_with (λ P Q. put g.box g.r P P Q) n
      step_xa none = pair_step (f g) (e g) g.box g.r k kind naming names g.r.x g.r.b differ one one other refl same refl (λ P x a b. (x, b)) none
      step_xa (ends P Q) = pair_step (f g) (e g) g.box g.r k kind naming names g.r.x g.r.b differ one one other refl same refl (λ P x a b. (x, b)) (ends P Q)

      made_xa : (n : Pairing) → pairing test_xa (X g) (B g) ≡ n → MadeBy g (pair_in_roles XA (R.pair_answer (format_of g.width) n))
      made_xa none h = step_xa none h
      made_xa (ends P Q) h = (put g.box g.r P P Q, step_xa (ends P Q) h, put_places g P P Q)

    -- x and b are one
    module _ (same : g.r.b ≡ g.r.x) (differ : g.r.a ≢ g.r.x) where
      abbrev test_xb : ℕ → ℕ → Bool
      test_xb u v = fits_by (f g) (e g) k u v u

      step_xb : (n : Pairing) → pairing test_xb (X g) (A g) ≡ n → step (fits (f g) (e g)) g.box g.r ≡ step_with (λ P Q. put g.box g.r P Q P) n
      step_xb none = pair_step (f g) (e g) g.box g.r k kind naming names g.r.x g.r.a differ one other one refl refl same (λ P x a b. (x, a)) none
      step_xb (ends P Q) = pair_step (f g) (e g) g.box g.r k kind naming names g.r.x g.r.a differ one other one refl refl same (λ P x a b. (x, a)) (ends P Q)

    -- a and b are one
    module _ (same : g.r.b ≡ g.r.a) (differ : g.r.a ≢ g.r.x) where
      abbrev test_ab : ℕ → ℕ → Bool
      test_ab u v = fits_by (f g) (e g) k v u u

      step_ab : (n : Pairing) → pairing test_ab (A g) (X g) ≡ n → step (fits (f g) (e g)) g.box g.r ≡ step_with (λ P Q. put g.box g.r Q P P) n
      step_ab none = pair_step (f g) (e g) g.box g.r k kind naming names g.r.a g.r.x (λ q. differ (sym q)) other one one refl refl same (λ P x a b. (a, x)) none
      step_ab (ends P Q) = pair_step (f g) (e g) g.box g.r k kind naming names g.r.a g.r.x (λ q. differ (sym q)) other one one refl refl same (λ P x a b. (a, x)) (ends P Q)

      made_ab : (n : Pairing) → pairing test_ab (A g) (X g) ≡ n → MadeBy g (pair_in_roles AB (R.pair_answer (format_of g.width) n))
      made_ab none h = step_ab none h
      made_ab (ends P Q) h = (put g.box g.r Q P P, step_ab (ends P Q) h, put_places g Q P P)

    -- all three are one, which only zero fits
    module _ (a_x : g.r.a ≡ g.r.x) (b_x : g.r.b ≡ g.r.x)
        (to : (u : ℕ) → O.Finite (f g) (e g) u → fits_by (f g) (e g) k u u u ≡ true → u ≡ zero) (from : fits_by (f g) (e g) k zero zero zero ≡ true) where
      each : (P : ℕ → Type 0) → P g.r.x → Each P (named g.r)
      each P m = subst (Each P) (sym naming) (m, (subst P (sym a_x) m, (subst P (sym b_x) m, tt)))

      first : (P : ℕ → Type 0) → Each P (named g.r) → P g.r.x
      first P m = (subst (Each P) naming m).0

      value : (v : Values) → In (X g) (v g.r.x) → fits (f g) (e g) g.r v ≡ true → v g.r.x ≡ zero
      value v i h =
          to (v g.r.x) (finite_in (f g) (e g) (X g) (bounded (x_proper g)) (v g.r.x) i)
          (ap₂ (fits_by (f g) (e g) k (v g.r.x)) (ap v (sym a_x)) (ap v (sym b_x)) ∙ sym (fits_as (f g) (e g) g.r k kind v) ∙ h)

      made_all : (t : Result (Option Interval) Refusal) → ZeroCut (X g) t → MadeBy g (pair_in_roles All (zero_by (x_cell g) t))
      made_all t (there i) = (
        put g.box g.r Z Z Z,
        one_step (f g) (e g) g.box g.r g.r.x zero names each first value (fits_as (f g) (e g) g.r k kind (λ _. zero) ∙ from) i
            (put g.box g.r Z Z Z) (simp length-set) (put_x g.box g.r (in_box g (first_in g.n g.r g.names)) Z Z Z)
            (λ j n. put_other g.box g.r Z Z Z j n (λ h. n (h ∙ a_x)) (λ h. n (h ∙ b_x))),
        ap (λ (c : Interval). put (cells g) g.r c c c) (sym zero_written) ∙ put_places g Z Z Z,
      )
      made_all t (not_there n) = one_none (f g) (e g) g.box g.r g.r.x zero names each first value (fits_as (f g) (e g) g.r k kind (λ _. zero) ∙ from) n

  -- ---- by kind
  sum_named : kind_of g.r.kind ≡ Sum → named g.r ≡ g.r.x ∷ g.r.a ∷ g.r.b ∷ []
  sum_named k = ap (λ (l : Kind). named_by l g.r) k

  diff_named : kind_of g.r.kind ≡ Diff → named g.r ≡ g.r.x ∷ g.r.a ∷ g.r.b ∷ []
  diff_named k = ap (λ (l : Kind). named_by l g.r) k

  -- x ⊕ a = x: as it is
  by_rest : (k : kind_of g.r.kind ≡ Sum) → g.r.b ≡ g.r.x → g.r.a ≢ g.r.x → (n : Pairing) → pairing (absorbs (f g) (e g)) (X g) (A g) ≡ n →
      MadeBy g (pair_in_roles XB (turn_other g.width Sum (R.pair_answer (format_of g.width) n)))
  by_rest k p q none h = step_xb Sum k (sum_named k) p q none h
  by_rest k p q (ends P Q) h = (put g.box g.r P Q P, step_xb Sum k (sum_named k) p q (ends P Q) h, put_places g P Q P)

  pub sum_repeated : kind_of g.r.kind ≡ Sum → (w : Alike) → AlikeIn g.r.x g.r.a g.r.b w → MadeBy g (pair_in_roles w (two_answer g.width Sum w (x_cell g) (a_cell g) (b_cell g)))
  sum_repeated k XA (x_a p q) =
      subst (λ (t : Result Paired Refusal). MadeBy g (pair_in_roles XA t))
      (sym ((λ i. pair_of doubling g.width (x_is g i) (b_is g i)) ∙ pair_is doubles (X g) (B g) (x_proper g) (b_proper g)))
      (made_xa Sum k (sum_named k) p q (pairing (doubles (f g) (e g)) (X g) (B g)) refl)
  sum_repeated k XB (x_b p q) =
      subst (λ (t : Result Paired Refusal). MadeBy g (pair_in_roles XB (turn_other g.width Sum t)))
      (sym ((λ i. pair_of absorbing g.width (x_is g i) (a_is g i)) ∙ pair_is absorbs (X g) (A g) (x_proper g) (a_proper g)))
      (by_rest k p q (pairing (absorbs (f g) (e g)) (X g) (A g)) refl)
  sum_repeated k AB (a_b p q) =
      subst (λ (t : Result Paired Refusal). MadeBy g (pair_in_roles AB t))
      (sym ((λ i. pair_of absorbing g.width (a_is g i) (x_is g i)) ∙ pair_is absorbs (A g) (X g) (a_proper g) (x_proper g)))
      (made_ab Sum k (sum_named k) p q (pairing (absorbs (f g) (e g)) (A g) (X g)) (absorbs_other (f g) (e g) some (A g) (X g)))
  sum_repeated k All (all p q) =
      made_all Sum k (sum_named k) p q
      (λ u n h. (double_self (f g) (e g) some u n).0 (eqb-true _ _ h)) (eq-eqb _ _ ((double_self (f g) (e g) some zero zero_finite).1 refl))
      (cut_of g.width (x_cell g) no_cell) (subst (λ (I : Interval). ZeroCut (X g) (cut_of g.width I no_cell)) (sym (x_is g)) (zero_cut (X g) (x_proper g)))

  -- x ⊖ x = b: b is zero
  by_zero : (k : kind_of g.r.kind ≡ Diff) → g.r.a ≡ g.r.x → g.r.b ≢ g.r.x → (t : Result (Option Interval) Refusal) → ZeroCut (B g) t → MadeBy g (pair_in_roles XA (zero_by (x_cell g) t))
  by_zero k p q t (there i) = (
    put g.box g.r (X g) (X g) Z,
    step_xa Diff k (diff_named k) p q (ends (X g) Z) (zero_ends (f g) (e g) some (X g) (B g) (bounded (x_proper g)) (x_proper g).order i),
    ap₂ (λ (I J : Interval). put (cells g) g.r I I J) (x_is g) (sym zero_written) ∙ put_places g (X g) (X g) Z,
  )
  by_zero k p q t (not_there n) = step_xa Diff k (diff_named k) p q none (zero_none (f g) (e g) some (X g) (B g) (bounded (x_proper g)) n)

  -- x ⊖ a = x: with the mirror of a
  by_mirrored : (k : kind_of g.r.kind ≡ Diff) → g.r.b ≡ g.r.x → g.r.a ≢ g.r.x → (n : Pairing) → pairing (absorbs (f g) (e g)) (X g) (reflection (f g) (e g) (A g)) ≡ n →
      MadeBy g (pair_in_roles XB (turn_other g.width Diff (R.pair_answer (format_of g.width) n)))
  by_mirrored k p q none h = step_xb Diff k (diff_named k) p q none (opposed_none (f g) (e g) (absorbs (f g) (e g)) (X g) (A g) (bounded (a_proper g)) h)
  by_mirrored k p q (ends P Q) h =
      let M = reflection (f g) (e g) (A g) in
      let w = (pair_within (absorbs (f g) (e g)) (X g) M P Q (pairing_hull (absorbs (f g) (e g)) (X g) M P Q h)).1 in
      let b = within_bounded (mirror_bounded (f g) (e g) (A g) (bounded (a_proper g))) w in
      let m : Proper (f g) (e g) Q = record { low = b.low; high = b.high; order = w.order } in (
        put g.box g.r P (reflection (f g) (e g) Q) P,
        step_xb Diff k (diff_named k) p q (ends P (reflection (f g) (e g) Q)) (opposed_ends (f g) (e g) (absorbs (f g) (e g)) (X g) (A g) (bounded (a_proper g)) P Q h),
        ap (λ (I : Interval). put (cells g) g.r (patterns_of g.width P) I (patterns_of g.width P)) (mirror_written g.width g.known Q m)
            ∙ put_places g P (reflection (f g) (e g) Q) P,
      )

  pub diff_repeated : kind_of g.r.kind ≡ Diff → (w : Alike) → AlikeIn g.r.x g.r.a g.r.b w → MadeBy g (pair_in_roles w (two_answer g.width Diff w (x_cell g) (a_cell g) (b_cell g)))
  diff_repeated k XA (x_a p q) =
      by_zero k p q (cut_of g.width (b_cell g) no_cell) (subst (λ (I : Interval). ZeroCut (B g) (cut_of g.width I no_cell)) (sym (b_is g)) (zero_cut (B g) (b_proper g)))
  diff_repeated k XB (x_b p q) =
      let m = ap (mirrored_ends (format_of g.width)) (a_is g) ∙ mirror_written g.width g.known (A g) (a_proper g) in
      subst (λ (t : Result Paired Refusal). MadeBy g (pair_in_roles XB (turn_other g.width Diff t)))
      (sym ((λ i. pair_of absorbing g.width (x_is g i) (m i)) ∙ pair_is absorbs (X g) (reflection (f g) (e g) (A g)) (x_proper g) (mirror_proper (f g) (e g) (A g) (a_proper g))))
      (by_mirrored k p q (pairing (absorbs (f g) (e g)) (X g) (reflection (f g) (e g) (A g))) refl)
  diff_repeated k AB (a_b p q) =
      subst (λ (t : Result Paired Refusal). MadeBy g (pair_in_roles AB t))
      (sym ((λ i. pair_of doubling g.width (a_is g i) (x_is g i)) ∙ pair_is doubles (A g) (X g) (a_proper g) (x_proper g)))
      (made_ab Diff k (diff_named k) p q (pairing (doubles (f g) (e g)) (A g) (X g)) (difference_pairing (f g) (e g) some (A g) (X g) (bounded (a_proper g)) (bounded (x_proper g))))
  diff_repeated k All (all p q) =
      made_all Diff k (diff_named k) p q
      (λ u n h. sym (eqb-true _ _ h) ∙ difference_self (f g) (e g) some u n) (eq-eqb _ _ (difference_self (f g) (e g) some zero zero_finite))
      (cut_of g.width (x_cell g) no_cell) (subst (λ (I : Interval). ZeroCut (X g) (cut_of g.width I no_cell)) (sym (x_is g)) (zero_cut (X g) (x_proper g)))

  -- ---- a neg over one cell: the third cell is written back as it came
  module _ (k : kind_of g.r.kind ≡ Neg) (same : g.r.a ≡ g.r.x) where
    neg_named : named g.r ≡ g.r.x ∷ g.r.a ∷ []
    neg_named = ap (λ (l : Kind). named_by l g.r) k

    neg_each : (P : ℕ → Type 0) → P g.r.x → Each P (named g.r)
    neg_each P m = subst (Each P) (sym neg_named) (m, (subst P (sym same) m, tt))

    neg_first : (P : ℕ → Type 0) → Each P (named g.r) → P g.r.x
    neg_first P m = (subst (Each P) neg_named m).0

    neg_value : (v : Values) → In (X g) (v g.r.x) → fits (f g) (e g) g.r v ≡ true → v g.r.x ≡ zero
    neg_value v i h =
        let m : v g.r.a ≡ mirrored (f g) (e g) (v g.r.x) = eqb-true _ _ (sym (fits_as (f g) (e g) g.r Neg k v) ∙ h) in
        omega (arith, ap v same, m, in_twice (f g) (e g) (X g) (bounded (x_proper g)) (v g.r.x) i)

    neg_fits : fits (f g) (e g) g.r (λ _. zero) ≡ true
    neg_fits =
        let m : zero ≡ mirrored (f g) (e g) zero = omega arith in
        fits_as (f g) (e g) g.r Neg k (λ _. zero) ∙ eq-eqb _ _ m

    by_both : (t : Result (Option Interval) Refusal) → ZeroCut (X g) t → MadeBy g (both_by (b_cell g) (zero_by (x_cell g) t))
    by_both t (there i) =
        let new = set (set g.box g.r.a Z) g.r.x Z in (
          new,
          one_step (f g) (e g) g.box g.r g.r.x zero names neg_each neg_first neg_value neg_fits i new (simp length-set)
              (get_or-set_same (set g.box g.r.a Z) g.r.x Z _ (simp length-set (in_box g (first_in g.n g.r g.names))))
              (λ j n. get_or-set_other (set g.box g.r.a Z) g.r.x j Z _ n ∙ get_or-set_other g.box g.r.a j Z _ (λ h. n (h ∙ same))),
          ap (λ (l : List Interval). set (set l g.r.a no_cell) g.r.x no_cell) (set-get_or (cells g) g.r.b no_cell)
              ∙ ap (λ (I : Interval). set (set (cells g) g.r.a I) g.r.x I) (sym zero_written)
              ∙ pair_places g g.box g.is.cells Z Z,
        )
    by_both t (not_there n) = one_none (f g) (e g) g.box g.r g.r.x zero names neg_each neg_first neg_value neg_fits n

    pub neg_repeated : MadeBy g (both_by (b_cell g) (zero_answer g.width (x_cell g) (x_cell g)))
    neg_repeated = by_both (cut_of g.width (x_cell g) no_cell) (subst (λ (I : Interval). ZeroCut (X g) (cut_of g.width I no_cell)) (sym (x_is g)) (zero_cut (X g) (x_proper g)))
