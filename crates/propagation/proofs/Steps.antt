-- A step and a comparison on cells are those on the boxes that they stand for. Assumes nothing.
use mathlib.Core.Path.{◌≡◌, refl, sym, ap, subst, ◌∙◌}
use mathlib.Core.Logic.{◌≢◌}
use mathlib.Core.Bool.{Bool, true, false, cond}
use mathlib.Core.List.{List}
use Prim.Native.Nat.{ℕ, ◌≤◌}
use native.Mathlib.Omega.{arith}
use native.Mathlib.Decide.{ℕ_discrete}
use lib.Dec.{leb, eqb}
use lib.ListN.{get_or, take, set}
use lib.Seq.{set-get_or}
use borrow.Author.Tests.{leb-true, leb-false, eq-eqb, ne_eqb}
use Rattle.ladder.specs.Solution as L
use Rattle.ladder.specs.Search.{reflection}
use Rattle.ladder.specs.Narrowing.{Narrowing, none, ends, narrowing}
use Rattle.ladder.proofs.Hull.{narrowing_hull, hull_bounded, hull_a}
use Rattle.ladder.proofs.Solutions.{mirror_bounded}
use Rattle.arith.specs.declared.interval.Interval.{Interval}
use Rattle.arith.specs.declared.refusal.Refusal.{Refusal}
use Rattle.arith.specs.declared.narrow.Narrowed.{Narrowed}
use Rattle.arith.specs.Formats.{is_known, format_of}
use Rattle.arith.specs.Intervals.{mirrored_ends, cut_of}
use Rattle.arith.specs.Narrows.{narrow_answer, narrow_of}
use Rattle.arith.proofs.Valid.{written_span, shared, valid_narrow}
use Rattle.sheet.specs.declared.kept.Record.{Record}
use Rattle.sheet.specs.declared.kind.Kind.{Kind}
use Rattle.sheet.specs.declared.kind.Kind.TheVariants.{Sum, Diff, Neg}
use Rattle.sheet.specs.Kinds.{kind_of}
use Rattle.sheet.specs.Records.{Names}
use Rattle.sheet.specs.Cells.{fraction_of, exponent_of, rules_of, patterns_of, box_of}
use Rattle.sheet.specs.Sheets.{no_cell, places}
use Rattle.sheet.specs.Boxes.{Proper}
use Rattle.propagation.specs.declared.step.Alike.{Alike}
use Rattle.std.specs.Prelude.{Option, Some, None, Result, Ok, Err}
use Rattle.propagation.specs.Runs.{unsolved, left, step, same_box}
use Rattle.propagation.specs.RecordSteps.{turn_second, mirror_by, mirror_answer, neg_answer, answer_by, kind_answer, record_answer}
use Rattle.propagation.specs.Loops.{box_in, Shows, Compares}
use Rattle.propagation.proofs.Boxes.{equal_same, unequal_same}
use Rattle.propagation.proofs.Shrinking.{shrunk_box, step_shrunk}
use Rattle.propagation.proofs.Mirroring.{mirror_proper, mirror_written, cut_written}
use Rattle.propagation.proofs.KindSteps.{Three, put, sum_step, diff_step, Two, neg_solved, neg_unsolved}
use Rattle.propagation.proofs.Places.{bounded, box_found, places_show}
use Rattle.propagation.proofs.Settings.{Setting, f, e, X, A, B, x_proper, a_proper, b_proper, in_box, cells, x_cell, a_cell, b_cell, x_is, a_is, b_is, valid, MadeBy, pair_places, put_places}
use Rattle.propagation.proofs.RepeatSteps.{CellsAre, apart, twice, cells_are, sum_repeated, diff_repeated, neg_repeated}
use Rattle.sheet.proofs.Records.{first_in, second_in, third_in}

module _ (g : Setting) where
  -- the narrowing of intervals in patterns
  narrowed_is :
      (I J K : L.Interval) → Proper (f g) (e g) I → Proper (f g) (e g) J → Proper (f g) (e g) K →
      narrow_of g.width (patterns_of g.width I) (patterns_of g.width J) (patterns_of g.width K) ≡ narrow_answer (format_of g.width) (narrowing (f g) (e g) I J K)
  narrowed_is I J K x a b =
      valid_narrow g.width (patterns_of g.width I) (patterns_of g.width J) (patterns_of g.width K) (valid g I x) (valid g J a) (valid g K b)
      ∙ rw (written_span g.width I (bounded x), written_span g.width J (bounded a), written_span g.width K (bounded b))

  -- ---- a sum and a diff over three cells
  module _ (three : Three g.box g.r) where
    by_sum : kind_of g.r.kind ≡ Sum → (t : Narrowing) → narrowing (f g) (e g) (X g) (A g) (B g) ≡ t → MadeBy g (turn_second g.width Sum (narrow_answer (format_of g.width) t))
    by_sum k none h = sum_step (f g) (e g) g.box g.r k three none h
    by_sum k (ends X' A' B') h = (put g.box g.r X' A' B', sum_step (f g) (e g) g.box g.r k three (ends X' A' B') h, put_places g X' A' B')

    by_diff :
        kind_of g.r.kind ≡ Diff → (t : Narrowing) → narrowing (f g) (e g) (X g) (reflection (f g) (e g) (A g)) (B g) ≡ t →
        MadeBy g (turn_second g.width Diff (narrow_answer (format_of g.width) t))
    by_diff k none h = diff_step (f g) (e g) g.box g.r k three (bounded (a_proper g)) none h
    by_diff k (ends X' A' B') h =
        let M = reflection (f g) (e g) (A g) in
        let H = narrowing_hull (f g) (e g) (X g) M (B g) X' A' B' h in
        let b = (hull_bounded (f g) (e g) (X g) M (B g) X' A' B' H (bounded (x_proper g)) (mirror_bounded (f g) (e g) (A g) (bounded (a_proper g))) (bounded (b_proper g))).1 in
        let p : Proper (f g) (e g) A' = record { low = b.low; high = b.high; order = (hull_a (f g) (e g) (X g) M (B g) X' A' B' H).order } in (
          put g.box g.r X' (reflection (f g) (e g) A') B',
          diff_step (f g) (e g) g.box g.r k three (bounded (a_proper g)) (ends X' A' B') h,
          ap (λ (I : Interval). put (cells g) g.r (patterns_of g.width X') I (patterns_of g.width B')) (mirror_written g.width g.known A' p)
              ∙ put_places g X' (reflection (f g) (e g) A') B',
        )

    sum_made : kind_of g.r.kind ≡ Sum → MadeBy g (turn_second g.width Sum (narrow_of g.width (x_cell g) (a_cell g) (b_cell g)))
    sum_made k =
        subst (λ (t : Result Narrowed Refusal). MadeBy g (turn_second g.width Sum t))
        (sym ((λ i. narrow_of g.width (x_is g i) (a_is g i) (b_is g i)) ∙ narrowed_is (X g) (A g) (B g) (x_proper g) (a_proper g) (b_proper g)))
        (by_sum k (narrowing (f g) (e g) (X g) (A g) (B g)) refl)

    diff_made : kind_of g.r.kind ≡ Diff → MadeBy g (turn_second g.width Diff (narrow_of g.width (x_cell g) (mirrored_ends (format_of g.width) (a_cell g)) (b_cell g)))
    diff_made k =
        let m = ap (mirrored_ends (format_of g.width)) (a_is g) ∙ mirror_written g.width g.known (A g) (a_proper g) in
        subst (λ (t : Result Narrowed Refusal). MadeBy g (turn_second g.width Diff t))
        (sym ((λ i. narrow_of g.width (x_is g i) (m i) (b_is g i)) ∙ narrowed_is (X g) (reflection (f g) (e g) (A g)) (B g) (x_proper g) (mirror_proper (f g) (e g) (A g) (a_proper g)) (b_proper g)))
        (by_diff k (narrowing (f g) (e g) (X g) (reflection (f g) (e g) (A g)) (B g)) refl)

  -- ---- a neg over two cells: the third cell is written back as it came
  module _ (k : kind_of g.r.kind ≡ Neg) (two : Two g.box g.r) where
    abbrev S : L.Interval
    S = shared (X g) (reflection (f g) (e g) (A g))

    s_proper : S.low ≤ S.high → Proper (f g) (e g) S
    s_proper o =
        let p = x_proper g in
        record {
          low = record { low = omega (arith, p.low.low); high = omega (arith, p.high.high, o) };
          high = record { low = omega (arith, p.low.low, o); high = omega (arith, p.high.high) };
          order = o;
        }

    by_mirror : (t : Bool) → leb S.low S.high ≡ t → MadeBy g (mirror_by g.width (b_cell g) (Ok (cond t (Some (patterns_of g.width S)) None)))
    by_mirror true o = (
      set (set g.box g.r.a (reflection (f g) (e g) S)) g.r.x S,
      neg_solved (f g) (e g) g.box g.r k two (bounded (x_proper g)) (bounded (a_proper g)) (leb-true _ _ o),
      ap (λ (I : Interval). put (cells g) g.r (patterns_of g.width S) I (b_cell g)) (mirror_written g.width g.known S (s_proper (leb-true _ _ o)))
          ∙ ap (λ (l : List Interval). set (set l g.r.a (patterns_of g.width (reflection (f g) (e g) S))) g.r.x (patterns_of g.width S)) (set-get_or (cells g) g.r.b no_cell)
          ∙ pair_places g g.box g.is.cells S (reflection (f g) (e g) S),
    )
    by_mirror false o = neg_unsolved (f g) (e g) g.box g.r k two (bounded (x_proper g)) (bounded (a_proper g)) (leb-false _ _ o)

    mirror_made : MadeBy g (mirror_answer g.width (x_cell g) (a_cell g) (b_cell g))
    mirror_made =
        let m = ap (mirrored_ends (format_of g.width)) (a_is g) ∙ mirror_written g.width g.known (A g) (a_proper g) in
        subst (λ (t : Result (Option Interval) Refusal). MadeBy g (mirror_by g.width (b_cell g) t))
        (sym ((λ i. cut_of g.width (x_is g i) (m i)) ∙ cut_written g.width g.known (X g) (reflection (f g) (e g) (A g)) (x_proper g) (mirror_proper (f g) (e g) (A g) (a_proper g))))
        (by_mirror (leb S.low S.high) refl)

  -- ---- a record of any kind
  three : g.r.a ≢ g.r.x → g.r.b ≢ g.r.x → g.r.b ≢ g.r.a → Three g.box g.r
  three p q s = record {
    x_in = in_box g (first_in g.n g.r g.names);
    a_in = in_box g (second_in g.n g.r g.names);
    b_in = in_box g (third_in g.n g.r g.names);
    a_x = p;
    b_x = q;
    b_a = s;
  }

  abbrev AnswerMade : Kind → Option Alike → Type 0
  AnswerMade k t = MadeBy g (answer_by t g.width k (x_cell g) (a_cell g) (b_cell g))

  by_sum_cells : kind_of g.r.kind ≡ Sum → (t : Option Alike) → CellsAre g.r.x g.r.a g.r.b t → AnswerMade Sum t
  by_sum_cells k None (apart p q s) = sum_made (three p q s) k
  by_sum_cells k (Some w) (twice h) = sum_repeated g k w h

  by_diff_cells : kind_of g.r.kind ≡ Diff → (t : Option Alike) → CellsAre g.r.x g.r.a g.r.b t → AnswerMade Diff t
  by_diff_cells k None (apart p q s) = diff_made (three p q s) k
  by_diff_cells k (Some w) (twice h) = diff_repeated g k w h

  by_neg : kind_of g.r.kind ≡ Neg → MadeBy g (neg_answer g.width (eqb g.r.x g.r.a) (x_cell g) (a_cell g) (b_cell g))
  by_neg k = go (ℕ_discrete g.r.x g.r.a)
    where
      go : Dec (g.r.x ≡ g.r.a) → MadeBy g (neg_answer g.width (eqb g.r.x g.r.a) (x_cell g) (a_cell g) (b_cell g))
      go (yes h) = rw (eq-eqb _ _ h) (neg_repeated g k (sym h))
      go (no n) = rw (ne_eqb _ _ n) (mirror_made k (record { x_in = in_box g (first_in g.n g.r g.names); a_in = in_box g (second_in g.n g.r g.names); a_x = λ h. n (sym h) }))

  all_made : MadeBy g (record_answer g.width g.r (x_cell g) (a_cell g) (b_cell g))
  unfolding record_answer
  all_made = go (kind_of g.r.kind) refl
    where
      go : (k : Kind) → kind_of g.r.kind ≡ k → MadeBy g (kind_answer k g.width g.r (x_cell g) (a_cell g) (b_cell g))
      go Sum k = by_sum_cells k _ (cells_are g.r.x g.r.a g.r.b)
      go Diff k = by_diff_cells k _ (cells_are g.r.x g.r.a g.r.b)
      go Neg k = by_neg k

-- ---- a step on cells that stand for a box, by what the record's answer is
module _ (width n : ℕ) (known : is_known width ≡ true) (r : Record) (names : Names n r) (l : List Interval) (shows : Shows width n l) where
  abbrev setting : Setting
  setting = record { width = width; n = n; known = known; r = r; names = names; box = box_in width n l; is = shows.box }

  abbrev answer : Result Narrowed Refusal
  answer = record_answer width r (get_or l r.x no_cell) (get_or l r.a no_cell) (get_or l r.b no_cell)

  made : (t : Result Narrowed Refusal) → answer ≡ t → MadeBy setting t
  made t q =
      subst (MadeBy setting)
      (ap (λ (c : List Interval). record_answer width r (get_or c r.x no_cell) (get_or c r.a no_cell) (get_or c r.b no_cell)) (sym shows.held) ∙ q)
      (all_made setting)

  pub step_off : (q : Refusal) → answer ≡ Err q → step (rules_of width) (box_in width n l) r ≡ unsolved
  step_off q h = made (Err q) h

  pub step_on : (s : Narrowed) → answer ≡ Ok s → (step (rules_of width) (box_in width n l) r ≡ left (box_in width n (put l r s.x s.a s.b))) × Shows width n (put l r s.x s.a s.b)
  step_on s h =
      let m = made (Ok s) h in
      let new = m.0 in
      let c : put l r s.x s.a s.b ≡ places width n new = ap (λ (c : List Interval). put c r s.x s.a s.b) shows.held ∙ m.2 in
      let i = shrunk_box (fraction_of width) (exponent_of width) n (box_in width n l) new (step_shrunk (rules_of width) (box_in width n l) new r m.1) shows.box in
      (m.1 ∙ ap left (sym (box_found width n new i) ∙ ap (box_in width n) (sym c)), subst (Shows width n) (sym c) (places_show width n new i))

-- ---- a comparison
pub compared :
    (width n : ℕ) (p q : List Interval) → Shows width n p → Shows width n q → (t : Bool) → Compares t (take n p) (take n q) →
    same_box (box_in width n p) (box_in width n q) ≡ t
compared width n p q sp sq true h = equal_same _ _ (ap (box_of width) (h.same refl))
compared width n p q sp sq false h = unequal_same _ _ (λ e. h.differ refl (ap (take n) (sp.held ∙ ap (places width n) e ∙ sym sq.held)))
