-- What holds of a step, so that but for Shrinking nothing above opens its definition: there is no solution; or each of the record's cells runs
-- from the least to the greatest value standing there, and the others are as they were. It is the only such step. Assumes nothing.
use mathlib.Core.Path.{◌≡◌, refl, sym, ap, subst, ◌∙◌}
use mathlib.Core.Logic.{◌≢◌, inl, inr}
use mathlib.Core.List.{List, [], ◌∷◌}
use Prim.Native.Nat.{ℕ, ◌<◌}
use lib.ListN.{length, set, length-set}
use lib.Seq.{get_or-set_same, get_or-set_other, ext_get_or}
use Rattle.ladder.specs.Solution.{Interval}
use Rattle.ladder.specs.Narrowing.{Extent, empty, over, Spans}
use Rattle.ladder.proofs.Extents.{IsExtent}
use Rattle.sheet.specs.declared.kept.Record.{Record}
use Rattle.sheet.specs.Members.{Each, Member}
use Rattle.sheet.specs.Records.{named, Values, Rules, Local}
use Rattle.sheet.specs.Boxes.{Box, at}
use Rattle.propagation.specs.Runs.{Step, unsolved, left, standing, step_by, step_from, step}
use Rattle.propagation.specs.Consistency.{Solution, Has}
use Rattle.sheet.proofs.Members.{each_member, each_itself, among}
use Rattle.propagation.proofs.Boxes.{set_cases, same_interval}
use Rattle.sheet.proofs.Records.{x_named}
use Rattle.propagation.proofs.Searching.{standing_is}

-- ---- two intervals from the least to the greatest number with a property are the same
spans_same : (P : ℕ → Type 0) (I J : Interval) → Spans P I → Spans P J → I ≡ J
spans_same P I J s t =
    same_interval I J
    (record { low = (s.all J.low t.low).low; high = (s.all J.high t.high).high })
    (record { low = (t.all I.low s.low).low; high = (t.all I.high s.high).high })

-- ---- a step
-- the box that a step leaves
pub record Left (rules : Rules) (box : Box) (r : Record) (new : Box) : Type 0 where
  pub cells : length new ≡ length box
  pub spans : Each (λ i. Spans (Has rules box r i) (at new i)) (named r)
  pub others : (j : ℕ) → Each (λ i. j ≢ i) (named r) → at new j ≡ at box j

abbrev pub IsStep : Rules → Box → Record → Step → Type 0
IsStep rules box r unsolved = (v : Values) → Solution rules box r v → ⊥
IsStep rules box r (left new) = Left rules box r new

module _ (rules : Rules) (local : Local rules) (box : Box) (r : Record) (names : Each (λ i. i < length box) (named r)) where
  -- some of the record's cells written over a box
  record Part (is : List ℕ) (old new : Box) : Type 0 where
    cells : length new ≡ length old
    keeps : (j : ℕ) → Spans (Has rules box r j) (at old j) → Spans (Has rules box r j) (at new j)
    spans : Each (λ i. Spans (Has rules box r i) (at new i)) is
    others : (j : ℕ) → Each (λ i. j ≢ i) is → at new j ≡ at old j

  abbrev PartOf : List ℕ → Box → Step → Type 0
  PartOf is old unsolved = (v : Values) → Solution rules box r v → ⊥
  PartOf is old (left new) = Part is old new

  first_part : (i : ℕ) (is : List ℕ) (old : Box) (I : Interval) → i < length old → Spans (Has rules box r i) I → (t : Step) → PartOf is (set old i I) t → PartOf (i ∷ is) old t
  first_part i is old I l s unsolved n = n
  first_part i is old I l s (left new) p = record {
    cells = p.cells ∙ length-set old i I;
    keeps = λ j k. p.keeps j (set_cases (Spans (Has rules box r j)) old i j I k (λ e. subst (λ (c : ℕ). Spans (Has rules box r c) I) (sym e) s));
    spans = (p.keeps i (subst (Spans (Has rules box r i)) (sym (get_or-set_same old i I (record { low = 0; high = 0 }) l)) s), p.spans);
    others = λ j e. p.others j e.1 ∙ get_or-set_other old i j I (record { low = 0; high = 0 }) e.0;
  }

  by_extent :
      (i : ℕ) (is : List ℕ) (old : Box) → i < length old → ((I : Interval) → PartOf is (set old i I) (step_from rules box r is (set old i I))) →
      (s : Extent) → IsExtent (Has rules box r i) s → PartOf (i ∷ is) old (step_by s (λ I. step_from rules box r is (set old i I)))
  by_extent i is old l rest empty n = λ v s. n (v i) (record { values = v; is = refl; solution = s })
  by_extent i is old l rest (over I) s = first_part i is old I l s (step_from rules box r is (set old i I)) (rest I)

  part : (is : List ℕ) (old : Box) → length old ≡ length box → Each (λ i. Member i (named r)) is → PartOf is old (step_from rules box r is old)
  unfolding step_from
  part [] old e m = record { cells = refl; keeps = λ j s. s; spans = tt; others = λ j s. refl }
  part (i ∷ is) old e m =
      let l : i < length box = each_member (λ j. j < length box) m.0 names in
      by_extent i is old (rw e l) (λ I. part is (set old i I) (length-set old i I ∙ e) m.1) (standing rules box r i) (standing_is rules local box r i m.0 l)

  whole_step : (t : Step) → PartOf (named r) box t → IsStep rules box r t
  whole_step unsolved n = n
  whole_step (left new) p = record { cells = p.cells; spans = p.spans; others = p.others }

  pub step_is : IsStep rules box r (step rules box r)
  unfolding step
  step_is = whole_step (step_from rules box r (named r) box) (part (named r) box refl (each_itself (named r)))

  -- ---- and there is one
  some_solution : (new : Box) → Left rules box r new → Has rules box r r.x (at new r.x).low
  some_solution new p = (each_member (λ i. Spans (Has rules box r i) (at new i)) (x_named r) p.spans).low

  left_same : (new other : Box) → Left rules box r new → Left rules box r other → new ≡ other
  left_same new other p q = ext_get_or (record { low = 0; high = 0 }) new other (p.cells ∙ sym q.cells) (λ j l. cell j)
    where
      cell : (j : ℕ) → at new j ≡ at other j
      cell j = elim (among j (named r)) [
        | inl s ↦ p.others j s ∙ sym (q.others j s)
        | inr m ↦
            spans_same (Has rules box r j) (at new j) (at other j)
            (each_member (λ i. Spans (Has rules box r i) (at new i)) m p.spans)
            (each_member (λ i. Spans (Has rules box r i) (at other i)) m q.spans)
      ]

  step_same : (s t : Step) → IsStep rules box r s → IsStep rules box r t → s ≡ t
  step_same unsolved unsolved p q = refl
  step_same unsolved (left other) p q = let w = some_solution other q in absurd (p w.values w.solution)
  step_same (left new) unsolved p q = let w = some_solution new p in absurd (q w.values w.solution)
  step_same (left new) (left other) p q = ap left (left_same new other p q)

  pub step_unique : (s : Step) → IsStep rules box r s → s ≡ step rules box r
  step_unique s p = step_same s (step rules box r) p step_is
