-- Nothing grows: a step, a pass and a run leave each interval inside the one before, and none empty that was not. By the definitions alone, so under any rules and whatever cells the records name.
-- Assumes nothing.
use mathlib.Core.Path.{◌≡◌, subst, ◌∙◌}
use mathlib.Core.List.{List, [], ◌∷◌}
use Prim.Native.Nat.{ℕ, ◌+◌, ◌<◌, ◌≤◌}
use native.Mathlib.Omega.{arith}
use lib.Dec.{T}
use lib.ListN.{set, length-set}
use Rattle.ladder.specs.Solution.{Interval, In}
use Rattle.ladder.specs.Narrowing.{Extent, empty, over, Spans}
use Rattle.ladder.proofs.Extents.{IsExtent, extent_in_lem}
use Rattle.sheet.specs.declared.kept.Record.{Record}
use Rattle.sheet.specs.Records.{named, Rules}
use Rattle.sheet.specs.Boxes.{Box, at, Proper, IsBox, Inside, Contains}
use Rattle.propagation.specs.Runs.{solvable, held, standing, Step, unsolved, left, step_by, step_from, step, Pass, broken, whole, pass_by, pass_from, pass, run_from, run, last_box}
use Rattle.propagation.specs.Planning.{InsideOrFails}
use Rattle.propagation.proofs.Boxes.{set_cases, around, contains, contains_self, contains_all}
use Rattle.propagation.proofs.Runs.{run_from_lem, run_all}

-- ---- a box inside another, with no interval empty that is not in the other
pub record Shrunk (c d : Box) : Type 0 where
  pub inside : Contains c d
  pub ordered : (i : ℕ) → (at c i).low ≤ (at c i).high → (at d i).low ≤ (at d i).high

shrunk_self : (c : Box) → Shrunk c c
shrunk_self c = record { inside = contains_self c; ordered = λ i o. o }

shrunk_all : (c d e : Box) → Shrunk c d → Shrunk d e → Shrunk c e
shrunk_all c d e p q = record { inside = contains_all c d e p.inside q.inside; ordered = λ i o. q.ordered i (p.ordered i o) }

-- one cell set to an interval inside its own
shrunk_set : (c new : Box) (i : ℕ) (I : Interval) → Inside (at c i) I → I.low ≤ I.high → Shrunk c new → Shrunk c (set new i I)
shrunk_set c new i I k o w = record { inside = contains c (set new i I) (length-set new i I ∙ w.inside.cells) inside; ordered = ordered }
  where
    inside : (j : ℕ) → Inside (at c j) (at (set new i I) j)
    inside j = set_cases (Inside (at c j)) new i j I (around c new w.inside j) (λ e. rw e k)

    ordered : (j : ℕ) → (at c j).low ≤ (at c j).high → (at (set new i I) j).low ≤ (at (set new i I) j).high
    ordered j h = set_cases (λ J. J.low ≤ J.high) new i j I (w.ordered j h) (λ e. o)

-- it is a box of intervals where the other is
pub shrunk_box : (f e n : ℕ) (c d : Box) → Shrunk c d → IsBox f e n c → IsBox f e n d
shrunk_box f e n c d s b = record { cells = s.inside.cells ∙ b.cells; proper = proper }
  where
    proper : (i : ℕ) → i < n → Proper f e (at d i)
    proper i l =
        let q = b.proper i l in
        let k = around c d s.inside i in
        let o = s.ordered i q.order in
        record {
          low = record { low = omega (arith, q.low.low, k.low); high = omega (arith, q.high.high, k.high, o) };
          high = record { low = omega (arith, q.low.low, k.low, o); high = omega (arith, q.high.high, k.high) };
          order = o;
        }

module _ (rules : Rules) where
  -- ---- a step
  abbrev StepShrinks : Box → Step → Type 0
  StepShrinks c unsolved = Unit {0}
  StepShrinks c (left d) = Shrunk c d

  -- a value found to stand at cell i
  abbrev Found : Box → Record → ℕ → ℕ → Type 0
  Found c r i y = In (at c i) y × T (solvable rules (held c i y) r)

  standing_found : (c : Box) (r : Record) (i : ℕ) → IsExtent (Found c r i) (standing rules c r i)
  unfolding standing
  standing_found c r i = extent_in_lem (at c i) (λ y. solvable rules (held c i y) r) (Found c r i) (λ y k h. (k, h)) (λ y h. h)

  by_extent :
      (c : Box) (r : Record) (i : ℕ) (next : Interval → Step) → ((I : Interval) → Spans (Found c r i) I → StepShrinks c (next I)) →
      (s : Extent) → IsExtent (Found c r i) s → StepShrinks c (step_by s next)
  by_extent c r i next g empty h = tt
  by_extent c r i next g (over I) h = g I h

  step_from_shrinks : (c : Box) (r : Record) (is : List ℕ) (new : Box) → Shrunk c new → StepShrinks c (step_from rules c r is new)
  unfolding step_from
  step_from_shrinks c r [] new w = w
  step_from_shrinks c r (i ∷ is) new w =
      by_extent c r i _
      (λ I s.
      let l = s.low.0 in
      let h = s.high.0 in
      let o = s.all I.low s.low in
      step_from_shrinks c r is _ (shrunk_set c new i _ (record { low = omega (arith, l.low); high = omega (arith, h.high) }) (omega (arith, o.high)) w))
      (standing rules c r i) (standing_found c r i)

  step_shrinks : (c : Box) (r : Record) → StepShrinks c (step rules c r)
  unfolding step
  step_shrinks c r = step_from_shrinks c r (named r) c (shrunk_self c)

  pub step_shrunk : (c d : Box) (r : Record) → step rules c r ≡ left d → Shrunk c d
  step_shrunk c d r h = subst (StepShrinks c) h (step_shrinks c r)

  -- ---- a pass
  abbrev PassShrinks : Box → Pass → Type 0
  PassShrinks c (broken k) = Unit {0}
  PassShrinks c (whole d) = Shrunk c d

  pass_outer : (c d : Box) (t : Pass) → Shrunk c d → PassShrinks d t → PassShrinks c t
  pass_outer c d (broken k) w h = tt
  pass_outer c d (whole e) w h = shrunk_all c d e w h

  by_step : (c : Box) (k : ℕ) (next : Box → Pass) → ((d : Box) → PassShrinks d (next d)) → (s : Step) → StepShrinks c s → PassShrinks c (pass_by s next k)
  by_step c k next g unsolved h = tt
  by_step c k next g (left d) h = pass_outer c d (next d) h (g d)

  pass_from_shrinks : (rs : List Record) (k : ℕ) (c : Box) → PassShrinks c (pass_from rules rs k c)
  unfolding pass_from
  pass_from_shrinks [] k c = shrunk_self c
  pass_from_shrinks (r ∷ rs) k c = by_step c k (pass_from rules rs (k + 1)) (pass_from_shrinks rs (k + 1)) (step rules c r) (step_shrinks c r)

  pub pass_shrunk : (records : List Record) (c d : Box) → pass rules records c ≡ whole d → Shrunk c d
  pass_shrunk records c d h = subst (PassShrinks c) h (pass_from_shrinks records 0 c)

  -- ---- a run, from any pass on
  pub run_from_inside : (records : List Record) (more p : ℕ) (first : Box) → InsideOrFails first (run_from rules records more p first)
  run_from_inside records more p first =
      run_from_lem rules records (p + more) (λ q c. Contains first c) (InsideOrFails first)
      (λ q c d w l h m. goes_on c d w h)
      (λ q c w h. w)
      (λ q c d w l h m. goes_on c d w h)
      (λ q k c w h. tt)
      more p first (omega arith) (contains_self first)
    where
      goes_on : (c d : Box) → Contains first c → pass rules records c ≡ whole d → Contains first d
      goes_on c d w h = contains_all first c d w (pass_shrunk records c d h).inside

  pub run_inside : (records : List Record) (limit : ℕ) (first : Box) → InsideOrFails first (run rules records limit first)
  run_inside records limit first = run_from_inside records _ 1 first

  -- the last box is one of intervals where the first is
  pub run_box : (f e n : ℕ) (records : List Record) (limit : ℕ) (first : Box) → IsBox f e n first → IsBox f e n (last_box first (run rules records limit first))
  run_box f e n records limit first is =
      run_all rules records (IsBox f e n) (λ t. IsBox f e n (last_box first t))
      (λ c d b h. shrunk_box f e n c d (pass_shrunk records c d h) b)
      (λ p c b h. b)
      (λ p c b. b)
      (λ p k c b h. is)
      limit first is
