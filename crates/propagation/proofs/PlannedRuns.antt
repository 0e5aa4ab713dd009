-- 02's R-14 on runs. A settled box is the largest consistent one within the first (Demand), and consistency sees neither the start nor the order of the records;
-- a longer run is one induction for every way the shorter one can end. Assumes nothing.
use mathlib.Core.Path.{◌≡◌, refl}
use mathlib.Core.Bool.{Bool, true, false, cond}
use mathlib.Core.List.{List}
use Prim.Native.Nat.{ℕ, zero, suc, ◌+◌, ◌-◌, ◌<◌, ◌≤◌}
use native.Mathlib.Omega.{arith}
use lib.ListN.{length}
use Rattle.sheet.specs.declared.kept.Record.{Record}
use Rattle.sheet.specs.Members.{Each, SameMembers}
use Rattle.sheet.specs.Records.{named, Rules, Local}
use Rattle.sheet.specs.Boxes.{Box, Contains}
use Rattle.propagation.specs.Runs.{Pass, broken, whole, pass, Ended, settled, stopped, no_triple, same_box, run_by, run_from, run}
use Rattle.sheet.specs.Cells.{fraction_of, exponent_of, rules_of}
use Rattle.propagation.specs.Consistency.{AllNames, Stands}
use Rattle.propagation.specs.Planning.{SettlesWith, InsideOrFails, PlannedRuns}
use Rattle.sheet.proofs.Members.{each_among}
use Rattle.propagation.proofs.Boxes.{contains_self, contains_all, contained_both}
use Rattle.propagation.proofs.Shrinking.{run_from_inside}
use Rattle.propagation.proofs.Demand.{settled_largest}
use Rattle.propagation.proofs.Fitting.{fits_local}

-- ---- a longer run
module _ (rules : Rules) (records : List Record) where
  -- how a run ends under a higher limit, by how it ends under a lower one
  abbrev Prolonged : Ended → Ended → Type 0
  Prolonged (settled p last) t = t ≡ settled p last
  Prolonged (stopped p last) t = InsideOrFails last t
  Prolonged (no_triple p k) t = t ≡ no_triple p k

  -- two runs that have pass p in common
  after : (g h : Box → Ended) (p : ℕ) (c : Box) → ((d : Box) → Prolonged (g d) (h d)) → (t : Pass) → Prolonged (run_by g p c t) (run_by h p c t)
  after g h p c next (broken k) = refl
  after g h p c next (whole d) = go (same_box c d)
    where
      go : (b : Bool) → Prolonged (cond b (settled p d) (g d)) (cond b (settled p d) (h d))
      go true = refl
      go false = next d

  -- pass p, with some passes left and with as many or more
  abbrev from : ℕ → ℕ → Box → Ended
  from = run_from rules records

  prolonged : (more yet p : ℕ) (c : Box) → more ≤ yet → Prolonged (from more p c) (from yet p c)
  unfolding run_from
  prolonged zero zero p c l = after (stopped p) (stopped p) p c contains_self (pass rules records c)
  prolonged zero (suc yet) p c l = after (stopped p) (from yet (p + 1)) p c (run_from_inside rules records yet (p + 1)) (pass rules records c)
  prolonged (suc more) zero p c l = absurd (omega arith)
  prolonged (suc more) (suc yet) p c l = after (from more (p + 1)) (from yet (p + 1)) p c (λ d. prolonged more yet (p + 1) d (omega arith)) (pass rules records c)

  run_prolonged : (first : Box) (limit higher : ℕ) → limit ≤ higher → (t : Ended) → run rules records limit first ≡ t → Prolonged t (run rules records higher first)
  run_prolonged first limit higher l t h = rw (← h) (prolonged (limit - 1) (higher - 1) 1 first (omega arith))

-- ---- another start, or another order
module _ (rules : Rules) (local : Local rules) where
  starts_inside :
      (records others : List Record) (outer inner outerLast innerLast : Box) → AllNames (length outer) records → SameMembers records others → Contains outer inner →
      SettlesWith rules records outer outerLast → SettlesWith rules others inner innerLast → Contains outerLast innerLast
  starts_inside records others outer inner outerLast innerLast names same w s t =
      let names' : AllNames (length inner) others = each_among (λ r. Each (λ i. i < length inner) (named r)) records others same.back (rw w.cells names) in
      let a = settled_largest rules local records outer names s.limit s.passes outerLast s.ends in
      let b = settled_largest rules local others inner names' t.limit t.passes innerLast t.ends in
      a.all innerLast (contains_all outer inner innerLast w b.inside) (each_among (Stands rules innerLast) others records same.there b.consistent)

  -- two orders: each answer lies inside the other
  same_answer :
      (records others : List Record) (first last otherLast : Box) → AllNames (length first) records → SameMembers records others →
      SettlesWith rules records first last → SettlesWith rules others first otherLast → otherLast ≡ last
  same_answer records others first last otherLast names same s t =
      let w = contains_self first in
      let names' : AllNames (length first) others = each_among (λ r. Each (λ i. i < length first) (named r)) records others same.back names in
      let back : SameMembers others records = record { there = same.back; back = same.there } in
      contained_both otherLast last (starts_inside others records first first otherLast last names' back w t s) (starts_inside records others first first last otherLast names same w s t)

  pub runs_planned : PlannedRuns rules
  runs_planned = record {
    narrower = starts_inside;
    settled_stays = λ records first limit higher l p last h. run_prolonged rules records first limit higher l (settled p last) h;
    failure_stays = λ records first limit higher l p k h. run_prolonged rules records first limit higher l (no_triple p k) h;
    never_grows = λ records first limit higher l p last h. run_prolonged rules records first limit higher l (stopped p last) h;
    reordered = same_answer;
  }

-- under the rules of a width
pub width_planned : (width : ℕ) → PlannedRuns (rules_of width)
width_planned width = runs_planned (rules_of width) (fits_local (fraction_of width) (exponent_of width))
