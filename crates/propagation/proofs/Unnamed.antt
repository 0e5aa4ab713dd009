-- 01's two plain cases of a run: with no records it is settled after pass 1, and a cell that no record names keeps its ends. Assumes nothing.
use mathlib.Core.Path.{◌≡◌, refl, subst, ◌∙◌}
use mathlib.Core.List.{List, []}
use Prim.Native.Nat.{ℕ, ◌-◌}
use lib.ListN.{length}
use Rattle.sheet.specs.declared.kept.Record.{Record}
use Rattle.sheet.specs.Records.{Rules, Local}
use Rattle.sheet.specs.Boxes.{Box, at}
use Rattle.propagation.specs.Runs.{Pass, broken, whole, pass_from, pass, settled, run, last_box}
use Rattle.propagation.specs.Consistency.{AllNames}
use Rattle.propagation.specs.Outcomes.{Unnamed}
use Rattle.propagation.proofs.Boxes.{equal_same}
use Rattle.propagation.proofs.Demand.{pass_all}
use Rattle.propagation.proofs.Shrinking.{pass_shrunk}
use Rattle.propagation.proofs.Runs.{run_settled, run_all}

-- no records: settled after pass 1
pub run_no_records : (rules : Rules) (limit : ℕ) (first : Box) → run rules [] limit first ≡ settled 1 first
unfolding pass_from
run_no_records rules limit first = run_settled rules [] 1 first (limit - 1) first refl (equal_same first first refl)

module _ (rules : Rules) (local : Local rules) (i : ℕ) where
  -- a pass that has run through leaves the cell as it was
  abbrev Same : Box → Pass → Type 0
  Same c (broken k) = Unit {0}
  Same c (whole d) = at d i ≡ at c i

  goes : (c d : Box) (t : Pass) → at d i ≡ at c i → Same d t → Same c t
  goes c d (broken k) e h = h
  goes c d (whole b) e h = h ∙ e

  pass_other : (records : List Record) (c d : Box) → AllNames (length c) records → Unnamed i records → pass rules records c ≡ whole d → at d i ≡ at c i
  pass_other records c d names n h =
      subst (Same c) h
      (pass_all rules local (length c) (λ rs b. Unnamed i rs) (λ rs k b t. Same b t)
      (λ k b q. refl)
      (λ r rs k b q off. tt)
      (λ r rs k b d q p. q.1)
      (λ r rs k b d t q p s. goes b d t (p.is.others i q.0) s)
      records 0 c names refl n)

  -- a cell that no record names keeps its ends
  pub run_unnamed : (records : List Record) (limit : ℕ) (first : Box) → AllNames (length first) records → Unnamed i records → at (last_box first (run rules records limit first)) i ≡ at first i
  run_unnamed records limit first names n =
      run_all rules records (λ c. (length c ≡ length first) × (at c i ≡ at first i)) (λ t. at (last_box first t) i ≡ at first i)
      (λ c d q h.
      let m : AllNames (length c) records = rw q.0 names in
      ((pass_shrunk rules records c d h).inside.cells ∙ q.0, pass_other records c d m n h ∙ q.1))
      (λ p c q h. q.1)
      (λ p c q. q.1)
      (λ p k c q h. refl)
      limit first (refl, refl)
