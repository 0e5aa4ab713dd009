-- The run one pass after the other, and a pass one record after the other: what the loops rest on; and the induction over a run.
-- Assumes nothing.
use mathlib.Core.Path.{◌≡◌, refl, subst, ◌∙◌}
use mathlib.Core.Bool.{Bool, true, false, cond}
use mathlib.Core.List.{List}
use Prim.Native.Nat.{ℕ, zero, suc, ◌+◌, ◌-◌, ◌<◌, ◌≤◌}
use native.Mathlib.Omega.{arith}
use native.Mathlib.Numerals.{add-one}
use lib.ListN.{length, get_or, take, drop, length-take, drop_of_length-le}
use lib.Seq.{drop-cons, get_or-take}
use Rattle.sheet.specs.declared.kept.Record.{Record}
use Rattle.sheet.specs.Records.{Rules}
use Rattle.sheet.specs.Boxes.{Box}
use Rattle.propagation.specs.Runs.{unsolved, left, step, Pass, broken, whole, pass_by, pass_from, pass, Ended, settled, stopped, no_triple, same_box, run_by, run_from, run}
use Rattle.sheet.specs.Sheets.{no_record}
use Rattle.propagation.proofs.Boxes.{same_is, same_not}

-- ---- record k of the first n of a list
module _ (rules : Rules) (l : List Record) (n k : ℕ) (c : Box) where
  pass_step : k < n → n ≤ length l → pass_from rules (drop k (take n l)) k c ≡ pass_by (step rules c (get_or l k no_record)) (pass_from rules (drop (k + 1) (take n l)) (k + 1)) k
  unfolding pass_from
  pass_step lt long =
      let h : k < length (take n l) = rw length-take (omega arith) in
      rw (drop-cons (take n l) k no_record h, get_or-take n l k no_record lt, add-one)

  pub pass_on : (d : Box) → k < n → n ≤ length l → step rules c (get_or l k no_record) ≡ left d → pass_from rules (drop k (take n l)) k c ≡ pass_from rules (drop (k + 1) (take n l)) (k + 1) d
  pass_on d lt long h = pass_step lt long ∙ rw h

  pub pass_off : k < n → n ≤ length l → step rules c (get_or l k no_record) ≡ unsolved → pass_from rules (drop k (take n l)) k c ≡ broken k
  pass_off lt long h = pass_step lt long ∙ rw h

  pub pass_end : n ≤ k → pass_from rules (drop k (take n l)) k c ≡ whole c
  unfolding pass_from
  pass_end le =
      let h : length (take n l) ≤ k = rw length-take (omega arith) in
      rw (drop_of_length-le (take n l) h)

-- ---- pass p of a run, from what the pass gave
module _ (rules : Rules) (records : List Record) (p : ℕ) (c : Box) where
  pub run_broken : (more k : ℕ) → pass rules records c ≡ broken k → run_from rules records more p c ≡ no_triple p k
  unfolding run_from
  run_broken zero k h = rw h
  run_broken (suc more) k h = rw h

  pub run_settled : (more : ℕ) (d : Box) → pass rules records c ≡ whole d → same_box c d ≡ true → run_from rules records more p c ≡ settled p d
  unfolding run_from
  run_settled zero d h t = rw (h, t)
  run_settled (suc more) d h t = rw (h, t)

  pub run_stopped : (limit : ℕ) (d : Box) → pass rules records c ≡ whole d → same_box c d ≡ false → limit ≤ p → run_from rules records (limit - p) p c ≡ stopped p d
  unfolding run_from
  run_stopped limit d h t le =
      let m : limit - p ≡ 0 = omega arith in
      rw (m, h, t)

  pub run_next : (limit : ℕ) (d : Box) → pass rules records c ≡ whole d → same_box c d ≡ false → p < limit → run_from rules records (limit - p) p c ≡ run_from rules records (limit - (p + 1)) (p + 1) d
  unfolding run_from
  run_next limit d h t lt =
      let m : limit - p ≡ suc (limit - (p + 1)) = omega arith in
      rw (m, h, t)

-- ---- the induction over a run: what holds of each way it can end holds of its end
-- Q is what holds of a pass and the box that it begins with
module _ (rules : Rules) (records : List Record) (limit : ℕ) (Q : ℕ → Box → Type 0) (P : Ended → Type 0)
    (next : (p : ℕ) (c d : Box) → Q p c → p < limit → pass rules records c ≡ whole d → (c ≡ d → ⊥) → Q (p + 1) d)
    (settles : (p : ℕ) (c : Box) → Q p c → pass rules records c ≡ whole c → P (settled p c))
    (stops : (p : ℕ) (c d : Box) → Q p c → limit ≤ p → pass rules records c ≡ whole d → (c ≡ d → ⊥) → P (stopped p d))
    (breaks : (p k : ℕ) (c : Box) → Q p c → pass rules records c ≡ broken k → P (no_triple p k)) where
  after : (g : Box → Ended) (p : ℕ) (c : Box) → Q p c → ((d : Box) → pass rules records c ≡ whole d → (c ≡ d → ⊥) → P (g d)) → P (run_by g p c (pass rules records c))
  after g p c q more = go (pass rules records c) refl
    where
      end : (d : Box) → pass rules records c ≡ whole d → (t : Bool) → same_box c d ≡ t → P (cond t (settled p d) (g d))
      end d h true t =
          let z : c ≡ d = same_is c d t in
          settles p d (subst (Q p) z q) (subst (λ (b : Box). pass rules records b ≡ whole d) z h)
      end d h false t = more d h (same_not c d t)

      go : (r : Pass) → pass rules records c ≡ r → P (run_by g p c r)
      go (broken k) h = breaks p k c q h
      go (whole d) h = end d h (same_box c d) refl

  pub run_from_lem : (more p : ℕ) (c : Box) → limit - p ≡ more → Q p c → P (run_from rules records more p c)
  unfolding run_from
  run_from_lem zero p c l q = after (stopped p) p c q (λ d h m. stops p c d q (omega arith) h m)
  run_from_lem (suc more) p c l q = after (run_from rules records more (p + 1)) p c q (λ d h m. run_from_lem more (p + 1) d (omega arith) (next p c d q (omega arith) h m))

  pub run_ends : (first : Box) → Q 1 first → P (run rules records limit first)
  run_ends first q = run_from_lem (limit - 1) 1 first refl q

-- the same where Q is of the box alone
module _ (rules : Rules) (records : List Record) (Q : Box → Type 0) (P : Ended → Type 0)
    (next : (c d : Box) → Q c → pass rules records c ≡ whole d → Q d)
    (settles : (p : ℕ) (c : Box) → Q c → pass rules records c ≡ whole c → P (settled p c))
    (stops : (p : ℕ) (c : Box) → Q c → P (stopped p c))
    (breaks : (p k : ℕ) (c : Box) → Q c → pass rules records c ≡ broken k → P (no_triple p k)) where
  pub run_all : (limit : ℕ) (first : Box) → Q first → P (run rules records limit first)
  run_all limit first =
      run_ends rules records limit (λ p c. Q c) P
      (λ p c d q l h m. next c d q h)
      settles
      (λ p c d q l h m. stops p d (next c d q h))
      breaks
      first
