-- A cell without a fault: what `arith` says of it, and its one written form.
-- Assumes nothing.
use Rattle.std.specs.Prelude.{Result, Ok, Err}
use mathlib.Core.Path.{◌≡◌, refl, sym, ap, ◌∙◌}
use Prim.Native.Nat.{ℕ}
use native.Mathlib.Omega.{arith}
use Rattle.arith.specs.declared.refusal.Refusal.{Refusal}
use Rattle.arith.specs.declared.interval.Interval.{Interval}
use Rattle.arith.specs.Intervals.{canonical_of, Valid}
use Rattle.arith.proofs.Valid.{canonical_is, is_valid, valid_bounded, written_valid}
use Rattle.sheet.specs.Cells.{ordinals_of, canonical_cell}
use Rattle.sheet.specs.Faults.{fault_of, cell_fault}

module _ (width : ℕ) (I : Interval) where
  -- what is not refused is written in canonical patterns
  pub written : (J : Interval) → canonical_of width I ≡ Ok J → J ≡ canonical_cell width I
  written J e =
      let h : canonical_of width I ≡ Ok (canonical_cell width I) = canonical_is width I (is_valid width I J e) in
      cc

  pub not_refused : (r : Refusal) → cell_fault width I ≡ Ok tt → canonical_of width I ≡ Err r → ⊥
  unfolding cell_fault
  not_refused r z e =
      let m : fault_of {A = Interval} (Err r) ≡ Ok tt = ap fault_of (sym e) ∙ z in
      let n : ◌≡◌ {A = ℕ} 0 1 = cc in
      omega arith

  -- no fault: an interval
  pub fault_free : cell_fault width I ≡ Ok tt → Valid width I
  unfolding cell_fault
  fault_free z = go (canonical_of width I) refl
    where
      go : (i : Result Interval Refusal) → canonical_of width I ≡ i → Valid width I
      go (Ok J) e = is_valid width I J e
      go (Err r) e = absurd (not_refused r z e)

  no_fault : Valid width I → cell_fault width I ≡ Ok tt
  unfolding cell_fault
  no_fault g = ap fault_of (canonical_is width I g)

-- the canonical form of a faultless cell is faultless
pub canonical_faultless : (width : ℕ) (cell : Interval) → cell_fault width cell ≡ Ok tt → cell_fault width (canonical_cell width cell) ≡ Ok tt
canonical_faultless width cell z =
    let v = fault_free width cell z in
    let b = valid_bounded width cell v in
    no_fault width (canonical_cell width cell) (written_valid width (ordinals_of width cell) b.0 v.known b.1)
