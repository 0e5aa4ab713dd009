-- The lines of one cell more. Rests on specs/Listings.
use mathlib.Core.Path.{◌≡◌, sym, ◌∙◌}
use mathlib.Core.List.{List, [], ◌∷◌, ◌++◌, append_assoc, append-nil}
use Prim.Native.Nat.{ℕ, suc, ◌+◌, ◌<◌, min}
use mathlib.Core.Logic.{inl, inr}
use native.Mathlib.Nat.{add-zero}
use native.Mathlib.Numerals.{add-one}
use native.Mathlib.Omega.{arith}
use lib.ListN.{length, get_or, take}
use lib.Seq.{take-suc, take_all, length-take-le}
use Rattle.ladder.proofs.Cases.{le_or_lt}
use Rattle.arith.specs.declared.interval.Interval.{Interval}
use Rattle.listing.specs.Listings.{cell_line, cell_lines}

lines_snoc : (width i : ℕ) (cs : List Interval) (c : Interval) → cell_lines width i (cs ++ (c ∷ [])) ≡ cell_lines width i cs ++ cell_line width (i + length cs) c
unfolding cell_lines
lines_snoc width i [] c = rw (add-zero i) (append-nil (cell_line width i c))
lines_snoc width i (d ∷ cs) c =
    let e : i + 1 + length cs ≡ i + suc (length cs) = omega arith in
    rw (lines_snoc width (i + 1) cs c, e, append_assoc)

-- the lines of the first i + 1 cells
pub lines_on : (width i : ℕ) (cs : List Interval) (v : Interval) → i < length cs → cell_lines width 0 (take (i + 1) cs) ≡ cell_lines width 0 (take i cs) ++ cell_line width i (get_or cs i v)
lines_on width i cs v h =
    let e : 0 + length (take i cs) ≡ i = omega (arith, length-take-le i cs (omega arith)) in
    rw (add-one i, take-suc cs i v h, lines_snoc width 0 (take i cs) (get_or cs i v), e)

-- no more cells are in use than there are
pub take_used : (n : ℕ) (cs : List Interval) → take (min n (length cs)) cs ≡ take n cs
take_used n cs = elim (le_or_lt n (length cs)) [
  | inl a ↦ let e : min n (length cs) ≡ n = omega arith in rw e
  | inr b ↦ let e : min n (length cs) ≡ length cs = omega arith in rw e (take_all (length cs) cs (omega arith) ∙ sym (take_all n cs (omega arith)))
]
