-- The places of a kept sheet and the box that they stand for, both ways.
-- Assumes nothing.
use mathlib.Core.Path.{◌≡◌, refl, sym, ap, ◌∙◌}
use mathlib.Core.List.{List, [], ◌∷◌, map}
use Prim.Native.Nat.{ℕ, zero, suc, ◌-◌, ◌<◌}
use native.Mathlib.Omega.{arith}
use lib.ListN.{length, get_or, set, take, replicate, length-map, get_or-append}
use lib.Seq.{take_at, set-append_left, ext_get_or}
use Rattle.ladder.specs.Solution as S
use Rattle.ladder.specs.Solution.{Bounded}
use Rattle.arith.specs.declared.interval.Interval.{Interval}
use Rattle.arith.proofs.Valid.{written_span}
use Rattle.sheet.specs.Cells.{fraction_of, exponent_of, ordinals_of, patterns_of, box_of, cells_of}
use Rattle.sheet.specs.Sheets.{no_cell, filled, places}
use Rattle.sheet.specs.Boxes.{Box, at, Proper, IsBox}
use Rattle.sheet.proofs.Filling.{get_d_under}
use Rattle.propagation.specs.Loops.{box_in, Shows}

-- ---- lists under a function
set_under : {A B : Type 0} (f : A → B) (l : List A) (i : ℕ) (v : A) → set (map f l) i (f v) ≡ map f (set l i v)
set_under f [] i v = refl
set_under f (x ∷ xs) zero v = refl
set_under {B = B} f (x ∷ xs) (suc i) v = ap (λ (t : List B). f x ∷ t) (set_under f xs i v)

pub bounded : {f e : ℕ} {I : S.Interval} → Proper f e I → Bounded f e I
bounded p = record { low = p.low; high = p.high }

module _ (width n : ℕ) (box : Box) (size : length box ≡ n) where
  long : length (cells_of width box) ≡ n
  long = length-map box (patterns_of width) ∙ size

  -- what stands in the place of cell i
  pub place_at : (i : ℕ) → i < n → get_or (places width n box) i no_cell ≡ patterns_of width (at box i)
  place_at i lt =
      let l = long in
      get_or-append (cells_of width box) (replicate (64 - n) no_cell) no_cell i (omega arith) ∙ get_d_under (patterns_of width) box i _ no_cell (omega arith)

  -- one set
  pub place_set : (i : ℕ) (I : S.Interval) → i < n → set (places width n box) i (patterns_of width I) ≡ places width n (set box i I)
  place_set i I lt =
      let l = long in
      set-append_left (cells_of width box) (replicate (64 - n) no_cell) i (patterns_of width I) (omega arith)
      ∙ ap (λ (t : List Interval). filled 64 no_cell t n) (set_under (patterns_of width) box i I)

  -- those in use
  pub places_used : take n (places width n box) ≡ cells_of width box
  places_used = take_at (cells_of width box) (replicate (64 - n) no_cell) n long

-- the box is found again, in the cells that it is written in
module _ (width n : ℕ) (box : Box) (is : IsBox (fraction_of width) (exponent_of width) n box) where
  pub box_written : box_of width (cells_of width box) ≡ box
  box_written = ext_get_or (record { low = 0; high = 0 }) _ box size same
    where
      size : length (box_of width (cells_of width box)) ≡ length box
      size = length-map (cells_of width box) (ordinals_of width) ∙ length-map box (patterns_of width)

      same : (i : ℕ) → i < length (box_of width (cells_of width box)) → at (box_of width (cells_of width box)) i ≡ at box i
      same i lt =
          let z = size in
          let m = is.cells in
          let k : i < length box = omega arith in
          let h : i < length (cells_of width box) = rw (length-map box (patterns_of width)) k in
          get_d_under (ordinals_of width) (cells_of width box) i no_cell _ h
          ∙ ap (ordinals_of width) (get_d_under (patterns_of width) box i (record { low = 0; high = 0 }) no_cell k)
          ∙ written_span width (at box i) (bounded (is.proper i (omega arith)))

  -- and in a sheet's places
  pub box_found : box_in width n (places width n box) ≡ box
  box_found = ap (box_of width) (places_used width n box is.cells) ∙ box_written

  pub places_show : Shows width n (places width n box)
  places_show =
      let e = box_found in
      record { box = rw e is; held = ap (places width n) (sym e) }
