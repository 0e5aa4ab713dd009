-- A record over a box that stands in the places of a sheet: its intervals, its cells, and what an answer for it makes of the box. Assumes nothing.
use mathlib.Core.Path.{◌≡◌, sym, ap, subst, ◌∙◌}
use mathlib.Core.Bool.{true}
use mathlib.Core.List.{List}
use Prim.Native.Nat.{ℕ, ◌<◌}
use lib.ListN.{length, get_or, set, length-set}
use Rattle.ladder.specs.Solution as L
use Rattle.arith.specs.declared.interval.Interval.{Interval}
use Rattle.arith.specs.declared.narrow.Narrowed.{Narrowed}
use Rattle.arith.specs.declared.refusal.Refusal.{Refusal}
use Rattle.std.specs.Prelude.{Result, Ok, Err}
use Rattle.arith.specs.Formats.{is_known}
use Rattle.arith.specs.Intervals.{Valid}
use Rattle.arith.proofs.Valid.{written_valid}
use Rattle.sheet.specs.declared.kept.Record.{Record}
use Rattle.sheet.specs.Records.{Names}
use Rattle.sheet.specs.Cells.{fraction_of, exponent_of, rules_of, patterns_of}
use Rattle.sheet.specs.Sheets.{no_cell, places}
use Rattle.sheet.specs.Boxes.{Box, at, Proper, IsBox}
use Rattle.sheet.proofs.Records.{first_in, second_in, third_in}
use Rattle.propagation.specs.Runs.{unsolved, left, step}
use Rattle.propagation.proofs.KindSteps.{put}
use Rattle.propagation.proofs.Places.{bounded, place_at, place_set}

-- a record over the n cells of a box, at a known width
pub record Setting : Type 0 where
  pub width : ℕ
  pub n : ℕ
  pub known : is_known width ≡ true
  pub r : Record
  pub names : Names n r
  pub box : Box
  pub is : IsBox (fraction_of width) (exponent_of width) n box

module _ (g : Setting) where
  abbrev pub f : ℕ
  f = fraction_of g.width

  abbrev pub e : ℕ
  e = exponent_of g.width

  -- ---- the record's intervals
  abbrev pub X : L.Interval
  X = at g.box g.r.x

  abbrev pub A : L.Interval
  A = at g.box g.r.a

  abbrev pub B : L.Interval
  B = at g.box g.r.b

  pub x_proper : Proper f e X
  x_proper = g.is.proper g.r.x (first_in g.n g.r g.names)

  pub a_proper : Proper f e A
  a_proper = g.is.proper g.r.a (second_in g.n g.r g.names)

  pub b_proper : Proper f e B
  b_proper = g.is.proper g.r.b (third_in g.n g.r g.names)

  pub in_box : {i : ℕ} → i < g.n → i < length g.box
  in_box {i} l = subst (λ (m : ℕ). i < m) (sym g.is.cells) l

  -- ---- its cells in their places
  abbrev pub cells : List Interval
  cells = places g.width g.n g.box

  abbrev pub x_cell : Interval
  x_cell = get_or cells g.r.x no_cell

  abbrev pub a_cell : Interval
  a_cell = get_or cells g.r.a no_cell

  abbrev pub b_cell : Interval
  b_cell = get_or cells g.r.b no_cell

  pub x_is : x_cell ≡ patterns_of g.width X
  x_is = place_at g.width g.n g.box g.is.cells g.r.x (first_in g.n g.r g.names)

  pub a_is : a_cell ≡ patterns_of g.width A
  a_is = place_at g.width g.n g.box g.is.cells g.r.a (second_in g.n g.r g.names)

  pub b_is : b_cell ≡ patterns_of g.width B
  b_is = place_at g.width g.n g.box g.is.cells g.r.b (third_in g.n g.r g.names)

  pub valid : (I : L.Interval) → Proper f e I → Valid g.width (patterns_of g.width I)
  valid I p = written_valid g.width I (bounded p) g.known p.order

  -- ---- what a record's answer makes of the box
  abbrev pub MadeBy : Result Narrowed Refusal → Type 0
  MadeBy (Err q) = step (rules_of g.width) g.box g.r ≡ unsolved
  MadeBy (Ok n) = (new : Box) × (step (rules_of g.width) g.box g.r ≡ left new) × (put cells g.r n.x n.a n.b ≡ places g.width g.n new)

  -- cells put into their places: a and x, and three
  pub pair_places :
      (c : Box) → length c ≡ g.n → (X' A' : L.Interval) →
      set (set (places g.width g.n c) g.r.a (patterns_of g.width A')) g.r.x (patterns_of g.width X')
      ≡ places g.width g.n (set (set c g.r.a A') g.r.x X')
  pair_places c l X' A' =
      ap (λ (p : List Interval). set p g.r.x (patterns_of g.width X')) (place_set g.width g.n c l g.r.a A' (second_in g.n g.r g.names))
      ∙ place_set g.width g.n (set c g.r.a A') (simp length-set l) g.r.x X' (first_in g.n g.r g.names)

  pub put_places :
      (X' A' B' : L.Interval) → put cells g.r (patterns_of g.width X') (patterns_of g.width A') (patterns_of g.width B')
      ≡ places g.width g.n (put g.box g.r X' A' B')
  put_places X' A' B' =
      ap (λ (l : List Interval). set (set l g.r.a (patterns_of g.width A')) g.r.x (patterns_of g.width X'))
      (place_set g.width g.n g.box g.is.cells g.r.b B' (third_in g.n g.r g.names))
      ∙ pair_places (set g.box g.r.b B') (simp length-set g.is.cells) X' A'
