-- What the loops of the run hold: cells in patterns that stand for a box of ordinals; what they may start from, and what they leave. Assumes nothing.
use Rattle.std.specs.Prelude.{◌≡◌, Bool, true, false, List, ℕ, ◌<◌, ◌≤◌, get_or, take}
use Rattle.arith.specs.declared.interval.Interval.{Interval}
use Rattle.arith.specs.Formats.{is_known}
use Rattle.sheet.specs.declared.kept.Sheet.{Sheet}
use Rattle.propagation.specs.declared.passes.Outcome.TheVariants.{Settled, NoTriple, Stopped}
use Rattle.propagation.specs.declared.passes.Halted.{Halted}
use Rattle.sheet.specs.Cells.{fraction_of, exponent_of, box_of}
use Rattle.sheet.specs.Sheets.{no_record, places}
use Rattle.sheet.specs.Boxes.{Box, IsBox}
use Rattle.sheet.specs.Records.{Names}
use Rattle.propagation.specs.Runs.{Ended, settled, stopped, no_triple}

-- ---- cells and boxes
-- the box of the first n cells
abbrev pub box_in : ℕ → ℕ → List Interval → Box
box_in width n cells = box_of width (take n cells)

-- the places hold the n cells of a box, in its one written form
pub record Shows (width n : ℕ) (cells : List Interval) : Type 0 where
  pub box : IsBox (fraction_of width) (exponent_of width) n (box_in width n cells)
  pub held : cells ≡ places width n (box_in width n cells)

-- ---- the run
-- t says whether two lists of cells are equal
pub record Compares (t : Bool) (p q : List Interval) : Type 0 where
  pub same : t ≡ true → p ≡ q
  pub differ : t ≡ false → p ≡ q → ⊥

-- a sheet that the run may start from: its cells stand for a box, and its records name cells of it
pub record Ready (s : Sheet) : Type 0 where
  pub known : is_known s.width ≡ true
  pub some : 1 ≤ s.limit
  pub passes : s.limit ≤ 65535
  pub few_cells : s.cell_count ≤ 64
  pub few_records : s.record_count ≤ 128
  pub names : (k : ℕ) → k < s.record_count → Names s.cell_count (get_or s.records k no_record)
  pub shows : Shows s.width s.cell_count s.cells

-- what the loops leave, by how the run ends; under 'no triple' the cells are of no use
abbrev pub EndsAs : Sheet → Halted → Ended → Type 0
EndsAs s t (settled p box) = (t.outcome ≡ Settled p) × (t.cells ≡ places s.width s.cell_count box)
EndsAs s t (stopped p box) = (t.outcome ≡ Stopped p) × (t.cells ≡ places s.width s.cell_count box)
EndsAs s t (no_triple p k) = t.outcome ≡ NoTriple p k
