-- Cells in patterns, and the box of ordinals that they stand for. Assumes nothing.
use Rattle.std.specs.Prelude.{List, map, ℕ}
use Rattle.ladder.specs.Solution as L
use Rattle.arith.specs.declared.interval.Interval.{Interval}
use Rattle.arith.specs.Formats.{format_of}
use Rattle.arith.specs.Intervals.{range_of, span}
use Rattle.arith.specs.Narrows.{written}
use Rattle.sheet.specs.Records.{Rules, fits}
use Rattle.sheet.specs.Boxes.{Box}

-- the width's fraction bits
abbrev pub fraction_of : ℕ → ℕ
fraction_of width = (format_of width).fraction

-- and its exponent bits
abbrev pub exponent_of : ℕ → ℕ
exponent_of width = (format_of width).exponent

-- the width's rules
abbrev pub rules_of : ℕ → Rules
rules_of width = fits (fraction_of width) (exponent_of width)

-- a cell by the ordinals of its ends
abbrev pub ordinals_of : ℕ → Interval → L.Interval
ordinals_of width I = span (range_of (format_of width) I)

-- and back, each end in its one pattern
abbrev pub patterns_of : ℕ → L.Interval → Interval
patterns_of width I = written (format_of width) I

-- a cell with each end in its one pattern
abbrev pub canonical_cell : ℕ → Interval → Interval
canonical_cell width I = patterns_of width (ordinals_of width I)

-- the box of some cells
abbrev pub box_of : ℕ → List Interval → Box
box_of width cells = map (ordinals_of width) cells

-- the cells of a box
abbrev pub cells_of : ℕ → Box → List Interval
cells_of width box = map (patterns_of width) box
