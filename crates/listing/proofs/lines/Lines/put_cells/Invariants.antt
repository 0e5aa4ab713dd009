-- The loop of `put_cells`: the lines of the first i cells are put. Assumes nothing.
use Rattle.std.proofs.Common.{◌≡◌, ◌+◌, ◌*◌, ◌≤◌, ◌++◌, length, take}
use Rattle.listing.specs.Listings.{cell_lines}
use Rattle.listing.proofs.lines.Lines.put_cells.Given as goal

abbrev pub invariant-loop-i : goal.invariant-loop-i
invariant-loop-i l = record { put : l.self ≡ l.initial.self ++ cell_lines l.width 0 (take l.i l.cells); most : length l.self ≤ length l.initial.self + 60 * l.i }
