-- `put_cells` meets its contract: a turn puts the line of one cell more. Assumes nothing.
use Rattle.std.proofs.Common.{append_assoc, arith}
use Rattle.sheet.specs.Sheets.{no_cell}
use Rattle.listing.proofs.Cells.{lines_on}
use Rattle.listing.proofs.lines.Lines.put_cells.Goals as goal

pub loop-i-preserved : goal.loop-i-preserved
loop-i-preserved c =
    let a = c.args in
    record {
      put = rw (c.put_cell.ensures.text, c.loop-i.invariant.put, lines_on a.width c.loop-i.i a.cells.now no_cell c.loop-i-test.true, append_assoc);
      most = omega (arith, c.put_cell.ensures.most, c.loop-i.invariant.most);
    }
