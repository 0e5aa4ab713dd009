-- `reader::cursor::skip` meets its contract: the cursor is the one after as many records as turns. Assumes nothing.
use mathlib.Core.Path.{◌≡◌}
use Rattle.reader.specs.Steps.{cursor_after}
use Rattle.reader.proofs.cursor.skip.Given as goal

abbrev pub invariant-loop : goal.invariant-loop
invariant-loop l = l.cursor ≡ cursor_after l.counter l.text
