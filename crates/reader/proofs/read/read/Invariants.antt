-- `reader::read::read` meets its contract: so many records are read, there is a place for each, and each leaves less text. Assumes nothing.
use lib.ListN.{length}
use Prim.Native.Nat.{◌-◌}
use Rattle.reader.proofs.Following.{Reading}
use Rattle.reader.proofs.read.read.Given as goal

abbrev pub invariant-loop-read : goal.invariant-loop-read
invariant-loop-read l = Reading l.text l.cursor l.sheet

abbrev pub decreases-loop-read : goal.decreases-loop-read
decreases-loop-read l = length l.text - l.cursor.at
