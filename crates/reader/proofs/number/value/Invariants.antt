-- `reader::number::value` meets its contract: the value so far stays below the power of its digits. Assumes nothing.
use lib.ListN.{drop}
use Prim.Native.Nat.{◌^◌, ◌<◌}
use mathlib.Core.Path.{◌≡◌}
use Rattle.reader.specs.Numbers.{value_from}
use Rattle.reader.proofs.number.value.Given as goal

abbrev pub invariant-loop-b : goal.invariant-loop-b
invariant-loop-b l = record { below : l.v < l.base ^ l.b-index; ahead : value_from l.base 0 l.f ≡ value_from l.base l.v (drop l.b-index l.f) }
