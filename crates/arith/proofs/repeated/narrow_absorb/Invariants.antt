-- Which two values narrow_absorb keeps: those that pass the test.
use Rattle.ladder.specs.Pairing.{absorbs}
use Rattle.arith.proofs.repeated.narrow_absorb.Given as goal

abbrev pub ghost-narrow_pair : goal.ghost-narrow_pair
ghost-narrow_pair a = absorbs
