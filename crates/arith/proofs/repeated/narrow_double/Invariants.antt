-- Which two values narrow_double keeps: those that pass the test.
use Rattle.ladder.specs.Pairing.{doubles}
use Rattle.arith.proofs.repeated.narrow_double.Given as goal

abbrev pub ghost-narrow_pair : goal.ghost-narrow_pair
ghost-narrow_pair a = doubles
