-- What `pair_in` is called with: the test of the call itself.
use Rattle.arith.proofs.repeated.narrow_pair.Given as goal

abbrev pub ghost-pair_in : goal.ghost-pair_in
ghost-pair_in g a = g.test
