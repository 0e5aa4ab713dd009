-- `arith::repeated::narrow_pair` meets its contract: the answer as defined tells the reply due. Assumes nothing.
use Rattle.std.proofs.Common.{rules}
use Rattle.arith.specs.Repeats.{pair_of}
use Rattle.arith.specs.PairSearches.{relation_of}
use Rattle.arith.proofs.Repeating.{pair_due}
use Rattle.arith.proofs.repeated.narrow_pair.Goals as goal

pub returns-clause-reply : goal.returns-clause-reply
unfolding pair_of
returns-clause-reply g c = pair_due (relation_of g.test) c.args.width c.args.i c.args.j (search rules)
