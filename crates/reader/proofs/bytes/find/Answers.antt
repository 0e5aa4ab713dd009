-- `reader::bytes::find` meets its contract: its place is what `position` gives. Assumes nothing.
use Rattle.std.proofs.Common.{rules, tests}
use lib.Dec.{eqb}
use Rattle.std.proofs.lemmas.Iterator.{YieldsList-from_slice}
use Rattle.std.proofs.lemmas.Iterator.Search.{position_from_yields_List}
use Rattle.reader.proofs.Searching.{found}
use Rattle.reader.proofs.bytes.find.Goals as goal

pub returns : goal.returns
returns c =
    found c.args.b c.args.s.now
    (position_from_yields_List (λ x. eqb x c.args.b) _ _ _ c.position.ensures.ran (YieldsList-from_slice c.args.s.now cc) (λ x b q k. search (rules, tests)))
