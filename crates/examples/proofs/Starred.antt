-- 01's starred examples, the whole table. Assumes nothing.
use Rattle.examples.specs.Starred.{Starred}
use Rattle.examples.proofs.Sums.{sums}
use Rattle.examples.proofs.Narrowings.{narrowings}
use Rattle.examples.proofs.Sheets.{sheets}
use Rattle.examples.proofs.Listings.{listings}

pub starred : Starred
starred = record { sums = sums; narrowings = narrowings; sheets = sheets; listings = listings }
