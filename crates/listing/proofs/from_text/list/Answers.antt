-- `list` meets its contract. Assumes nothing.
use Rattle.listing.proofs.Delivering.{bytes_written}
use Rattle.listing.proofs.from_text.list.Goals as goal

pub returns : goal.returns
returns c =
    let w = c.write_run.ensures in
    rw (← c.run_text-run.ensures) (bytes_written _ _ _ _ w.0 w.1)
