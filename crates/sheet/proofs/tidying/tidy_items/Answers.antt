-- `tidy_items` meets its contract: the places in use are the first part, the others the second.
-- Assumes nothing.
use Rattle.std.proofs.Common.{◌≡◌, ◌-◌, length, refl}
use native.Mathlib.Omega.{arith}
use Rattle.sheet.proofs.tidying.tidy_items.Goals as goal

pub returns : goal.returns
returns g c =
    let parts = c.split_at_mut-used in
    let rest : length parts.result.1.now ≡ length c.args.places.now - c.args.count = omega (arith, parts.ensures.back_len) in
    rw (c.tidy_each.ensures, c.clear_each.ensures, parts.ensures.front, rest) refl
