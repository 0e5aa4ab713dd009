-- `fill_digits`: the digits not yet stored are those of the number left. Assumes nothing.
use Rattle.std.proofs.Common.{◌≡◌, ◌++◌, length, drop}
use Rattle.reader.specs.Digits.{digits_of}
use Rattle.listing.proofs.digits.fill_digits.Given as goal

abbrev pub invariant-loop-j : goal.invariant-loop-j
invariant-loop-j l = (length l.places ≡ length l.initial.places) × (digits_of l.base l.j l.m ++ drop l.j l.places ≡ digits_of l.base (length l.initial.places) l.initial.m)
