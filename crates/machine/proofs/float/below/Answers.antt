-- `machine::float::below` meets its contract. Assumes nothing.
use native.Mathlib.Omega.{arith}
use lib.Ieee.{binary32, binary64}
use Rattle.arith.specs.Formats.{fits32, fits64}
use Rattle.machine.proofs.Floats.{wide_is, narrow_is, fits_word, number, precedes}
use Rattle.machine.proofs.float.below.Goals as goal

pub float_from_bits-result : goal.float_from_bits-result
float_from_bits-result g c = number binary64 fits64 _ (wide_is g.row.WIDE c.if-this-ne0.true) _ c.requires.0

pub float_from_bits-result-then-this-ne0 : goal.float_from_bits-result-then-this-ne0
float_from_bits-result-then-this-ne0 g c = number binary64 fits64 _ (wide_is g.row.WIDE c.if-this-ne0.true) _ c.requires.1

pub returns-then-this-ne0 : goal.returns-then-this-ne0
returns-then-this-ne0 g c = precedes binary64 fits64 _ (wide_is g.row.WIDE c.if-this-ne0.true) _ _ c.requires.0 c.requires.1

pub overflow_cast-result : goal.overflow_cast-result
overflow_cast-result g c = omega (arith, fits_word g.row.WIDE c.if-this-ne0.false _ c.requires.0)

pub float_from_bits-result-2 : goal.float_from_bits-result-2
float_from_bits-result-2 g c = number binary32 fits32 _ (narrow_is g.row.WIDE c.if-this-ne0.false) _ c.requires.0

pub overflow_cast-result-2 : goal.overflow_cast-result-2
overflow_cast-result-2 g c = omega (arith, fits_word g.row.WIDE c.if-this-ne0.false _ c.requires.1)

pub float_from_bits-result-3 : goal.float_from_bits-result-3
float_from_bits-result-3 g c = number binary32 fits32 _ (narrow_is g.row.WIDE c.if-this-ne0.false) _ c.requires.1

pub returns : goal.returns
returns g c = precedes binary32 fits32 _ (narrow_is g.row.WIDE c.if-this-ne0.false) _ _ c.requires.0 c.requires.1
