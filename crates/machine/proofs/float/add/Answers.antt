-- `machine::float::add` meets its contract. Assumes nothing.
use native.Mathlib.Omega.{arith}
use lib.Ieee.{binary32, binary64, of_bits, add}
use lib.Ieee.Fits.{add-fits}
use lib.Ieee.Bits.{to_bits-lt}
use Rattle.machine.specs.Floats.{machine}
use Rattle.arith.specs.Formats.{fits32, fits64}
use Rattle.machine.proofs.Floats.{flag, wide_is, narrow_is, fits_word, number_of, number, adds_number, adds}
use Rattle.machine.proofs.float.add.Goals as goal

pub float_from_bits-result : goal.float_from_bits-result
float_from_bits-result g c = number binary64 fits64 _ (wide_is g.row.WIDE c.if-this-ne0.true) _ c.requires.0

pub float_from_bits-result-then-this-ne0 : goal.float_from_bits-result-then-this-ne0
float_from_bits-result-then-this-ne0 g c = number binary64 fits64 _ (wide_is g.row.WIDE c.if-this-ne0.true) _ (number_of (machine (flag g.row.WIDE)) _ c.requires.1)

pub float_to_bits-result : goal.float_to_bits-result
float_to_bits-result g c = adds_number binary64 fits64 _ (wide_is g.row.WIDE c.if-this-ne0.true) _ _ c.requires.0 c.requires.1

pub returns-then-this-ne0 : goal.returns-then-this-ne0
returns-then-this-ne0 g c = adds binary64 fits64 _ (wide_is g.row.WIDE c.if-this-ne0.true) _ _ c.requires.0 c.requires.1

pub overflow_cast-result : goal.overflow_cast-result
overflow_cast-result g c = omega (arith, fits_word g.row.WIDE c.if-this-ne0.false _ c.requires.0)

pub float_from_bits-result-2 : goal.float_from_bits-result-2
float_from_bits-result-2 g c = number binary32 fits32 _ (narrow_is g.row.WIDE c.if-this-ne0.false) _ c.requires.0

pub overflow_cast-result-2 : goal.overflow_cast-result-2
overflow_cast-result-2 g c = omega (arith, fits_word g.row.WIDE c.if-this-ne0.false _ (number_of (machine (flag g.row.WIDE)) _ c.requires.1))

pub float_from_bits-result-3 : goal.float_from_bits-result-3
float_from_bits-result-3 g c = number binary32 fits32 _ (narrow_is g.row.WIDE c.if-this-ne0.false) _ (number_of (machine (flag g.row.WIDE)) _ c.requires.1)

pub float_to_bits-result-2 : goal.float_to_bits-result-2
float_to_bits-result-2 g c = adds_number binary32 fits32 _ (narrow_is g.row.WIDE c.if-this-ne0.false) _ _ c.requires.0 c.requires.1

pub overflow_cast-result-3 : goal.overflow_cast-result-3
overflow_cast-result-3 g c =
    let u = of_bits binary32 c.args.p in
    let v = of_bits binary32 c.args.q in
    omega (arith, to_bits-lt binary32 (add binary32 u v) (add-fits binary32 u v))

pub returns : goal.returns
returns g c = adds binary32 fits32 _ (narrow_is g.row.WIDE c.if-this-ne0.false) _ _ c.requires.0 c.requires.1
