-- `reader::number::value` meets its contract: the value so far stays below the power of its digits. Assumes nothing.
use mathlib.Core.Path.{sym, ◌∙◌}
use native.Mathlib.Omega.{arith}
use lib.ListN.{length}
use Rattle.reader.proofs.Digits.{value_on, value_off, value_bad, value_end, digit_below, digit_fits}
use Rattle.reader.proofs.number.value.Goals as goal

pub returns-in_err-d : goal.returns-in_err-d
returns-in_err-d c =
    let e = value_bad c.args.base c.loop-b.v c.args.f.now c.loop-b.b-index (omega arith) (sym c.digit.ensures ∙ c.in_err-d.was {u = tt}) in
    c.from_residual.ensures ∙ sym (c.loop-b.invariant.ahead ∙ e)

pub returns-then-base-d : goal.returns-then-base-d
returns-then-base-d c =
    sym (c.loop-b.invariant.ahead ∙ value_off c.args.base c.loop-b.v c.args.f.now c.loop-b.b-index c.in_ok-d.d (omega arith) (sym c.digit.ensures ∙ c.in_ok-d.was {u = tt}) (omega arith))

pub overflow_mul-v : goal.overflow_mul-v
overflow_mul-v c = omega (arith, digit_fits c.args.base c.loop-b.v c.in_ok-d.d c.loop-b.b-index (length c.args.f.now) (omega arith) (omega arith) (omega arith) (omega arith))

pub overflow_add-v : goal.overflow_add-v
overflow_add-v c = omega (arith, digit_fits c.args.base c.loop-b.v c.in_ok-d.d c.loop-b.b-index (length c.args.f.now) (omega arith) (omega arith) (omega arith) (omega arith))

pub loop-b-preserved : goal.loop-b-preserved
loop-b-preserved c = record {
  below = digit_below c.args.base c.loop-b.v c.in_ok-d.d c.loop-b.b-index (omega arith) (omega arith);
  ahead = c.loop-b.invariant.ahead ∙ value_on c.args.base c.loop-b.v c.args.f.now c.loop-b.b-index c.in_ok-d.d (omega arith) (sym c.digit.ensures ∙ c.in_ok-d.was {u = tt}) (omega arith);
}

pub returns : goal.returns
returns c = sym (c.loop-b.invariant.ahead ∙ value_end c.args.base c.loop-b.v c.args.f.now c.loop-b.b-index (omega arith))
