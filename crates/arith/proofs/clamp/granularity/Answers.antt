-- `arith::clamp::granularity` meets its contract: by the exponent fields of the two ends. Assumes nothing.
use Rattle.std.proofs.Common.{sym, ◌∙◌, arith}
use Rattle.arith.proofs.Clamping.{field_half, free_wide, free_low, free_high, some_wide, some_low, some_high}
use Rattle.arith.proofs.clamp.granularity.Goals as goal

pub overflow_add-result : goal.overflow_add-result
overflow_add-result c =
    omega (arith, field_half c.args.fraction c.shift_right-field.result c.args.hi c.requires.0.0 c.shift_right-field.ensures)

pub returns-then-shift_right-field : goal.returns-then-shift_right-field
returns-then-shift_right-field c =
    let q = c.shift_right-field in (
      free_wide c.args.fraction q.result c.args.lo c.args.hi q.ensures c.requires.1,
      some_wide c.args.fraction q.result c.args.lo c.args.hi q.ensures (λ e. c.if-shift_right-field.true (c.shift_right.ensures ∙ e)) c.requires.2,
    )

pub returns-then-field-eq0 : goal.returns-then-field-eq0
returns-then-field-eq0 c =
    let q = c.shift_right-field in
    let d = c.differing.ensures in (
      free_low c.args.fraction q.result c.args.lo c.args.hi q.ensures c.differing.result c.if-field-eq0.true c.requires.1 d.0,
      some_low c.args.fraction q.result c.args.lo c.args.hi q.ensures c.differing.result c.if-field-eq0.true d.1 d.2,
    )

pub overflow_add-result-2 : goal.overflow_add-result-2
overflow_add-result-2 c =
    let q = c.shift_right-field in
    omega (arith, field_half c.args.fraction q.result c.args.hi c.requires.0.0 q.ensures, c.differing-2.ensures.3)

pub returns : goal.returns
returns c =
    let q = c.shift_right-field in
    let d = c.differing-2.ensures in
    let o = sym c.shift_right.ensures ∙ c.if-shift_right-field.false in (
      free_high c.args.fraction q.result c.args.lo c.args.hi q.ensures c.differing-2.result c.shift_left-base.result o c.if-field-eq0.false c.shift_left-base.ensures d.0,
      some_high c.args.fraction q.result c.args.lo c.args.hi q.ensures c.differing-2.result c.shift_left-base.result o c.if-field-eq0.false c.shift_left-base.ensures d.1 d.2,
    )
