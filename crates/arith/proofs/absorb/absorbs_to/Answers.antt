-- `arith::absorb::absorbs_to` meets its contract: by the step after x. Assumes nothing.
use Rattle.std.proofs.Common.{arith}
use Rattle.arith.proofs.Formats.{infinity_lt}
use Rattle.arith.proofs.Absorbers.{unit_step, half_encodable, half_some, half_fits, half_step}
use Rattle.arith.proofs.absorb.absorbs_to.Goals as goal

pub returns-then-field-lt2 : goal.returns-then-field-lt2
returns-then-field-lt2 c =
    unit_step c.args.format c.args.format.sound c.args.x c.requires.finite c.step_place.ensures c.shift_right-field.ensures c.if-field-lt2.true

pub encode-requires : goal.encode-requires
encode-requires c =
    half_encodable c.args.format c.args.format.sound c.args.x c.requires.finite c.step_place.ensures c.shift_right-field.ensures c.if-field-lt2.false

pub overflow_sub-result : goal.overflow_sub-result
overflow_sub-result c =
    omega (arith, half_some c.args.format c.args.format.sound c.args.x c.requires.finite c.step_place.ensures c.shift_right-field.ensures c.if-field-lt2.false _ c.encode.ensures)

pub overflow_add-result : goal.overflow_add-result
overflow_add-result c =
    let F = c.args.format in
    omega (arith, c.args.format.sound.word, infinity_lt F c.args.format.sound, half_fits F c.args.format.sound c.args.x c.requires.finite c.step_place.ensures c.shift_right-field.ensures c.if-field-lt2.false _ c.encode.ensures)

pub returns : goal.returns
returns c =
    half_step c.args.format c.args.format.sound c.args.x c.requires.finite c.step_place.ensures c.shift_right-field.ensures c.if-field-lt2.false _ c.encode.ensures
