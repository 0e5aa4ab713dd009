-- `machine::narrow::narrow` meets its contract: what it answers is the narrowing, so it tells the reply due. Assumes nothing.
use mathlib.Core.Path.{◌∙◌}
use Rattle.arith.proofs.Replies.{narrow_reply}
use Rattle.machine.proofs.narrow.narrow.Goals as goal

pub returns-in-Ok-clause-reply : goal.returns-in-Ok-clause-reply
returns-in-Ok-clause-reply c = let a = c.args in narrow_reply a.width a.x a.a a.b c.in-Ok.ensures

pub returns-in-Err-clause-reply : goal.returns-in-Err-clause-reply
returns-in-Err-clause-reply c = let a = c.args in narrow_reply a.width a.x a.a a.b (c.narrow.ensures.value ∙ c.in-Err.ensures)
