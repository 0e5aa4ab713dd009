-- `reader::read::read` meets its contract: so many records are read, there is a place for each, and each leaves less text. Assumes nothing.
use mathlib.Core.Path.{sym, ◌∙◌}
use Rattle.reader.proofs.Following.{Follows, begun, follows}
use Rattle.reader.proofs.Replies.{text_read}
use Rattle.reader.proofs.Tested.{Fits, fits}
use Rattle.reader.proofs.read.read.Goals as goal
use Rattle.reader.proofs.read.read.Goals.{After-next}

pub loop-read-init : goal.loop-read-init
loop-read-init c = rw (c.new-cursor.ensures, c.blank_sheet-sheet.ensures) (begun c.args.text.now)

-- what the step that was found says: where it leads, and that there is a place
found : (c : After-next) → Follows c.args.text.now c.loop-read.cursor c.loop-read.sheet c.next.result
found c = rw c.next.ensures.value (follows c.loop-read.invariant)

fit : (c : After-next) → Fits c.loop-read.sheet c.next.result
fit c = rw c.next.ensures.value (fits c.loop-read.invariant)

-- a record: there is a place for it, and the reading goes on after it
pub put-requires : goal.put-requires
put-requires c = rw (c.in-Ok-Some.is, c.in-Ok-Some.field-0-is) at (fit (goal.at.put-requires c).After-next)

pub loop-read-smaller : goal.loop-read-smaller
loop-read-smaller c = (rw (c.in-Ok-Some.is, c.in-Ok-Some.field-0-is) at (found (goal.at.loop-read-smaller c).After-next)).less

pub loop-read-preserved : goal.loop-read-preserved
loop-read-preserved c = rw c.put.ensures (rw (c.in-Ok-Some.is, c.in-Ok-Some.field-0-is) at (found (goal.at.loop-read-preserved c).After-next)).reading

-- the end, and a refusal
pub returns-in-Ok-None : goal.returns-in-Ok-None
returns-in-Ok-None c =
    text_read c.args.text.now (c.accept.ensures.value ∙ (rw (c.in-Ok-None.is, c.in-Ok-None.field-0-is) at (fit (goal.at.returns-in-Ok-None c).After-next)) ∙ sym (rw (c.in-Ok-None.is, c.in-Ok-None.field-0-is) at (found (goal.at.returns-in-Ok-None c).After-next)))

pub returns-in-Err : goal.returns-in-Err
returns-in-Err c =
    text_read c.args.text.now (rw c.blank_sheet.ensures (sym (rw c.in-Err.is at (found (goal.at.returns-in-Err c).After-next))))
