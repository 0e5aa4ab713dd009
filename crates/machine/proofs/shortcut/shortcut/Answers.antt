-- `machine::shortcut::shortcut` meets its contract. Assumes nothing.
use Rattle.arith.proofs.Formats.{both}
use Rattle.machine.specs.declared.shortcut.Verdict.TheVariants as Verdict
use Rattle.machine.specs.Floats.{machine}
use Rattle.machine.specs.Shortcuts.{Admitted, Trimmings, Judges, Bounds, Corners, EndsOfB, left_x, left_a}
use Rattle.machine.proofs.Floats.{flag, sound_machine}
use Rattle.machine.proofs.KnownEnds.{ends_of_lem}
use Rattle.machine.proofs.Shortcutting.{none_answer, trim_takes, corners_of, ends_answer, left_answer}
use Rattle.machine.proofs.shortcut.shortcut.Given.{Over}
use Rattle.machine.proofs.shortcut.shortcut.Goals as goal
use Rattle.machine.proofs.shortcut.shortcut.Goals.{Else-not-admitted, Else-not-p-q, In-Corners, In-Some}

-- the intervals are admitted
admits : (g : Over) (c : Else-not-admitted g) → let z = c.args in Admitted (machine (flag g.row.WIDE)) z.x z.a z.b
admits g c = c.admitted.ensures c.if-not-admitted.false

-- the trims
trims : (g : Over) (c : Else-not-p-q g) → let z = c.args in Trimmings (machine (flag g.row.WIDE)) z.x z.a z.b c.trim-p.result c.trim-q.result
trims g c = let s = both c.trim-p.result.sure c.trim-q.result.sure c.if-not-p-q.false in record { first = c.trim-p.ensures s.0; second = c.trim-q.ensures s.1 }

-- they are corners
corners : (g : Over) (c : In-Corners g) → let F = machine (flag g.row.WIDE) in Bounds F c.trim-p.result c.trim-q.result × Corners F c.args.b c.trim-p.result c.trim-q.result
corners g c =
    let z = c.args in
    let j : Judges (machine (flag g.row.WIDE)) z.x z.a z.b c.trim-p.result c.trim-q.result Verdict.Corners = rw c.in-Corners.is at c.judge.ensures in
    j

pub trim-p-requires : goal.trim-p-requires
trim-p-requires g c = let z = c.args in (trim_takes _ (sound_machine (flag g.row.WIDE)) z.x z.a z.b (admits g (goal.at.trim-p-requires g c).Else-not-admitted) _ c.half_gaps-h.ensures).0

pub trim-q-requires : goal.trim-q-requires
trim-q-requires g c = let z = c.args in (trim_takes _ (sound_machine (flag g.row.WIDE)) z.x z.a z.b (admits g (goal.at.trim-q-requires g c).Else-not-admitted) _ c.half_gaps-h.ensures).1

pub grid_step-u-requires : goal.grid_step-u-requires
grid_step-u-requires g c = let t = trims g (goal.at.grid_step-u-requires g c).Else-not-p-q in (t.first.summed, t.second.summed)

pub judge-requires : goal.judge-requires
judge-requires g c = (trims g (goal.at.judge-requires g c).Else-not-p-q, (admits g (goal.at.judge-requires g c).Else-not-admitted).finite.2, c.grid_step-u.ensures.0, c.grid_step-u.ensures.1)

pub ends_of_b-requires : goal.ends_of_b-requires
ends_of_b-requires g c =
    let z = c.args in
    let u = c.grid_step-u in
    corners_of _ (sound_machine (flag g.row.WIDE)) z.x z.a z.b (admits g (goal.at.ends_of_b-requires g c).Else-not-admitted) _ _ (trims g (goal.at.ends_of_b-requires g c).Else-not-p-q) _ u.ensures.0 u.ensures.1 (corners g (goal.at.ends_of_b-requires g c).In-Corners)

pub returns-in-None : goal.returns-in-None
returns-in-None g c =
    let z = c.args in
    let F = machine (flag g.row.WIDE) in
    let j : Judges F z.x z.a z.b c.trim-p.result c.trim-q.result Verdict.None = rw c.in-None.is at c.judge.ensures in
    rw c.from.ensures (none_answer F (sound_machine (flag g.row.WIDE)) z.x z.a z.b (admits g (goal.at.returns-in-None g c).Else-not-admitted) j)

pub returns-in-Bounds : goal.returns-in-Bounds
returns-in-Bounds g c =
    let z = c.args in
    let F = machine (flag g.row.WIDE) in
    let j : Judges F z.x z.a z.b c.trim-p.result c.trim-q.result Verdict.Bounds = rw c.in-Bounds.is at c.judge.ensures in
    rw c.left_of.ensures (left_answer F (sound_machine (flag g.row.WIDE)) z.x z.a z.b (admits g (goal.at.returns-in-Bounds g c).Else-not-admitted) _ _ (trims g (goal.at.returns-in-Bounds g c).Else-not-p-q) j)

-- b's ends
ends : (g : Over) (c : In-Some g) → EndsOfB (machine (flag g.row.WIDE)) c.trim-p.result c.trim-q.result c.args.b c.in-Some.ends
ends g c = c.ends_of_b.ensures _ c.in-Some.is

pub returns-in_default : goal.returns-in_default
returns-in_default g c =
    let z = c.args in
    let F = machine (flag g.row.WIDE) in
    rw c.left_of-left.ensures (left_answer F (sound_machine (flag g.row.WIDE)) z.x z.a z.b (admits g (goal.at.returns-in_default g c).Else-not-admitted) _ _ (trims g (goal.at.returns-in_default g c).Else-not-p-q) (corners g (goal.at.returns-in_default g c).In-Corners).0)

pub canonical_ends-requires : goal.canonical_ends-requires
canonical_ends-requires g c =
    let t = trims g (goal.at.canonical_ends-requires g c).Else-not-p-q in
    rw c.left_of-left.ensures (ends_of_lem _ (left_x c.trim-p.result c.trim-q.result) t.first.summed.low t.second.summed.high)

pub canonical_ends-requires-in-Corners : goal.canonical_ends-requires-in-Corners
canonical_ends-requires-in-Corners g c =
    let t = trims g (goal.at.canonical_ends-requires-in-Corners g c).Else-not-p-q in
    rw c.left_of-left.ensures (ends_of_lem _ (left_a c.trim-p.result c.trim-q.result) t.second.summed.low t.first.summed.high)

pub canonical_ends-requires-in-Corners-2 : goal.canonical_ends-requires-in-Corners-2
canonical_ends-requires-in-Corners-2 g c =
    (ends g (goal.at.canonical_ends-requires-in-Corners-2 g c).In-Some).0

pub returns-in-Some : goal.returns-in-Some
returns-in-Some g c =
    let z = c.args in
    let F = machine (flag g.row.WIDE) in
    let at = goal.at.returns-in-Some g c in
    rw (c.canonical_ends.ensures, c.canonical_ends-in-Corners.ensures, c.canonical_ends-in-Corners-2.ensures, c.left_of-left.ensures)
    (ends_answer F (sound_machine (flag g.row.WIDE)) z.x z.a z.b (admits g at.Else-not-admitted) _ _ (trims g at.Else-not-p-q) (corners g at.In-Corners) _ (ends g at.In-Some))
