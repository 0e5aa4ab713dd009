-- What the code makes of the intervals of a record's cells, by its kind and by which of its numbers name one cell. That this is 01's step on a sheet's cells is a law of proofs/Steps. Assumes nothing.
use Rattle.std.specs.Prelude.{Bool, cond, ℕ, eqb, Option, Some, None, Result, Ok, Err}
use Rattle.arith.specs.declared.interval.Interval.{Interval}
use Rattle.arith.specs.declared.refusal.Reason.{Reason}
use Rattle.arith.specs.declared.refusal.Refusal.{Refusal}
use Rattle.arith.specs.declared.narrow.Narrowed.{Narrowed}
use Rattle.arith.specs.declared.repeated.Paired.{Paired}
use Rattle.arith.specs.Refusals.{refusal}
use Rattle.arith.specs.Formats.{format_of}
use Rattle.arith.specs.Intervals.{mirrored_ends, cut_of}
use Rattle.arith.specs.Narrows.{narrow_of}
use Rattle.arith.specs.Repeats.{doubling, absorbing, pair_of}
use Rattle.sheet.specs.declared.kept.Record.{Record}
use Rattle.sheet.specs.declared.kind.Kind.{Kind}
use Rattle.sheet.specs.declared.kind.Kind.TheVariants.{Sum, Diff, Neg}
use Rattle.sheet.specs.Kinds.{kind_of}
use Rattle.sheet.specs.Sheets.{no_cell}
use Rattle.propagation.specs.declared.step.Alike.{Alike}

-- ---- a sum, or a diff, which is a sum with the mirror of a
-- the first for a diff, else the second
abbrev pub if_diff : {A : Type 0} → Kind → A → A → A
if_diff Sum p q = q
if_diff Diff p q = p
if_diff Neg p q = q

-- the mirror for a diff, the interval itself for a sum
abbrev pub turned : ℕ → Kind → Interval → Interval
turned width kind I = if_diff kind (mirrored_ends (format_of width) I) I

-- an answer with its second interval so turned
abbrev pub turn_second : ℕ → Kind → Result Narrowed Refusal → Result Narrowed Refusal
turn_second width kind (Ok n) = Ok (record { x = n.x; a = turned width kind n.a; b = n.b })
turn_second width kind (Err r) = Err r

-- over three cells
abbrev pub three_answer : ℕ → Kind → Interval → Interval → Interval → Result Narrowed Refusal
three_answer width kind x a b = turn_second width kind (narrow_of width x (turned width kind a) b)

-- ---- a sum or a diff with one cell in two places or in all three
-- which of the numbers x, a and b are one, if any are
abbrev pub alike_of : ℕ → ℕ → ℕ → Option Alike
alike_of x a b =
    cond (eqb x a) (cond (eqb x b) (Some Alike.All) (Some Alike.XA))
    (cond (eqb x b) (Some Alike.XB) (cond (eqb a b) (Some Alike.AB) None))

-- the first interval as it came, and what the second shares with zero; 11 where that is nothing
abbrev pub zero_by : Interval → Result (Option Interval) Refusal → Result Paired Refusal
zero_by p (Ok (Some z)) = Ok (record { p = p; q = z })
zero_by p (Ok None) = Err (refusal Reason.NoTriple)
zero_by p (Err r) = Err r

-- so zero alone is left of q
abbrev pub zero_answer : ℕ → Interval → Interval → Result Paired Refusal
zero_answer width p q = zero_by p (cut_of width q no_cell)

-- a pair with its second interval turned
abbrev pub turn_other : ℕ → Kind → Result Paired Refusal → Result Paired Refusal
turn_other width kind (Ok n) = Ok (record { p = n.p; q = turned width kind n.q })
turn_other width kind (Err r) = Err r

-- of the cell named twice and of the other. XA: x ⊕ x = b; x ⊖ x = b says that b is zero. XB: x ⊕ a = x, with the mirror of a for x ⊖ a = x.
-- AB: x ⊕ a = a, where a absorbs x; x ⊖ a = a says that a ⊕ a = x. All three alike leave zero
abbrev pub two_answer : ℕ → Kind → Alike → Interval → Interval → Interval → Result Paired Refusal
two_answer width kind Alike.XA x a b = if_diff kind (zero_answer width x b) (pair_of doubling width x b)
two_answer width kind Alike.XB x a b = turn_other width kind (pair_of absorbing width x (turned width kind a))
two_answer width kind Alike.AB x a b = if_diff kind (pair_of doubling width a x) (pair_of absorbing width a x)
two_answer width kind Alike.All x a b = zero_answer width x x

-- the pair as x, a and b
abbrev pub in_roles : Alike → Interval → Interval → Narrowed
in_roles Alike.XA p q = record { x = p; a = p; b = q }
in_roles Alike.XB p q = record { x = p; a = q; b = p }
in_roles Alike.AB p q = record { x = q; a = p; b = p }
in_roles Alike.All p q = record { x = q; a = q; b = q }

-- so an answer for the pair
abbrev pub pair_in_roles : Alike → Result Paired Refusal → Result Narrowed Refusal
pair_in_roles alike (Ok n) = Ok (in_roles alike n.p n.q)
pair_in_roles alike (Err r) = Err r

-- ---- a neg
-- what is shared and the mirror of that, b as it came; 11 where nothing is shared
abbrev pub mirror_by : ℕ → Interval → Result (Option Interval) Refusal → Result Narrowed Refusal
mirror_by width b (Ok (Some p)) = Ok (record { x = p; a = mirrored_ends (format_of width) p; b = b })
mirror_by width b (Ok None) = Err (refusal Reason.NoTriple)
mirror_by width b (Err r) = Err r

-- of what x shares with the mirror of a
abbrev pub mirror_answer : ℕ → Interval → Interval → Interval → Result Narrowed Refusal
mirror_answer width x a b = mirror_by width b (cut_of width x (mirrored_ends (format_of width) a))

-- of one cell: zero alone, in both places
abbrev pub both_by : Interval → Result Paired Refusal → Result Narrowed Refusal
both_by b (Ok n) = Ok (record { x = n.q; a = n.q; b = b })
both_by b (Err r) = Err r

-- of one cell or of two
abbrev pub neg_answer : ℕ → Bool → Interval → Interval → Interval → Result Narrowed Refusal
neg_answer width one x a b = cond one (both_by b (zero_answer width x x)) (mirror_answer width x a b)

-- ---- a record
-- a sum or a diff, by which numbers are one
abbrev pub answer_by : Option Alike → ℕ → Kind → Interval → Interval → Interval → Result Narrowed Refusal
answer_by None width kind x a b = three_answer width kind x a b
answer_by (Some alike) width kind x a b = pair_in_roles alike (two_answer width kind alike x a b)

-- of the kind
abbrev pub kind_answer : Kind → ℕ → Record → Interval → Interval → Interval → Result Narrowed Refusal
kind_answer Sum width r x a b = answer_by (alike_of r.x r.a r.b) width Sum x a b
kind_answer Diff width r x a b = answer_by (alike_of r.x r.a r.b) width Diff x a b
kind_answer Neg width r x a b = neg_answer width (eqb r.x r.a) x a b

-- by its kind
unfoldable pub record_answer : ℕ → Record → Interval → Interval → Interval → Result Narrowed Refusal
record_answer width r x a b = kind_answer (kind_of r.kind) width r x a b
