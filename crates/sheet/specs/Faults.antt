-- What is wrong with a sheet's head, a cell or a record: nothing, or the reason of 01's refusal. Opening, adding and testing follow this order. Assumes nothing.
use Rattle.std.specs.Prelude.{Bool, cond, ◌&&◌, List, [], ◌∷◌, ℕ, ltb, leb, eqb, Result, Ok, Err}
use Rattle.arith.specs.declared.interval.Interval.{Interval}
use Rattle.arith.specs.declared.refusal.Reason.{Reason}
use Rattle.arith.specs.declared.refusal.Refusal.{Refusal}
use Rattle.arith.specs.Formats.{is_known}
use Rattle.arith.specs.Intervals.{canonical_of}
use Rattle.sheet.specs.declared.kept.Record.{Record}
use Rattle.sheet.specs.Records.{named}

-- nothing, or the reason of the refusal
abbrev pub Fault : Type 0
Fault = Result Unit Reason

-- the width and the pass limit: 1; 7 for a limit of 0 or above 65,535
unfoldable pub head_fault : ℕ → ℕ → Fault
head_fault width limit =
    cond (is_known width)
    (cond (ltb limit 1) (Err Reason.Limit)
    (cond (ltb 65535 limit) (Err Reason.Limit) (Ok tt)))
    (Err Reason.Width)

-- the reason of an answer's refusal
abbrev pub fault_of : {A : Type 0} → Result A Refusal → Fault
fault_of (Ok a) = Ok tt
fault_of (Err r) = Err r.reason

-- a cell: 2 for low, then high; 3 for low above high (1 at a width that is none)
unfoldable pub cell_fault : ℕ → Interval → Fault
cell_fault width cell = fault_of (canonical_of width cell)

-- whether a record is a neg whose third number is not 0
abbrev pub has_third : Record → Bool
has_third r = eqb r.kind 2 && ltb 0 r.b

-- cells that a record names, of n: 5 for one that the sheet has not got
unfoldable pub named_fault : ℕ → List ℕ → Fault
named_fault n [] = Ok tt
named_fault n (i ∷ is) = cond (leb n i) (Err Reason.NoCell) (named_fault n is)

-- a record over n cells: 4 for a kind that is none of 0, 1, 2, and for a neg whose third number is not 0; then 5 for the cells that it names
unfoldable pub record_fault : ℕ → Record → Fault
record_fault n r =
    cond (ltb 2 r.kind) (Err Reason.Malformed)
    (cond (has_third r) (Err Reason.Malformed)
    (named_fault n (named r)))
