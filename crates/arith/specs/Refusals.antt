-- 01's refusals: a reason with its number, and a place. Assumes nothing.
use Rattle.std.specs.Prelude.{ℕ, Bool, cond, List, ◌++◌, codes, Result, Ok, Err}
use Rattle.std.specs.Fmt.{decimal}
use Rattle.arith.specs.declared.refusal.Reason.{Reason}
use Rattle.arith.specs.declared.refusal.Refusal.{Refusal}

-- 01's number of a reason
abbrev pub number : Reason → ℕ
number Reason.Width = 1
number Reason.NotFinite = 2
number Reason.Reversed = 3
number Reason.Malformed = 4
number Reason.NoCell = 5
number Reason.Limit = 7
number Reason.TooLong = 8
number Reason.Overflow = 9
number Reason.Full = 10
number Reason.NoTriple = 11
number Reason.Short = 13

-- the refusal of a reason at a place
abbrev pub refusal_at : Reason → ℕ → Refusal
refusal_at reason place = record { reason = reason; place = place }

-- outside lists, sheets and texts 01's place is 0
abbrev pub refusal : Reason → Refusal
refusal reason = refusal_at reason 0

-- a refusal as it is printed: the word, its number and its place
abbrev pub refusal_text : Refusal → List ℕ
refusal_text r = codes "refused " ++ (decimal (number r.reason) ++ (codes " " ++ decimal r.place))

-- a test: its reason, where it is not passed
abbrev pub tested : Bool → Reason → Result Unit Reason
tested ok reason = cond ok (Ok tt) (Err reason)

-- the rest of the answer where the test holds, else the refusal: an answer's tests stand in 01's order
abbrev pub or_refuse : {A : Type 0} → Bool → Reason → Result A Refusal → Result A Refusal
or_refuse ok reason rest = cond ok rest (Err (refusal reason))
