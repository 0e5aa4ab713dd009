-- 02's R-14, a narrower start and a longer run: what holds between two runs, under any rules that read a record's own cells, and between any two calls that keep their contracts. Assumes nothing.
use Rattle.std.specs.Prelude.{◌≡◌, List, ℕ, ◌≤◌, length}
use Rattle.sheet.specs.declared.kept.Record.{Record}
use Rattle.sheet.specs.declared.kept.Sheet.{Sheet}
use Rattle.propagation.specs.declared.passes.Outcome.{Outcome}
use Rattle.propagation.specs.declared.passes.Outcome.TheVariants.{Settled, NoTriple, Stopped, Refused}
use Rattle.propagation.specs.declared.narrowing.Run.{Run}
use Rattle.sheet.specs.Members.{SameMembers}
use Rattle.sheet.specs.Records.{Rules, Local}
use Rattle.sheet.specs.Boxes.{Box, Contains}
use Rattle.sheet.specs.Cells.{rules_of}
use Rattle.propagation.specs.Runs.{Ended, settled, stopped, no_triple, run}
use Rattle.propagation.specs.Consistency.{AllNames}
use Rattle.propagation.specs.Narrowings.{NarrowsSheet}
use Rattle.propagation.specs.Calls.{Call, kept_call, Narrows, box_before, box_after}

-- ---- runs
-- under some limit a run from `first` settles with `last`
pub record SettlesWith (rules : Rules) (records : List Record) (first last : Box) : Type 0 where
  pub limit : ℕ
  pub passes : ℕ
  pub ends : run rules records limit first ≡ settled passes last

-- a run that ended so left a box inside this one, or it failed
abbrev pub InsideOrFails : Box → Ended → Type 0
InsideOrFails box (settled p last) = Contains box last
InsideOrFails box (stopped p last) = Contains box last
InsideOrFails box (no_triple p k) = Unit {0}

-- R-14 on runs
pub record PlannedRuns (rules : Rules) : Type 0 where
  -- 'if one starting box lies inside another under the same records and both settle, the first answer lies inside the second': whatever the limits, and the order of the records
  pub narrower :
      (records others : List Record) (outer inner outerLast innerLast : Box) → AllNames (length outer) records → SameMembers records others → Contains outer inner →
      SettlesWith rules records outer outerLast → SettlesWith rules others inner innerLast → Contains outerLast innerLast
  -- 'raising the pass limit, from the same start, keeps a settled answer, or a failure at its pass and record, exactly as it was': a settled answer
  pub settled_stays :
      (records : List Record) (first : Box) (limit higher : ℕ) → limit ≤ higher →
      (p : ℕ) (last : Box) → run rules records limit first ≡ settled p last → run rules records higher first ≡ settled p last
  -- and a failure
  pub failure_stays :
      (records : List Record) (first : Box) (limit higher : ℕ) → limit ≤ higher →
      (p k : ℕ) → run rules records limit first ≡ no_triple p k → run rules records higher first ≡ no_triple p k
  -- 'A stopped sheet may change, but its box then never grows, or the sheet fails'
  pub never_grows :
      (records : List Record) (first : Box) (limit higher : ℕ) → limit ≤ higher →
      (p : ℕ) (last : Box) → run rules records limit first ≡ stopped p last → InsideOrFails last (run rules records higher first)
  -- 'The order of records may alter the number of passes, and so whether the limit is met, but where two orders from the same start both settle their boxes are equal'
  pub reordered :
      (records others : List Record) (first last otherLast : Box) → AllNames (length first) records → SameMembers records others →
      SettlesWith rules records first last → SettlesWith rules others first otherLast → otherLast ≡ last

-- ---- two calls
-- a call has settled
pub record HasSettled (c : Call) : Type 0 where
  pub passes : ℕ
  pub is : c.outcome ≡ Settled passes

-- an outcome of a run, and no refusal of what was handed in
abbrev pub NotRefused : Outcome → Type 0
NotRefused (Settled p) = Unit {0}
NotRefused (Stopped p) = Unit {0}
NotRefused (NoTriple p k) = Unit {0}
NotRefused (Refused r) = ⊥

-- d starts inside the box that c starts from, at the same width, under the same records
pub record StartsInside (c d : Call) : Type 0 where
  pub width : d.problem.width ≡ c.problem.width
  pub records : SameMembers c.problem.records d.problem.records
  pub inside : Contains (box_before c) (box_before d)

-- d starts from the box that c starts from, at the same width, under the same records in their order and a limit as high or higher, and is not refused
pub record Raised (c d : Call) : Type 0 where
  pub width : d.problem.width ≡ c.problem.width
  pub records : d.problem.records ≡ c.problem.records
  pub start : box_before d ≡ box_before c
  pub longer : c.limit ≤ d.limit
  pub taken : NotRefused d.outcome

-- d starts from the box that c starts from, at the same width, under the same records in whatever order
pub record Reordered (c d : Call) : Type 0 where
  pub width : d.problem.width ≡ c.problem.width
  pub records : SameMembers c.problem.records d.problem.records
  pub start : box_before d ≡ box_before c

-- a call with this outcome and this box after it was not refused, and unless it failed its box lies inside the given one
abbrev pub LeavesInside : Box → Outcome → Box → Type 0
LeavesInside box (Settled p) after = Contains box after
LeavesInside box (Stopped p) after = Contains box after
LeavesInside box (NoTriple p k) after = Unit {0}
LeavesInside box (Refused r) after = ⊥

-- R-14 on two calls, each on a kept sheet or on lent lists
pub record PlannedCalls (c d : Call) : Type 0 where
  -- 'if one starting box lies inside another under the same records and both settle, the first answer lies inside the second': d is 02's first, c its second
  pub narrower : StartsInside c d → HasSettled c → HasSettled d → Contains (box_after c) (box_after d)
  -- 'raising the pass limit, from the same start, keeps a settled answer, or a failure at its pass and record, exactly as it was': a settled answer, every cell in its pattern
  pub settled_stays : Raised c d → (p : ℕ) → c.outcome ≡ Settled p → (d.outcome ≡ Settled p) × (d.after ≡ c.after)
  -- and a failure, which leaves the cells as they came
  pub failure_stays : Raised c d → (p k : ℕ) → c.outcome ≡ NoTriple p k → (d.outcome ≡ NoTriple p k) × (d.after ≡ d.problem.cells)
  -- 'A stopped sheet may change, but its box then never grows, or the sheet fails'
  pub never_grows : Raised c d → (p : ℕ) → c.outcome ≡ Stopped p → LeavesInside (box_after c) d.outcome (box_after d)
  -- 'The order of records may alter the number of passes, and so whether the limit is met, but where two orders from the same start both settle their boxes are equal':
  -- so every cell is, in its pattern
  pub reordered : Reordered c d → HasSettled c → HasSettled d → d.after ≡ c.after
  -- what is handed in again under another limit from 1 to 65,535 (else refusal 7) is not refused where it was not
  pub not_refused : d.problem ≡ c.problem → 1 ≤ d.limit → d.limit ≤ 65535 → NotRefused c.outcome → NotRefused d.outcome

-- ---- R-14 whole
pub record Planned : Type 0 where
  pub runs : (rules : Rules) → Local rules → PlannedRuns rules
  -- under 02's rules, so for records of every kind
  pub every_kind : (width : ℕ) → PlannedRuns (rules_of width)
  pub calls : (c d : Call) → Narrows c → Narrows d → PlannedCalls c d
  -- 'Planners start a sheet from yesterday's tighter cells': the cells after a call lie inside those before it
  pub tighter : (c : Call) → Narrows c → Contains (box_before c) (box_after c)
  -- so a sheet that was handed back, handed in again, starts inside the box that it first started from
  pub again : (s : Sheet) (r next : Run) → length s.cells ≡ 64 → length s.records ≡ 128 → NarrowsSheet s r → StartsInside (kept_call s r) (kept_call r.sheet next)
