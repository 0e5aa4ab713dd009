-- 01's steady box, the consistent box of constraint propagation, for records of every kind, and demand 3. Assumes nothing.
use Rattle.std.specs.Prelude.{◌≡◌, true, List, ℕ, ◌<◌, length}
use Rattle.ladder.specs.Solution.{In}
use Rattle.sheet.specs.Members.{Each}
use Rattle.sheet.specs.Records.{named, Values, Rules, fits}
use Rattle.sheet.specs.declared.kept.Record.{Record}
use Rattle.propagation.specs.declared.passes.Outcome.{Outcome}
use Rattle.propagation.specs.declared.passes.Outcome.TheVariants.{Settled, NoTriple, Stopped, Refused}
use Rattle.sheet.specs.Boxes.{Box, at, IsBox, Contains}

-- the cells that each record names are among the n that there are (else refusal 5)
abbrev pub AllNames : ℕ → List Record → Type 0
AllNames n records = Each (λ r. Each (λ i. i < n) (named r)) records

-- 01's triple, 02's pair: values of the record's cells, each inside its interval, that fit it
pub record Solution (rules : Rules) (box : Box) (r : Record) (v : Values) : Type 0 where
  pub inside : Each (λ i. In (at box i) (v i)) (named r)
  pub fits : rules r v ≡ true

-- y stands at cell i in a solution of the record inside the box
pub record Has (rules : Rules) (box : Box) (r : Record) (i y : ℕ) : Type 0 where
  pub values : Values
  pub is : values i ≡ y
  pub solution : Solution rules box r values

-- both ends of cell i stand in a solution
abbrev pub EndsStand : Rules → Box → Record → ℕ → Type 0
EndsStand rules box r i = Has rules box r i (at box i).low × Has rules box r i (at box i).high

-- so do those of each cell that the record names
abbrev pub Stands : Rules → Box → Record → Type 0
Stands rules box r = Each (EndsStand rules box r) (named r)

-- 01's steady box: so for every record
abbrev pub Consistent : Rules → List Record → Box → Type 0
Consistent rules records box = Each (Stands rules box) records

-- a consistent box that the first one contains
pub record ConsistentIn (f e : ℕ) (records : List Record) (first box : Box) : Type 0 where
  pub is : IsBox f e (length first) box
  pub inside : Contains first box
  pub consistent : Consistent (fits f e) records box

-- a box contains every consistent box within the first
abbrev pub ContainsAll : ℕ → ℕ → List Record → Box → Box → Type 0
ContainsAll f e records first last = (box : Box) → ConsistentIn f e records first box → Contains last box

-- demand 3, on the whole run from the box first given to the last one, by how it ended; what was refused was not run
abbrev pub Demand3 : ℕ → ℕ → List Record → Box → Box → Outcome → Type 0
Demand3 f e records first last (Settled p) = ConsistentIn f e records first last × ContainsAll f e records first last
Demand3 f e records first last (Stopped p) = ContainsAll f e records first last
Demand3 f e records first last (NoTriple p k) = (box : Box) → ConsistentIn f e records first box → ⊥
Demand3 f e records first last (Refused r) = Unit {0}
