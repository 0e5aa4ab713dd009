-- When a run ends as it does, pass by pass; and 01's cells that no record names. Assumes nothing.
use Rattle.std.specs.Prelude.{◌≡◌, ◌≢◌, ◌↔◌, List, ℕ, ◌+◌, ◌≤◌}
use Rattle.sheet.specs.declared.kept.Record.{Record}
use Rattle.propagation.specs.declared.passes.Outcome.{Outcome}
use Rattle.propagation.specs.declared.passes.Outcome.TheVariants.{Settled, NoTriple, Stopped}
use Rattle.sheet.specs.Boxes.{Box}
use Rattle.propagation.specs.Runs.{broken, whole, pass}
use Rattle.sheet.specs.Members.{Each}
use Rattle.sheet.specs.Records.{named, Rules}

-- pass p begins with the box: every pass before it ran through and moved an end
pub data Begins (rules : Rules) (records : List Record) (first : Box) : ℕ → Box → Type 0 where
  start : Begins rules records first 1 first
  next : {p : ℕ} {box new : Box} → Begins rules records first p box → pass rules records box ≡ whole new → (box ≡ new → ⊥) → Begins rules records first (p + 1) new

-- an allowed pass is the first to run through and move no end
pub record Settles (rules : Rules) (records : List Record) (limit : ℕ) (first : Box) (p : ℕ) (box : Box) : Type 0 where
  pub allowed : p ≤ limit
  pub begins : Begins rules records first p box
  pub still : pass rules records box ≡ whole box

-- every allowed pass ran through and moved an end
pub record Stops (rules : Rules) (records : List Record) (limit : ℕ) (first : Box) (p : ℕ) (box : Box) : Type 0 where
  pub before : Box
  pub at_limit : p ≡ limit
  pub begins : Begins rules records first p before
  pub through : pass rules records before ≡ whole box
  pub moved : before ≡ box → ⊥

-- an allowed pass meets a record with no solution
pub record Breaks (rules : Rules) (records : List Record) (limit : ℕ) (first : Box) (p k : ℕ) : Type 0 where
  pub before : Box
  pub allowed : p ≤ limit
  pub begins : Begins rules records first p before
  pub breaks : pass rules records before ≡ broken k

-- how a run from the first box ended, with the last one: each outcome, and its box, exactly when the allowed passes did so
pub record EndsWhen (rules : Rules) (records : List Record) (limit : ℕ) (first last : Box) (o : Outcome) : Type 0 where
  pub settled : (p : ℕ) (box : Box) → (o ≡ Settled p) × (last ≡ box) ↔ Settles rules records limit first p box
  pub stopped : (p : ℕ) (box : Box) → (o ≡ Stopped p) × (last ≡ box) ↔ Stops rules records limit first p box
  pub no_triple : (p k : ℕ) → o ≡ NoTriple p k ↔ Breaks rules records limit first p k

-- 01: no record names cell i
abbrev pub Unnamed : ℕ → List Record → Type 0
Unnamed i records = Each (λ r. Each (λ j. i ≢ j) (named r)) records
