-- Demand 3 of the run, for records of every kind; and, under any rules that read a record's own cells, that a settled box is the largest consistent one.
-- By the inductions over a pass and a run (Runs). Of a step it knows that nothing grows (Shrinking) and what `IsStep` says:
-- no solution is lost, each end stands in one, other cells stay. Assumes nothing.
use mathlib.Core.Path.{◌≡◌, refl, sym, subst, ◌∙◌}
use mathlib.Core.Logic.{inl, inr}
use mathlib.Core.List.{List, [], ◌∷◌}
use Prim.Native.Nat.{ℕ, ◌+◌, ◌<◌}
use native.Mathlib.Omega.{arith}
use lib.ListN.{length}
use Rattle.ladder.specs.Solution.{In}
use Rattle.ladder.specs.Narrowing.{Spans}
use Rattle.sheet.specs.declared.kept.Record.{Record}
use Rattle.sheet.specs.Members.{Each, Member}
use Rattle.sheet.specs.Records.{named, Values, Rules, Local, fits}
use Rattle.sheet.specs.Boxes.{Box, at, IsBox, Contains}
use Rattle.propagation.specs.Runs.{Step, unsolved, left, step, Pass, broken, whole, pass_by, pass_from, pass, Ended, settled, stopped, no_triple, run, last_box}
use Rattle.propagation.specs.Consistency.{AllNames, Solution, Has, EndsStand, Stands, Consistent, Demand3}
use Rattle.sheet.proofs.Members.{each_member, each_map, among}
use Rattle.propagation.specs.Calls.{outcome_by}
use Rattle.propagation.proofs.Boxes.{Around, around, contains, contains_self, contains_all, contained_both}
use Rattle.sheet.proofs.Records.{x_named}
use Rattle.propagation.proofs.Shrinking.{step_shrunk, pass_shrunk, run_box}
use Rattle.propagation.proofs.Stepping.{Left, IsStep, step_is}
use Rattle.propagation.proofs.Fitting.{fits_local}
use Rattle.propagation.proofs.Runs.{run_all}

-- ---- a step
-- a solution in a box is one in every box around it
solution_out : (rules : Rules) (c d : Box) (r : Record) (v : Values) → Around c d → Solution rules d r v → Solution rules c r v
solution_out rules c d r v w s = record { inside = each_map (λ i. In (at d i) (v i)) (λ i. In (at c i) (v i)) (named r) outer s.inside; fits = s.fits }
  where
    outer : (i : ℕ) → In (at d i) (v i) → In (at c i) (v i)
    outer i h = let k = w i in record { low = omega (arith, k.low, h.low); high = omega (arith, k.high, h.high) }

has_out : (rules : Rules) (c d : Box) (r : Record) (i y : ℕ) → Around c d → Has rules d r i y → Has rules c r i y
has_out rules c d r i y w h = record { values = h.values; is = h.is; solution = solution_out rules c d r h.values w h.solution }

module _ (rules : Rules) (c : Box) (r : Record) (d : Box) (p : Left rules c r d) where
  spans_at : {i : ℕ} → Member i (named r) → Spans (Has rules c r i) (at d i)
  spans_at m = each_member (λ i. Spans (Has rules c r i) (at d i)) m p.spans

  -- a box in which the record stands, inside the box before a step, is inside the step's
  stays : (b : Box) → Stands rules b r → Around c b → Around d b
  stays b s w j = elim (among j (named r)) [
    | inl e ↦ rw (p.others j e) (w j)
    | inr m ↦
        let q = spans_at m in
        let h = each_member (EndsStand rules b r) m s in
        let l = q.all _ (has_out rules c b r j _ w h.0) in
        let u = q.all _ (has_out rules c b r j _ w h.1) in
        record { low = l.low; high = u.high }
  ]

-- a step that leaves the box as it was: the record stands in it
still : (rules : Rules) (c : Box) (r : Record) → Left rules c r c → Stands rules c r
still rules c r p = each_map (λ i. Spans (Has rules c r i) (at c i)) (EndsStand rules c r) (named r) (λ i q. (q.low, q.high)) p.spans

-- what holds of the box that a step leaves
pub record Stepped (rules : Rules) (c : Box) (r : Record) (d : Box) : Type 0 where
  pub is : Left rules c r d
  pub inside : Contains c d

-- ---- a pass
module _ (rules : Rules) (local : Local rules) where
  step_cases :
      (P : Step → Type 0) (c : Box) (r : Record) → Each (λ i. i < length c) (named r) →
      (((v : Values) → Solution rules c r v → ⊥) → P unsolved) → ((d : Box) → Stepped rules c r d → P (left d)) → P (step rules c r)
  step_cases P c r m off on = go (step rules c r) refl (step_is rules local c r m)
    where
      go : (s : Step) → step rules c r ≡ s → IsStep rules c r s → P s
      go unsolved e h = off h
      go (left d) e h = on d (record { is = h; inside = (step_shrunk rules c d r e).inside })

  -- the rest of a pass after a step
  abbrev rest : List Record → ℕ → Step → Pass
  rest rs k s = pass_by s (pass_from rules rs (k + 1)) k

  -- names are those of a box of the same length
  named_in : {n : ℕ} (c : Box) (r : Record) → length c ≡ n → Each (λ i. i < n) (named r) → Each (λ i. i < length c) (named r)
  named_in {n} c r e m = subst (λ (k : ℕ). Each (λ i. i < k) (named r)) (sym e) m

  -- the induction over a pass: what holds of each step holds of the whole. Q of the box that a step begins with
  module _ (n : ℕ) (Q : List Record → Box → Type 0) (P : List Record → ℕ → Box → Pass → Type 0)
      (ends : (k : ℕ) (c : Box) → Q [] c → P [] k c (whole c))
      (breaks : (r : Record) (rs : List Record) (k : ℕ) (c : Box) → Q (r ∷ rs) c → ((v : Values) → Solution rules c r v → ⊥) → P (r ∷ rs) k c (broken k))
      (next : (r : Record) (rs : List Record) (k : ℕ) (c d : Box) → Q (r ∷ rs) c → Stepped rules c r d → Q rs d)
      (more : (r : Record) (rs : List Record) (k : ℕ) (c d : Box) (t : Pass) → Q (r ∷ rs) c → Stepped rules c r d → P rs (k + 1) d t → P (r ∷ rs) k c t) where
    pub pass_all : (rs : List Record) (k : ℕ) (c : Box) → AllNames n rs → length c ≡ n → Q rs c → P rs k c (pass_from rules rs k c)
    unfolding pass_from
    pass_all [] k c m e q = ends k c q
    pass_all (r ∷ rs) k c m e q =
        step_cases (λ s. P (r ∷ rs) k c (rest rs k s)) c r (named_in c r e m.0)
        (λ off. breaks r rs k c q off)
        (λ d p. more r rs k c d (pass_from rules rs (k + 1) d) q p (pass_all rs (k + 1) d m.1 (p.inside.cells ∙ e) (next r rs k c d q p)))

  -- a consistent box inside the one that a pass began with: the pass runs through, and the box is inside the one it ends with
  abbrev Keeps : Box → Pass → Type 0
  Keeps b (broken k) = ⊥
  Keeps b (whole c) = Around c b

  pass_keeps : (rs : List Record) (k : ℕ) (c b : Box) → AllNames (length c) rs → Consistent rules rs b → Around c b → Keeps b (pass_from rules rs k c)
  pass_keeps rs k c b m s w =
      pass_all (length c) (λ rs c. Consistent rules rs b × Around c b) (λ rs k c t. Keeps b t)
      (λ k c q. q.1)
      (λ r rs k c q off.
      let h = (each_member (EndsStand rules b r) (x_named r) q.0.0).0 in
      off h.values (solution_out rules c b r h.values q.1 h.solution))
      (λ r rs k c d q p. (q.0.1, stays rules c r d p.is b q.0.0 q.1))
      (λ r rs k c d t q p h. h)
      rs k c m refl (s, w)

  -- a pass that ends with the box that it began with moved nothing at any step: that box is consistent
  abbrev Stills : List Record → Box → Pass → Type 0
  Stills rs c (broken k) = Unit {0}
  Stills rs c (whole d) = Contains c d × (Contains d c → Consistent rules rs c)

  still_more : (r : Record) (rs : List Record) (c d : Box) (t : Pass) → Stepped rules c r d → Stills rs d t → Stills (r ∷ rs) c t
  still_more r rs c d (broken k) p h = tt
  still_more r rs c d (whole b) p h = (
    contains_all c d b p.inside h.0,
    λ w.
        let same : d ≡ c = contained_both d c (contains_all d b c h.0 w) p.inside in
        (still rules c r (subst (Left rules c r) same p.is), subst (Consistent rules rs) same (h.1 (subst (Contains b) (sym same) w))),
  )

  pass_still : (rs : List Record) (k : ℕ) (c : Box) → AllNames (length c) rs → pass_from rules rs k c ≡ whole c → Consistent rules rs c
  pass_still rs k c m h =
      (subst (Stills rs c) h
      (pass_all (length c) (λ rs b. Unit {0}) (λ rs k b t. Stills rs b t)
      (λ k b q. (contains_self b, λ w. tt))
      (λ r rs k b q off. tt)
      (λ r rs k b d q p. tt)
      (λ r rs k b d t q p s. still_more r rs b d t p s)
      rs k c m refl tt)).1 (contains_self c)

-- ---- a run
module _ (rules : Rules) (records : List Record) (first : Box) where
  -- a box contains every consistent one within the first
  abbrev HoldsAll : Box → Type 0
  HoldsAll c = (b : Box) → Contains first b → Consistent rules records b → Contains c b

  -- the largest consistent box within the first
  pub record Largest (last : Box) : Type 0 where
    pub inside : Contains first last
    pub consistent : Consistent rules records last
    pub all : HoldsAll last

  -- demand 3, by how a run ended
  abbrev Means : Ended → Type 0
  Means (settled p last) = Largest last
  Means (stopped p last) = HoldsAll last
  Means (no_triple p k) = (b : Box) → Contains first b → Consistent rules records b → ⊥

  -- a box that a pass begins with
  record Reached (c : Box) : Type 0 where
    inside : Contains first c
    all : HoldsAll c

module _ (rules : Rules) (local : Local rules) (records : List Record) (first : Box) (names : AllNames (length first) records) where
  abbrev Here : Box → Type 0
  Here = Reached rules records first

  named_here : (c : Box) → Here c → AllNames (length c) records
  named_here c q = subst (λ (n : ℕ). AllNames n records) (sym q.inside.cells) names

  kept : (c b : Box) → Here c → Contains first b → Consistent rules records b → Keeps rules local b (pass rules records c)
  kept c b q k s = pass_keeps rules local records 0 c b (named_here c q) s (around c b (q.all b k s))

  reached_next : (c d : Box) → Here c → pass rules records c ≡ whole d → Here d
  reached_next c d q h =
      let w = contains_all first c d q.inside (pass_shrunk rules records c d h).inside in
      record {
        inside = w;
        all = λ b k s. contains d b (k.cells ∙ sym w.cells) (subst (Keeps rules local b) h (kept c b q k s));
      }

  run_means : (limit : ℕ) → Means rules records first (run rules records limit first)
  run_means limit =
      run_all rules records Here (Means rules records first) reached_next
      (λ p c q h. record { inside = q.inside; consistent = pass_still rules local records 0 c (named_here c q) h; all = q.all })
      (λ p c q. q.all)
      (λ p k c q h b w s. subst (Keeps rules local b) h (kept c b q w s))
      limit first (record { inside = contains_self first; all = λ b k s. k })

  -- a settled run's box is the largest consistent one within the first
  pub settled_largest : (limit p : ℕ) (last : Box) → run rules records limit first ≡ settled p last → Largest rules records first last
  settled_largest limit p last h = subst (Means rules records first) h (run_means limit)

-- ---- under 02's rules
module _ (f e : ℕ) (records : List Record) (limit : ℕ) (first : Box) (is : IsBox f e (length first) first) (names : AllNames (length first) records) where
  abbrev rules : Rules
  rules = fits f e

  local : Local rules
  local = fits_local f e

  abbrev Meant : Ended → Type 0
  Meant t = Demand3 f e records first (last_box first t) (outcome_by t)

  meant : (t : Ended) → IsBox f e (length first) (last_box first t) → Means rules records first t → Meant t
  meant (settled p last) b m = (record { is = b; inside = m.inside; consistent = m.consistent }, λ box k. m.all box k.inside k.consistent)
  meant (stopped p last) b m = λ box k. m box k.inside k.consistent
  meant (no_triple p k) b m = λ box k. m box k.inside k.consistent

  -- demand 3
  pub run_demand3 : Meant (run rules records limit first)
  run_demand3 = meant (run rules records limit first) (run_box rules f e (length first) records limit first is) (run_means rules local records first names limit)
