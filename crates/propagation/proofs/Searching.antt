-- The search for a record's solutions finds one exactly where there is one, and what stands at a cell runs from the least to the greatest value there. Assumes nothing.
use mathlib.Core.Path.{◌≡◌, refl, sym, ap, subst, ◌∙◌}
use mathlib.Core.Logic.{◌≢◌}
use mathlib.Core.Bool.{Bool, true, false}
use mathlib.Core.List.{List, [], ◌∷◌}
use Prim.Native.Nat.{ℕ, ◌<◌}
use native.Mathlib.Omega.{arith}
use native.Mathlib.Decide.{ℕ_discrete}
use lib.Dec.{T}
use lib.ListN.{length}
use lib.Seq.{get_or-set_same}
use borrow.Author.Tests.{eq-eqb, ne_eqb}
use Rattle.ladder.specs.Solution.{Interval, In}
use Rattle.ladder.proofs.Extents.{some_in, any_in_lem, IsExtent, extent_in_lem}
use Rattle.sheet.specs.declared.kept.Record.{Record}
use Rattle.sheet.specs.Members.{Each, Member}
use Rattle.sheet.specs.Records.{named, Values, Rules, Local}
use Rattle.sheet.specs.Boxes.{Box, at}
use Rattle.propagation.specs.Runs.{assigned, some_values, solvable, held, standing}
use Rattle.propagation.specs.Consistency.{Solution, Has}
use Rattle.sheet.proofs.Members.{each_member, each_map}
use Rattle.propagation.proofs.Boxes.{set_cases}

-- ---- tests
pub true_holds : (b : Bool) → b ≡ true → T b
true_holds b e = subst T (sym e) tt

pub holds_true : (b : Bool) → T b → b ≡ true
holds_true true h = refl
holds_true false h = absurd h

-- ---- a value assigned
assigned_cases : (P : ℕ → Type 0) (v : Values) (i y j : ℕ) → (j ≡ i → P y) → (j ≢ i → P (v j)) → P (assigned v i y j)
assigned_cases P v i y j p q = go (ℕ_discrete j i)
  where
    go : Dec (j ≡ i) → P (assigned v i y j)
    go (yes e) = rw (eq-eqb j i e) (p e)
    go (no n) = rw (ne_eqb j i n) (q n)

-- ---- the search
module _ (box : Box) (t : Values → Bool) where
  -- values found from u on
  record Found (is : List ℕ) (u : Values) : Type 0 where
    values : Values
    holds : T (t values)
    keeps : (j : ℕ) → In (at box j) (u j) → In (at box j) (values j)
    inside : Each (λ i. In (at box i) (values i)) is

  found : (is : List ℕ) (u : Values) → T (some_values box is t u) → Found is u
  unfolding some_values
  found [] u h = record { values = u; holds = h; keeps = λ j k. k; inside = tt }
  found (i ∷ is) u h =
      let s = some_in (at box i) (λ y. some_values box is t (assigned u i y)) h in
      let g = found is (assigned u i s.z) s.holds in
      record {
        values = g.values;
        holds = g.holds;
        keeps = λ j k. g.keeps j (assigned_cases (In (at box j)) u i s.z j (λ e. subst (λ (c : ℕ). In (at box c) s.z) (sym e) s.inside) (λ n. k));
        inside = (g.keeps i (assigned_cases (In (at box i)) u i s.z i (λ e. s.inside) (λ n. absurd (n refl))), g.inside);
      }

  -- v's values at some cells, u's at the others
  overlaid : Values → List ℕ → Values → Values
  overlaid u [] v = u
  overlaid u (i ∷ is) v = overlaid (assigned u i (v i)) is v

  any_values : (is : List ℕ) (u v : Values) → Each (λ i. In (at box i) (v i)) is → T (t (overlaid u is v)) → T (some_values box is t u)
  unfolding some_values overlaid
  any_values [] u v e h = h
  any_values (i ∷ is) u v e h = any_in_lem (at box i) (λ y. some_values box is t (assigned u i y)) (v i) e.0 (any_values is (assigned u i (v i)) v e.1 h)

  overlaid_keeps : (v : Values) (is : List ℕ) (u : Values) (j : ℕ) → u j ≡ v j → overlaid u is v j ≡ v j
  unfolding overlaid
  overlaid_keeps v [] u j e = e
  overlaid_keeps v (i ∷ is) u j e = overlaid_keeps v is (assigned u i (v i)) j (assigned_cases (λ y. y ≡ v j) u i (v i) j (λ q. ap v (sym q)) (λ n. e))

  overlaid_at : (v : Values) (is : List ℕ) (u : Values) → Each (λ i. overlaid u is v i ≡ v i) is
  unfolding overlaid
  overlaid_at v [] u = tt
  overlaid_at v (i ∷ is) u =
      (overlaid_keeps v is (assigned u i (v i)) i (assigned_cases (λ y. y ≡ v i) u i (v i) i (λ q. refl) (λ n. absurd (n refl))), overlaid_at v is (assigned u i (v i)))

-- ---- a solution, with its values
record Solved (rules : Rules) (box : Box) (r : Record) : Type 0 where
  values : Values
  solution : Solution rules box r values

module _ (rules : Rules) (local : Local rules) (box : Box) (r : Record) where
  solution_found : T (solvable rules box r) → Solved rules box r
  unfolding solvable
  solution_found h =
      let g = found box (rules r) (named r) (λ _. 0) h in
      record { values = g.values; solution = record { inside = g.inside; fits = holds_true _ g.holds } }

  solution_any : (v : Values) → Solution rules box r v → T (solvable rules box r)
  unfolding solvable
  solution_any v s =
      any_values box (rules r) (named r) (λ _. 0) v s.inside
      (true_holds _ (local r (overlaid box (rules r) (λ _. 0) (named r) v) v (overlaid_at box (rules r) v (named r) (λ _. 0)) ∙ s.fits))

-- ---- what stands at a cell
module _ (rules : Rules) (local : Local rules) (box : Box) (r : Record) (i : ℕ) (m : Member i (named r)) (l : i < length box) where
  at_held : (y : ℕ) → at (held box i y) i ≡ record { low = y; high = y }
  at_held y = get_or-set_same box i (record { low = y; high = y }) (record { low = 0; high = 0 }) l

  value_held : (y : ℕ) (v : Values) → Solution rules (held box i y) r v → v i ≡ y
  value_held y v s =
      let h : In (record { low = y; high = y }) (v i) = subst (λ (I : Interval). In I (v i)) (at_held y) (each_member (λ j. In (at (held box i y) j) (v j)) m s.inside) in
      omega (arith, h.low, h.high)

  -- a solution in the box with cell i held is one in the box, and the other way round
  unheld : (y : ℕ) (v : Values) → In (at box i) y → Solution rules (held box i y) r v → Solution rules box r v
  unheld y v k s = record { inside = each_map (λ j. In (at (held box i y) j) (v j)) (λ j. In (at box j) (v j)) (named r) outer s.inside; fits = s.fits }
    where
      outer : (j : ℕ) → In (at (held box i y) j) (v j) → In (at box j) (v j)
      outer j =
          set_cases (λ I. In I (v j) → In (at box j) (v j)) box i j (record { low = y; high = y })
          (λ h. h)
          (λ e h. subst (λ (c : ℕ). In (at box c) (v j)) (sym e) (record { low = omega (arith, h.low, k.low); high = omega (arith, h.high, k.high) }))

  hold : (y : ℕ) (v : Values) → v i ≡ y → Solution rules box r v → Solution rules (held box i y) r v
  hold y v q s = record { inside = each_map (λ j. In (at box j) (v j)) (λ j. In (at (held box i y) j) (v j)) (named r) inner s.inside; fits = s.fits }
    where
      inner : (j : ℕ) → In (at box j) (v j) → In (at (held box i y) j) (v j)
      inner j h =
          set_cases (λ I. In I (v j)) box i j (record { low = y; high = y })
          h
          (λ e. let z : v j ≡ y = ap v e ∙ q in record { low = omega (arith, z); high = omega (arith, z) })

  pub standing_is : IsExtent (Has rules box r i) (standing rules box r i)
  unfolding standing
  standing_is =
      extent_in_lem (at box i) (λ y. solvable rules (held box i y) r) (Has rules box r i)
      (λ y k h.
      let s = solution_found rules local (held box i y) r h in
      record { values = s.values; is = value_held y s.values s.solution; solution = unheld y s.values k s.solution })
      (λ y w. (
        subst (In (at box i)) w.is (each_member (λ j. In (at box j) (w.values j)) m w.solution.inside),
        solution_any rules local (held box i y) r w.values (hold y w.values w.is w.solution),
      ))
