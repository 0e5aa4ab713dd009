-- A run ends settled exactly when an allowed pass is the first to run through and move no end, stopped exactly when every allowed pass ran through and moved one,
-- and with 'no triple' exactly when an allowed pass meets a record with no solution. Assumes nothing.
use mathlib.Core.Path.{◌≡◌, refl, sym, ap, subst, ◌∙◌}
use mathlib.Core.List.{List}
use mathlib.Core.Logic.{◌↔◌}
use Prim.Native.Nat.{ℕ, ◌-◌, ◌≤◌}
use native.Mathlib.Omega.{arith}
use Rattle.sheet.specs.declared.kept.Record.{Record}
use Rattle.propagation.specs.declared.passes.Outcome.{Outcome}
use Rattle.propagation.specs.declared.passes.Outcome.TheVariants.{Settled, NoTriple, Stopped}
use Rattle.sheet.specs.Records.{Rules}
use Rattle.sheet.specs.Boxes.{Box}
use Rattle.propagation.specs.Runs.{Ended, settled, stopped, no_triple, run_from, run, last_box}
use Rattle.propagation.specs.Outcomes.{Begins, start, next, Settles, Stops, Breaks, EndsWhen}
use Rattle.propagation.specs.Calls.{outcome_by}
use Rattle.propagation.proofs.Boxes.{equal_same, unequal_same}
use Rattle.propagation.proofs.Runs.{run_broken, run_settled, run_stopped, run_next, run_ends}

module _ (rules : Rules) (records : List Record) (limit : ℕ) (first : Box) (some : 1 ≤ limit) where
  -- ---- every end is one of the three
  abbrev Ends : Ended → Type 0
  Ends (settled p box) = Settles rules records limit first p box
  Ends (stopped p box) = Stops rules records limit first p box
  Ends (no_triple p k) = Breaks rules records limit first p k

  ends : Ends (run rules records limit first)
  ends =
      run_ends rules records limit (λ p c. (p ≤ limit) × Begins rules records first p c) Ends
      (λ p c d q l h m. (omega arith, next q.1 h m))
      (λ p c q h. record { allowed = q.0; begins = q.1; still = h })
      (λ p c d q l h m. record { before = c; at_limit = omega (arith, q.0); begins = q.1; through = h; moved = m })
      (λ p k c q h. record { before = c; allowed = q.0; begins = q.1; breaks = h })
      first (some, start)

  -- ---- and each of the three is an end: from a pass that is reached on
  reaches : {p : ℕ} {c : Box} → p ≤ limit → Begins rules records first p c → run rules records limit first ≡ run_from rules records (limit - p) p c
  reaches le start = refl
  reaches le (next {p} {box} {new} b h m) = reaches (omega arith) b ∙ run_next rules records p box limit new h (unequal_same box new m) (omega arith)

  module _ (p : ℕ) (box : Box) where
    pub settled_exactly : run rules records limit first ≡ settled p box ↔ Settles rules records limit first p box
    settled_exactly = (
      λ h. subst Ends h ends,
      λ s. reaches s.allowed s.begins ∙ run_settled rules records p box (limit - p) box s.still (equal_same box box refl),
    )

    pub stopped_exactly : run rules records limit first ≡ stopped p box ↔ Stops rules records limit first p box
    stopped_exactly = (
      λ h. subst Ends h ends,
      λ s.
          let l = s.at_limit in
          reaches (omega arith) s.begins ∙ run_stopped rules records p s.before limit box s.through (unequal_same s.before box s.moved) (omega arith),
    )

  pub no_triple_exactly : (p k : ℕ) → run rules records limit first ≡ no_triple p k ↔ Breaks rules records limit first p k
  no_triple_exactly p k = (
    λ h. subst Ends h ends,
    λ s. reaches s.allowed s.begins ∙ run_broken rules records p s.before (limit - p) k s.breaks,
  )

  -- ---- so of an outcome, and of the box that is left
  abbrev end : Ended
  end = run rules records limit first

  by_settled : (p : ℕ) (t : Ended) → Ends t → outcome_by t ≡ Settled p → Settles rules records limit first p (last_box first t)
  by_settled p (settled q c) s e = let z : q ≡ p = cc in rw (← z) s
  by_settled p (stopped q c) s e = absurd (let z : ◌≡◌ {A = ℕ} 0 1 = cc in omega arith)
  by_settled p (no_triple q k) s e = absurd (let z : ◌≡◌ {A = ℕ} 0 1 = cc in omega arith)

  by_stopped : (p : ℕ) (t : Ended) → Ends t → outcome_by t ≡ Stopped p → Stops rules records limit first p (last_box first t)
  by_stopped p (settled q c) s e = absurd (let z : ◌≡◌ {A = ℕ} 0 1 = cc in omega arith)
  by_stopped p (stopped q c) s e = let z : q ≡ p = cc in rw (← z) s
  by_stopped p (no_triple q k) s e = absurd (let z : ◌≡◌ {A = ℕ} 0 1 = cc in omega arith)

  by_no_triple : (p k : ℕ) (t : Ended) → Ends t → outcome_by t ≡ NoTriple p k → Breaks rules records limit first p k
  by_no_triple p k (settled q c) s e = absurd (let z : ◌≡◌ {A = ℕ} 0 1 = cc in omega arith)
  by_no_triple p k (stopped q c) s e = absurd (let z : ◌≡◌ {A = ℕ} 0 1 = cc in omega arith)
  by_no_triple p k (no_triple q j) s e =
      let z : q ≡ p = cc in
      let y : j ≡ k = cc in
      rw (← z, ← y) s

  pub ends_when : (o : Outcome) (last : Box) → o ≡ outcome_by end → last ≡ last_box first end → EndsWhen rules records limit first last o
  ends_when o last is box = record {
    settled = λ p c. (λ h. rw (← h.1, box) (by_settled p end ends (sym is ∙ h.0)), λ s. let e = (settled_exactly p c).1 s in (is ∙ ap outcome_by e, box ∙ ap (last_box first) e));
    stopped = λ p c. (λ h. rw (← h.1, box) (by_stopped p end ends (sym is ∙ h.0)), λ s. let e = (stopped_exactly p c).1 s in (is ∙ ap outcome_by e, box ∙ ap (last_box first) e));
    no_triple = λ p k. (λ e. by_no_triple p k end ends (sym is ∙ e), λ s. is ∙ ap outcome_by ((no_triple_exactly p k).1 s));
  }
