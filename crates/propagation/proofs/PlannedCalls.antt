-- 02's R-14 on calls, from what their contracts promise (Calls) and R-14 on runs (PlannedRuns); and R-14 whole. Assumes nothing.
use Rattle.std.specs.Prelude.{Ok, Err}
use mathlib.Core.Path.{◌≡◌, refl, sym, ap, ap₂, subst, ◌∙◌}
use mathlib.Core.List.{List}
use Prim.Native.Nat.{ℕ, ◌≤◌}
use Rattle.sheet.specs.declared.kept.Record.{Record}
use Rattle.propagation.specs.declared.passes.Outcome.{Outcome}
use Rattle.propagation.specs.declared.passes.Outcome.TheVariants.{Settled, NoTriple, Stopped, Refused}
use Rattle.sheet.specs.Records.{Rules}
use Rattle.sheet.specs.Boxes.{Box, Contains}
use Rattle.sheet.specs.Cells.{rules_of, cells_of}
use Rattle.sheet.specs.Sheets.{Answer, test_lists}
use Rattle.propagation.specs.Runs.{Ended, settled, stopped, no_triple, run, left_by, last_box}
use Rattle.propagation.specs.Calls.{Problem, Call, kept_call, box_before, box_after, test_on, end_on, outcome_by}
use Rattle.propagation.specs.Planning.{SettlesWith, InsideOrFails, HasSettled, NotRefused, StartsInside, Raised, Reordered, LeavesInside, PlannedRuns, PlannedCalls, Planned}
use Rattle.sheet.proofs.Members.{same_itself}
use Rattle.sheet.proofs.Tested.{tested_limit}
use Rattle.propagation.proofs.PlannedRuns.{runs_planned, width_planned}
use Rattle.propagation.proofs.Calls.{Answered, answered, call_refused, call_ran, call_left, call_names, call_box, call_inside}
use Rattle.propagation.proofs.Finishing.{handed_back}

-- ---- one call, by its outcome
-- how a run ended whose call has this outcome, with this box after it
abbrev RanTo : Outcome → Box → Ended → Type 0
RanTo (Settled p) box e = e ≡ settled p box
RanTo (Stopped p) box e = e ≡ stopped p box
RanTo (NoTriple p k) box e = e ≡ no_triple p k
RanTo (Refused r) box e = ⊥

module _ (c : Call) (h : Answered c) where
  -- the test let it pass
  let_pass : (o : Outcome) → NotRefused o → c.outcome ≡ o → test_on c ≡ Ok tt
  let_pass o n k = go (test_on c) refl
    where
      go : (a : Answer) → test_on c ≡ a → test_on c ≡ Ok tt
      go (Ok u) e = e
      go (Err t) e = absurd (subst NotRefused (sym k ∙ (call_refused c h t e).0) n)

  ran_to : (o : Outcome) → NotRefused o → c.outcome ≡ o → RanTo o (box_after c) (end_on c)
  ran_to o n k =
      let t = let_pass o n k in
      let e = sym (call_ran c h t) ∙ k in
      rw (← e, call_box c h t) (by_end (end_on c))
    where
      by_end : (e : Ended) → RanTo (outcome_by e) (last_box (box_before c) e) e
      by_end (settled p box) = refl
      by_end (stopped p box) = refl
      by_end (no_triple p k) = refl

  -- the cells that it leaves
  cells_left : (o : Outcome) → NotRefused o → c.outcome ≡ o → (e : Ended) → end_on c ≡ e → c.after ≡ left_by (cells_of c.problem.width) c.problem.cells e
  cells_left o n k e q = call_left c h (let_pass o n k) ∙ ap (left_by (cells_of c.problem.width) c.problem.cells) q

  settles : HasSettled c → SettlesWith (rules_of c.problem.width) c.problem.records (box_before c) (box_after c)
  settles q = record { limit = c.limit; passes = q.passes; ends = ran_to (Settled q.passes) tt q.is }

  settled_cells : (p : ℕ) → c.outcome ≡ Settled p → c.after ≡ cells_of c.problem.width (box_after c)
  settled_cells p k = cells_left (Settled p) tt k (settled p (box_after c)) (ran_to (Settled p) tt k)

-- ---- two calls
module _ (c d : Call) (h : Answered c) (g : Answered d) where
  -- the rules and records of c, and what is planned under them
  abbrev rules : Rules
  rules = rules_of c.problem.width

  abbrev records : List Record
  records = c.problem.records

  runs : PlannedRuns rules
  runs = width_planned c.problem.width

  -- a settled run of d is one at the width of c
  at_width : d.problem.width ≡ c.problem.width → HasSettled d → SettlesWith rules d.problem.records (box_before d) (box_after d)
  at_width w q = subst (λ (n : ℕ). SettlesWith (rules_of n) d.problem.records (box_before d) (box_after d)) w (settles d g q)

  starts_inside : StartsInside c d → HasSettled c → HasSettled d → Contains (box_after c) (box_after d)
  starts_inside s p q =
      let names = call_names c h (let_pass c h _ tt p.is) in
      runs.narrower records d.problem.records (box_before c) (box_before d) (box_after c) (box_after d) names s.records s.inside (settles c h p) (at_width s.width q)

  same_box_lem : Reordered c d → HasSettled c → HasSettled d → box_after d ≡ box_after c
  same_box_lem s p q =
      runs.reordered records d.problem.records (box_before c) (box_after c) (box_after d) (call_names c h (let_pass c h _ tt p.is)) s.records (settles c h p)
      (subst (λ (b : Box). SettlesWith rules d.problem.records b (box_after d)) s.start (at_width s.width q))

  same_cells : d.problem.width ≡ c.problem.width → box_after d ≡ box_after c → (p q : ℕ) → c.outcome ≡ Settled p → d.outcome ≡ Settled q → d.after ≡ c.after
  same_cells w b p q k l = settled_cells d g q l ∙ ap₂ cells_of w b ∙ sym (settled_cells c h p k)

  -- ---- d under a higher limit
  module _ (r : Raised c d) where
    -- its run is that of c under the higher limit
    raised_end : end_on d ≡ run rules records d.limit (box_before c)
    raised_end = λ i. run (rules_of (r.width i)) (r.records i) d.limit (r.start i)

    taken : test_on d ≡ Ok tt
    taken = let_pass d g d.outcome r.taken refl

    -- where that ended so, so did d
    raised_outcome : (e : Ended) → run rules records d.limit (box_before c) ≡ e → d.outcome ≡ outcome_by e
    raised_outcome e q = call_ran d g taken ∙ ap outcome_by (raised_end ∙ q)

    raised_box : (e : Ended) → run rules records d.limit (box_before c) ≡ e → box_after d ≡ last_box (box_before d) e
    raised_box e q = call_box d g taken ∙ ap (last_box (box_before d)) (raised_end ∙ q)

    settled_on : (p : ℕ) → c.outcome ≡ Settled p → (d.outcome ≡ Settled p) × (d.after ≡ c.after)
    settled_on p k =
        let e = runs.settled_stays records (box_before c) c.limit d.limit r.longer p (box_after c) (ran_to c h (Settled p) tt k) in
        let o = raised_outcome (settled p (box_after c)) e in
        (o, same_cells r.width (raised_box (settled p (box_after c)) e) p p k o)

    failed_on : (p k : ℕ) → c.outcome ≡ NoTriple p k → (d.outcome ≡ NoTriple p k) × (d.after ≡ d.problem.cells)
    failed_on p j k =
        let e = runs.failure_stays records (box_before c) c.limit d.limit r.longer p j (ran_to c h (NoTriple p j) tt k) in
        let o = raised_outcome (no_triple p j) e in
        (o, cells_left d g (NoTriple p j) tt o (no_triple p j) (raised_end ∙ e))

    leaves_inside : (box : Box) → InsideOrFails box (run rules records d.limit (box_before c)) → LeavesInside box d.outcome (box_after d)
    leaves_inside box w = go (run rules records d.limit (box_before c)) refl w
      where
        go : (e : Ended) → run rules records d.limit (box_before c) ≡ e → InsideOrFails box e → LeavesInside box d.outcome (box_after d)
        go (settled p last) q i = rw (raised_outcome (settled p last) q, raised_box (settled p last) q) i
        go (stopped p last) q i = rw (raised_outcome (stopped p last) q, raised_box (stopped p last) q) i
        go (no_triple p j) q i = rw (raised_outcome (no_triple p j) q) tt

  -- the same problem under another limit that is allowed
  other_limit : d.problem ≡ c.problem → 1 ≤ d.limit → d.limit ≤ 65535 → NotRefused c.outcome → NotRefused d.outcome
  other_limit q some few n =
      let t = tested_limit _ _ _ _ _ _ (let_pass c h c.outcome n refl) d.limit some few in
      rw (call_ran d g (subst (λ (p : Problem). test_lists p.width d.limit p.cell_count p.record_count p.cells p.records ≡ Ok tt) (sym q) t)) (by_end (end_on d))
    where
      by_end : (e : Ended) → NotRefused (outcome_by e)
      by_end (settled p box) = tt
      by_end (stopped p box) = tt
      by_end (no_triple p k) = tt

  planned : PlannedCalls c d
  planned = record {
    narrower = starts_inside;
    settled_stays = settled_on;
    failure_stays = failed_on;
    never_grows = λ r p k. leaves_inside r (box_after c) (runs.never_grows records (box_before c) c.limit d.limit r.longer p (box_after c) (ran_to c h (Stopped p) tt k));
    reordered = λ s p q. same_cells s.width (same_box_lem s p q) p.passes q.passes p.is q.is;
    not_refused = other_limit;
  }

-- ---- R-14
pub planning : Planned
planning = record {
  runs = runs_planned;
  every_kind = width_planned;
  calls = λ c d p q. planned c d (answered c p) (answered d q);
  tighter = λ c p. call_inside c (answered c p);
  again = λ s r next m n h.
      let same = handed_back s n r h in
      let inside = call_inside (kept_call s r) (answered (kept_call s r) h.call) in
      record {
        width = same.0;
        records = rw same.1 (same_itself _);
        inside = rw same.0 inside;
      };
}
