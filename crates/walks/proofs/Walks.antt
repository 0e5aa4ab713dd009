-- What the walks by hand share: a loop of n turns, and a call of a function by its contract. It says nothing of any program.
--     At i, Good i     what is had after i turns, and what is known.        more, ends      a turn that goes on, and the turn that leaves the loop, with the rest of the body
--     turns            from `At 0` the loop runs
--     calls_said       the call rule for a contract whose `ensures` gives ⌜φ r⌝: the machine value of an r lands, with what r owns, and φ holds of r
--     calls_fixed      the same where φ r gives r ≡ d: the machine value of d lands, and φ holds of d. What d owns is let go.        calls_is     the same where φ r is r ≡ d
-- Assumes `Logic`, and for a call that the table of calls is monotone under a frame.
use mathlib.Core.Path.{◌≡◌, sym, ◌∙◌, ap, subst}
use Prim.Native.Nat.{ℕ, zero, suc, ◌+◌, ◌<◌}
use native.Mathlib.Nat.{add-zero, zero-add, suc-add, add-suc, lt-suc_self, lt_of_le_of_lt, le-add_right}
use mathlib.Core.List.{List, [], ◌∷◌}
use lib.WfN.{lt-wf_rel}
use seplogic.Ra.Ura.{Ura}
use package.mir.Syntax.{Callee, Place, Opd as Operand, Body, seq, call, loop}
use package.mir.Val.{Val}
use base.Logic.{SProp, ent, ex, guard, via, ex_i, ex_e, guard_i, guard_e, id⊢}
use prog.Wp.{Out, Env, Calls, Loops, after_turn, Wp, Tables}
use types.Logic.{Logic}
use contract.Monad.{fact}
use types.Kit.{Item, ‵, raw, some, later, ◌⊛◌, ⋆, Post, runs, lands, Seq, ◌$◌, move, drop, use1, split, pick, await}
use types.Run.{Opds}
use sound.Loop.{loop_rule}
use sound.WpLaws.{FmC}
use denote.RattleType.{RattleType}
use denote.Laws.{Is, Tells, shows}
use denote.Signature.{type_at}
use denote.Steps.{only, peeks, heard}
use denote.Triple.Entry.{Args, Res, alive}
use denote.Triple.Spec.{triple_of}
use denote.Triple.Statement.{Contract, Triple}
use denote.Triple.Call.{calls_at}
use denote.Triple.Clauses.{Ended, Clauses, Lasts, AtExit, at_exit, lasts, closing}
use Rattle.walks.specs.Turns.{Counts}

-- ---- a loop of n turns
module _ {M : Type 1} {𝓤 : Ura M} (𝓛 : Logic 𝓤) (𝓣 : Tables 𝓤 𝓛.H) (En : Env 𝓤 𝓛.H) (turn : Body) (Left : Out → SProp 𝓤) (n : ℕ) (At : ℕ → List (Item 𝓤)) (Good : ℕ → Type 0)
    (more : (i : ℕ) (X : SProp 𝓤) → i < n → Good i → (Good (suc i) → ent 𝓤 (⋆ 𝓛 (At (suc i))) X) → ent 𝓤 (⋆ 𝓛 (At i)) (Wp 𝓤 𝓛.H 𝓣.C 𝓣.Λ En turn (after_turn 𝓤 𝓛.H X Left)))
    (ends : (X : SProp 𝓤) → Good n → ent 𝓤 (⋆ 𝓛 (At n)) (Wp 𝓤 𝓛.H 𝓣.C 𝓣.Λ En turn (after_turn 𝓤 𝓛.H X Left))) where
  open 𝓛 use {H}

  abbrev Facts : ℕ → ℕ → Type 0
  Facts t i = Counts n t i × Good i

  -- the invariant, where t turns are left
  abbrev Inv : ℕ → SProp 𝓤
  Inv t = ex 𝓤 (λ (i : ℕ). guard 𝓤 (Facts t i) (⋆ 𝓛 (At i)))

  abbrev Below : ℕ → SProp 𝓤
  Below t = ex 𝓤 (λ (t' : ℕ). guard 𝓤 (t' < t) (Inv t'))

  comes : (t i : ℕ) → Facts t i → ent 𝓤 (⋆ 𝓛 (At i)) (Inv t)
  comes t i fs = via 𝓤 (guard 𝓤 (Facts t i) (⋆ 𝓛 (At i))) (guard_i 𝓤 (Facts t i) (⋆ 𝓛 (At i)) fs) (ex_i 𝓤 (λ (j : ℕ). guard 𝓤 (Facts t j) (⋆ 𝓛 (At j))) i)

  -- a turn from the invariant at t leaves the loop, or ends in the invariant below t
  turn_at : (t i : ℕ) → Facts t i → ent 𝓤 (⋆ 𝓛 (At i)) (Wp 𝓤 H 𝓣.C 𝓣.Λ En turn (after_turn 𝓤 H (Below t) Left))
  turn_at zero i fs = subst (λ (k : ℕ). Good k → ent 𝓤 (⋆ 𝓛 (At k)) (Wp 𝓤 H 𝓣.C 𝓣.Λ En turn (after_turn 𝓤 H (Below zero) Left))) (sym fs.0 ∙ add-zero i) (ends (Below zero)) fs.1
  turn_at (suc u) i fs =
      more i (Below (suc u)) (subst (λ (k : ℕ). i < k) fs.0 (subst (λ (k : ℕ). i < k) (sym (add-suc i u)) (lt_of_le_of_lt (le-add_right i u) (lt-suc_self (i + u))))) fs.1 (λ good.
      via 𝓤 (Inv u) (comes u (suc i) (suc-add i u ∙ sym (add-suc i u) ∙ fs.0, good))
      (via 𝓤 (guard 𝓤 (u < suc u) (Inv u)) (guard_i 𝓤 (u < suc u) (Inv u) (lt-suc_self u)) (ex_i 𝓤 (λ (t' : ℕ). guard 𝓤 (t' < suc u) (Inv t')) u)))

  pub turns : Good 0 → ent 𝓤 (⋆ 𝓛 (At 0)) (Wp 𝓤 H 𝓣.C 𝓣.Λ En (loop turn) Left)
  turns good =
      via 𝓤 (Inv n) (comes n 0 (zero-add n, good))
      (loop_rule 𝓤 H 𝓛.laws 𝓣 ◌<◌ lt-wf_rel.wf En turn Left Inv
      (λ t. ex_e 𝓤 (λ (i : ℕ). guard 𝓤 (Facts t i) (⋆ 𝓛 (At i))) (λ i. guard_e 𝓤 (Facts t i) (⋆ 𝓛 (At i)) (λ fs. turn_at t i fs))) n)

-- ---- a call
-- a contract with its clauses, as a triple
module _ {M : Type 1} {𝓤 : Ura M} (𝓛 : Logic 𝓤) where
  abbrev pub contract_of : (T : Ended) → Clauses 𝓤 T → Contract 𝓤
  contract_of T c = triple_of 𝓛 T.signature (closing 𝓛 T c)

module _ {M : Type 1} {𝓤 : Ura M} {𝓛 : Logic 𝓤} {K : Type 0} {Γ : List (Item 𝓤)} {E : Env 𝓤 𝓛.H} {C : Calls 𝓤 𝓛.H} {Λ : Loops 𝓤 𝓛.H} {q : Post 𝓤 𝓛.H} {f : Callee} {xs : List Operand} {p : Place} {rest : Body} where
  open 𝓛 use {H}

  pub calls_said : K → FmC 𝓤 H 𝓛.laws C → (T : Ended) (c : Clauses 𝓤 T) → Triple 𝓤 (C f) (contract_of 𝓛 T c) → (y : (contract_of 𝓛 T c).Ghost)
      → (φ : Res T.signature y.0.0 → Type 0) → ((r : Res T.signature y.0.0) (e : AtExit T y.0.0) → ent 𝓤 ((c y.0.0 y.0.3).ensures y.1 r e) (fact 𝓤 (φ r)))
      → Opds K 𝓛 (raw ((contract_of 𝓛 T c).pre y) ∷ Γ) E xs ((contract_of 𝓛 T c).args y)
      → ((r : Res T.signature y.0.0) (w : Val) → φ r → Is (type_at T.signature.result y.0.0) r (w ∷ []) → Seq K 𝓛 (‵ ((type_at T.signature.result y.0.0).own_val r (w ∷ [])) ∷ raw (alive 𝓛 T.signature y.0.0 y.0.1) ∷ Γ) (lands C Λ E p w rest q))
      → Seq K 𝓛 (raw ((contract_of 𝓛 T c).pre y) ∷ Γ) (runs C Λ E (seq (call f xs p) rest) q)
  calls_said t fm T c known y φ says os k =
      let R : RattleType = type_at T.signature.result y.0.0 in
      let a : Args T.signature y.0.0 = y.0.3 in
      calls_at t fm (contract_of 𝓛 T c) known y os (λ w.
      use1 𝓛 (later (some (λ (r : R.Denot). (raw (alive 𝓛 T.signature y.0.0 y.0.1) ⊛ ‵ (R.own_val r (w ∷ []))) ⊛ some (λ (ws : Lasts T y.0.0 a). ‵ (lasts T y.0.0 a ws) ⊛ raw ((c y.0.0 a).ensures y.1 r (at_exit T y.0.0 a ws)))))) (id⊢ 𝓤 _) $ await t tt $ pick t (λ r.
      split t $ move t (1 ∷ []) $ pick t (λ ws. split t $ drop t $ use1 𝓛 (raw (fact 𝓤 (φ r))) (says r (at_exit T y.0.0 a ws)) $ heard t (φ r) (λ h.
      split t $ move t (1 ∷ []) $ peeks t R (Is R) (shows 𝓛 R) r (w ∷ []) (λ i. k r w h i)))))

  pub calls_fixed : K → FmC 𝓤 H 𝓛.laws C → (T : Ended) (c : Clauses 𝓤 T) → Triple 𝓤 (C f) (contract_of 𝓛 T c) → (y : (contract_of 𝓛 T c).Ghost)
      → (val : Res T.signature y.0.0 → Val) → Tells (type_at T.signature.result y.0.0) (Is (type_at T.signature.result y.0.0)) (λ r. val r ∷ [])
      → (φ : Res T.signature y.0.0 → Type 0) (d : Res T.signature y.0.0) → ((r : Res T.signature y.0.0) → φ r → r ≡ d)
      → ((r : Res T.signature y.0.0) (e : AtExit T y.0.0) → ent 𝓤 ((c y.0.0 y.0.3).ensures y.1 r e) (fact 𝓤 (φ r)))
      → Opds K 𝓛 (raw ((contract_of 𝓛 T c).pre y) ∷ Γ) E xs ((contract_of 𝓛 T c).args y)
      → (φ d → Is (type_at T.signature.result y.0.0) d (val d ∷ []) → Seq K 𝓛 (raw (alive 𝓛 T.signature y.0.0 y.0.1) ∷ Γ) (lands C Λ E p (val d) rest q))
      → Seq K 𝓛 (raw ((contract_of 𝓛 T c).pre y) ∷ Γ) (runs C Λ E (seq (call f xs p) rest) q)
  calls_fixed t fm T c known y val tells φ d is says os k =
      let R : RattleType = type_at T.signature.result y.0.0 in
      calls_said t fm T c known y φ says os (λ r w h i. drop t $
      subst (λ (u : Val). Seq K 𝓛 (raw (alive 𝓛 T.signature y.0.0 y.0.1) ∷ Γ) (lands C Λ E p u rest q)) (sym (ap only (tells r _ i) ∙ ap val (is r h)))
      (k (subst φ (is r h) h) (subst (λ (u : R.Denot). Is R u (val u ∷ [])) (is r h) (subst (Is R r) (tells r _ i) i))))

  pub calls_is : K → FmC 𝓤 H 𝓛.laws C → (T : Ended) (c : Clauses 𝓤 T) → Triple 𝓤 (C f) (contract_of 𝓛 T c) → (y : (contract_of 𝓛 T c).Ghost)
      → (val : Res T.signature y.0.0 → Val) → Tells (type_at T.signature.result y.0.0) (Is (type_at T.signature.result y.0.0)) (λ r. val r ∷ [])
      → (d : Res T.signature y.0.0) → ((r : Res T.signature y.0.0) (e : AtExit T y.0.0) → ent 𝓤 ((c y.0.0 y.0.3).ensures y.1 r e) (fact 𝓤 (r ≡ d)))
      → Opds K 𝓛 (raw ((contract_of 𝓛 T c).pre y) ∷ Γ) E xs ((contract_of 𝓛 T c).args y)
      → (Is (type_at T.signature.result y.0.0) d (val d ∷ []) → Seq K 𝓛 (raw (alive 𝓛 T.signature y.0.0 y.0.1) ∷ Γ) (lands C Λ E p (val d) rest q))
      → Seq K 𝓛 (raw ((contract_of 𝓛 T c).pre y) ∷ Γ) (runs C Λ E (seq (call f xs p) rest) q)
  calls_is t fm T c known y val tells d says os k = calls_fixed t fm T c known y val tells (λ r. r ≡ d) d (λ r e. e) says os (λ _ i. k i)
