-- The narrowing by a few sums: what two trims show of it, and the answer by b's ends. Rests on `ladder`'s Trimming and Grid.
use mathlib.Core.Path.{◌≡◌, refl, sym, ap, subst, ◌∙◌}
use mathlib.Core.Logic.{◌⊎◌, inl, inr}
use mathlib.Core.Bool.{Bool, true, false, ◌&&◌, true≢false}
use Rattle.std.specs.Prelude.{Result, Ok, Err}
use Prim.Native.Nat.{ℕ, ◌≤◌, ◌<◌}
use native.Mathlib.Nat.{le_refl}
use native.Mathlib.Omega.{arith}
use lib.Dec.{leb}
use borrow.Author.Tests.{le-leb, leb-true, leb-false}
use Rattle.ladder.specs.Solution.{Interval, In}
use Rattle.ladder.specs.Narrowing as N
use Rattle.ladder.specs.Search as S
use Rattle.ladder.proofs.Ordinals.{ordinal_finite}
use Rattle.ladder.proofs.Assembly.{never_x}
use Rattle.ladder.proofs.Extremes.{spans_of}
use Rattle.ladder.proofs.Grid.{grid_low, grid_high}
use Rattle.ladder.proofs.Trimming.{trimmed_never_x, trimmed_never_a, trimmed_none, trimmed_ends, trimmed_same}
use Rattle.arith.specs.declared.format.Format.{Format}
use Rattle.arith.specs.declared.interval.Interval as I
use Rattle.arith.specs.declared.refusal.Reason.{Reason}
use Rattle.arith.specs.declared.refusal.Refusal.{Refusal}
use Rattle.arith.specs.declared.narrow.Narrowed.{Narrowed}
use Rattle.arith.specs.Refusals.{refusal}
use Rattle.arith.specs.Formats.{Sound, is_finite, Finite, ordinal, sum, mirrored}
use Rattle.arith.specs.Intervals.{ends_finite, is_ordered, range_of}
use Rattle.arith.specs.Narrows.{narrowing, written, narrow_answer, narrow_finite, narrow_in}
use Rattle.arith.proofs.Intervals.{ends_both}
use Rattle.arith.proofs.Refusing.{passed}
use Rattle.machine.specs.declared.guess.Pair.{Pair}
use Rattle.machine.specs.declared.«end».End.{End}
use Rattle.machine.specs.Floats.{ordinals}
use Rattle.machine.specs.Shortcuts.{Admitted, Trimmings, left_x, left_a, HasB, Gridded, Passes, over, under, Bounds, Corners, CornersOf, LowEnd, HighEnd, EndsOfB, Reached}
use Rattle.machine.proofs.KnownEnds.{ends_of_lem}

-- a test of two parts that fails
not_both : (p q : Bool) → (p && q) ≡ false → (p ≡ false) ⊎ (q ≡ false)
not_both true true e = absurd (true≢false e)
not_both true false e = inr e
not_both false q e = inl e

-- a flag is set or not
by_cases : {L : Type 0} (k : Bool) → (k ≡ true → L) → (k ≡ false → L) → L
by_cases true g h = g refl
by_cases false g h = h refl

-- an interval in order
order_of : (F : Format) (i : I.Interval) → is_ordered (range_of F i) ≡ true → ordinal F i.low ≤ ordinal F i.high
unfolding is_ordered
order_of F i h = leb-true _ _ h

module _ (F : Format) (ok : Sound F) (x a b : I.Interval) where
  abbrev f : ℕ
  f = F.fraction

  abbrev e : ℕ
  e = F.exponent

  abbrev X : Interval
  X = ordinals F x

  abbrev A : Interval
  A = ordinals F a

  abbrev B : Interval
  B = ordinals F b

  -- ---- the answer of finite intervals in order
  module _ (t : Admitted F x a b) where
    in_format : (r : Result Narrowed Refusal) → r ≡ narrow_answer F (narrowing F (range_of F x) (range_of F a) (range_of F b)) → r ≡ narrow_in F x a b
    unfolding narrow_in narrow_finite
    in_format r h =
        passed Reason.NotFinite (ends_finite F x) _ t.finite.0
        (passed Reason.NotFinite (ends_finite F a) _ t.finite.1
        (passed Reason.NotFinite (ends_finite F b) _ t.finite.2
        (passed Reason.Reversed (is_ordered (range_of F x)) _ t.ordered.0
        (passed Reason.Reversed (is_ordered (range_of F a)) _ t.ordered.1
        (passed Reason.Reversed (is_ordered (range_of F b)) _ t.ordered.2 h)))))

    pub none_answer : N.none ≡ narrowing F (range_of F x) (range_of F a) (range_of F b) → Err (refusal Reason.NoTriple) ≡ narrow_in F x a b
    none_answer h = in_format (Err (refusal Reason.NoTriple)) (ap (narrow_answer F) h)

  module _ (p q : Pair) (m : Trimmings F x a b p q) where
    abbrev tp : S.Trimmed f e B X.low A.high (ordinal F p.low) (ordinal F p.high)
    tp = m.first.trimmed

    abbrev tq : S.Trimmed f e B A.low X.high (ordinal F q.low) (ordinal F q.high)
    tq = m.second.trimmed

    -- ---- there is no triple
    pub disorder_none : (leb (ordinal F p.low) (ordinal F q.high) && leb (ordinal F q.low) (ordinal F p.high)) ≡ false → N.none ≡ narrowing F (range_of F x) (range_of F a) (range_of F b)
    disorder_none h = elim (not_both (leb (ordinal F p.low) (ordinal F q.high)) (leb (ordinal F q.low) (ordinal F p.high)) h) [
      | inl g ↦ never_x f e X A B (trimmed_never_x f e ok.some X A B _ _ _ _ tp tq (leb-false _ _ g))
      | inr g ↦ never_x f e X A B (trimmed_never_a f e ok.some X A B _ _ _ _ tp tq (leb-false _ _ g))
    ]

    pub passes_none : (u s y z : ℕ) → Gridded F p q u → ends_finite F b ≡ true → In (ordinals F (left_x p q)) y → In (ordinals F (left_a p q)) z → ordinal F s ≡ sum F y z → Passes F s u b → N.none ≡ narrowing F (range_of F x) (range_of F a) (range_of F b)
    passes_none u s y z g n i j h w =
        let k = ends_both F b n in
        let nl = ordinal_finite f e b.low k.0 in
        let nh = ordinal_finite f e b.high k.1 in
        let X' = ordinals F (left_x p q) in
        let A' = ordinals F (left_a p q) in
        let v = ordinal F u in
        trimmed_none f e ok.some X A B (ordinal F p.low) (ordinal F p.high) (ordinal F q.low) (ordinal F q.high) tp tq (λ t c it ic r. elim w [
          | over fs l d ↦ grid_low f e ok.some X' A' v g y z (ordinal F b.low) i j (subst (Finite F) h fs) nl (subst (λ (i : ℕ). sum F i (mirrored F v) < ordinal F b.low) h d) t c it ic r.low (omega (arith, r.high))
          | under fs l d ↦ grid_high f e ok.some X' A' v g y z (ordinal F b.high) i j (subst (Finite F) h fs) nh (subst (λ (i : ℕ). ordinal F b.high < sum F i v) h d) t c it ic r.high (omega (arith, r.low))
        ])

    -- ---- or the ends are those of the triples
    module _ (o : Bounds F p q) (c : Corners F b p q) where
      corners_ends : (I' : Interval) → N.Spans (HasB F (left_x p q) (left_a p q) b) I' → N.ends (ordinals F (left_x p q)) (ordinals F (left_a p q)) I' ≡ narrowing F (range_of F x) (range_of F a) (range_of F b)
      corners_ends I' s = trimmed_ends f e ok.some X A B _ _ _ _ tp tq o.x_order o.a_order (ordinal F p.sum) (ordinal F q.sum) m.first.summed.is c.first m.second.summed.is c.second I' s

-- ---- b's own ends
module _ (F : Format) (b : I.Interval) (p q : Pair) (o : ordinal F b.low ≤ ordinal F b.high) where
  reached_b : (v : ℕ) → ordinal F b.low ≤ ordinal F v → ordinal F v ≤ ordinal F b.high → Reached F (left_x p q) (left_a p q) v → HasB F (left_x p q) (left_a p q) b (ordinal F v)
  reached_b v l h r = record { x = r.y; a = r.z; solution = record { x_in = r.x_in; a_in = r.a_in; b_in = record { low = l; high = h }; is = r.is } }

  low_end_least : (t : End) → LowEnd F p q b t → (t.known ≡ false → Reached F (left_x p q) (left_a p q) b.low) → S.Least (HasB F (left_x p q) (left_a p q) b) (ordinal F t.b)
  low_end_least t l w = by_cases t.known l.known (λ h. rw (l.own h) (record { holds = reached_b b.low (le_refl _) o (w h); least = λ y v. v.solution.b_in.low }))

  high_end_greatest : (t : End) → HighEnd F p q b t → (t.known ≡ false → Reached F (left_x p q) (left_a p q) b.high) → S.Greatest (HasB F (left_x p q) (left_a p q) b) (ordinal F t.b)
  high_end_greatest t l w = by_cases t.known l.known (λ h. rw (l.own h) (record { holds = reached_b b.high o (le_refl _) (w h); most = λ y v. v.solution.b_in.high }))

  -- where a sum makes them, they are the ends of the b in a triple
  pub ends_settled : (l h : End) → LowEnd F p q b l → HighEnd F p q b h → (l.known ≡ false → Reached F (left_x p q) (left_a p q) b.low) × (h.known ≡ false → Reached F (left_x p q) (left_a p q) b.high)
      → EndsOfB F p q b (record { low = l.b; high = h.b })
  ends_settled l h lo hi w = (ends_of_lem F (record { low = l.b; high = h.b }) lo.finite hi.finite, spans_of (low_end_least l lo w.0) (high_end_greatest h hi w.1))

-- ---- what the trims take
module _ (F : Format) (ok : Sound F) (x a b : I.Interval) (t : Admitted F x a b) where
  pub trim_takes : (h : I.Interval) → ends_finite F h ≡ true
      → ((is_finite F x.low ≡ true) × (is_finite F a.high ≡ true) × (ends_finite F b ≡ true) × (ends_finite F h ≡ true) × (ordinal F b.low ≤ ordinal F b.high))
      × ((is_finite F a.low ≡ true) × (is_finite F x.high ≡ true) × (ends_finite F b ≡ true) × (ends_finite F h ≡ true) × (ordinal F b.low ≤ ordinal F b.high))
  trim_takes h g = let i = ends_both F x t.finite.0 in let j = ends_both F a t.finite.1 in let n = t.finite.2 in let l = order_of F b t.ordered.2 in ((i.0, j.1, n, g, l), (j.0, i.1, n, g, l))

-- ---- the answer by the corners and b's ends
module _ (F : Format) (ok : Sound F) (x a b : I.Interval) (t : Admitted F x a b) (p q : Pair) (m : Trimmings F x a b p q) where
  pub corners_of : (u : ℕ) → is_finite F u ≡ true → Gridded F p q u → Bounds F p q × Corners F b p q → CornersOf F p q u b
  corners_of u v g c = record {
    first = m.first.summed;
    second = m.second.summed;
    finite = t.finite.2;
    u_finite = v;
    grid = g;
    bounds = c.0;
    corners = c.1;
  }

  pub ends_answer : Bounds F p q × Corners F b p q → (i : I.Interval) → EndsOfB F p q b i → Ok (record { x = written F (ordinals F (left_x p q)); a = written F (ordinals F (left_a p q)); b = written F (ordinals F i) }) ≡ narrow_in F x a b
  ends_answer s i w = in_format F ok x a b t _ (ap (narrow_answer F) (corners_ends F ok x a b p q m s.0 s.1 (ordinals F i) w.1))

  -- what is left is narrowed alike
  left_admitted : Bounds F p q → Admitted F (left_x p q) (left_a p q) b
  unfolding is_ordered
  left_admitted o = record {
    finite = (ends_of_lem F (left_x p q) m.first.summed.low m.second.summed.high, ends_of_lem F (left_a p q) m.second.summed.low m.first.summed.high, t.finite.2);
    ordered = (le-leb _ _ o.x_order, le-leb _ _ o.a_order, t.ordered.2);
  }

  pub left_answer : Bounds F p q → narrow_in F (left_x p q) (left_a p q) b ≡ narrow_in F x a b
  left_answer o =
      sym (in_format F ok (left_x p q) (left_a p q) b (left_admitted o) _ refl)
      ∙ in_format F ok x a b t _ (ap (narrow_answer F) (trimmed_same F.fraction F.exponent ok.some (ordinals F x) (ordinals F a) (ordinals F b) _ _ _ _ m.first.trimmed m.second.trimmed))
