-- The step of a record of each kind over different cells, from ladder's narrowing of one sum and from the mirror: what the code of a step does. Rests on ladder proofs/Hull and Solutions.
use mathlib.Core.Path.{◌≡◌, refl, sym, ap, subst, ◌∙◌}
use mathlib.Core.Logic.{◌≢◌}
use mathlib.Core.Bool.{cond}
use mathlib.Core.List.{List, [], ◌∷◌}
use Prim.Native.Nat.{ℕ, ◌<◌, ◌≤◌}
use native.Mathlib.Omega.{arith}
use lib.Dec.{eqb}
use lib.ListN.{length, set, length-set}
use lib.Seq.{get_or-set_same, get_or-set_other}
use borrow.Author.Tests.{eq-eqb, ne_eqb, eqb-true}
use Rattle.ladder.specs.Ordinal.{mirrored}
use Rattle.ladder.specs.Sum as Sums
use Rattle.ladder.specs.Solution as L
use Rattle.ladder.specs.Solution.{Interval, In, Bounded}
use Rattle.ladder.specs.Narrowing.{Narrowing, none, ends, narrowing, HasA, Spans, Hull}
use Rattle.ladder.specs.Search.{reflection}
use Rattle.ladder.proofs.Hull.{narrowing_none, narrowing_hull, same_spans}
use Rattle.ladder.proofs.Ordinals.{finite_twice}
use Rattle.ladder.proofs.Solutions.{in_reflection, in_reflected}
use Rattle.ladder.proofs.Reflection.{in_twice, mirror_twice, mirror_spans}
use Rattle.arith.proofs.Valid.{shared}
use Rattle.sheet.specs.declared.kept.Record.{Record}
use Rattle.sheet.specs.Members.{Each}
use Rattle.sheet.specs.declared.kind.Kind.{Kind}
use Rattle.sheet.specs.declared.kind.Kind.TheVariants.{Sum, Diff, Neg}
use Rattle.sheet.specs.Kinds.{kind_of}
use Rattle.sheet.specs.Records.{named_by, named, Values, fits}
use Rattle.sheet.specs.Boxes.{Box, at}
use Rattle.propagation.specs.Runs.{Step, unsolved, left, step}
use Rattle.propagation.specs.Consistency.{Solution, Has}
use Rattle.propagation.proofs.Boxes.{set_cases}
use Rattle.propagation.proofs.Fitting.{fits_local, fits_as}
use Rattle.propagation.proofs.Stepping.{Left, step_unique}

-- ---- values of a record's cells: u at x, v at a, w at the others
three : ℕ → ℕ → ℕ → ℕ → ℕ → Values
three x a u v w j = cond (eqb j x) u (cond (eqb j a) v w)

module _ (x a b u v w : ℕ) where
  at_x : three x a u v w x ≡ u
  unfolding three
  at_x = rw (eq-eqb x x refl)

  at_a : a ≢ x → three x a u v w a ≡ v
  unfolding three
  at_a n = rw (ne_eqb a x n, eq-eqb a a refl)

  at_b : b ≢ x → b ≢ a → three x a u v w b ≡ w
  unfolding three
  at_b n m = rw (ne_eqb b x n, ne_eqb b a m)

-- ---- the cells of a record set in the code's order: b, a, x
abbrev pub put : {I : Type 0} → List I → Record → I → I → I → List I
put c r x a b = set (set (set c r.b b) r.a a) r.x x

-- places with one cell get one interval
pub record Agree (r : Record) (X A B : Interval) : Type 0 where
  pub a_x : r.a ≡ r.x → A ≡ X
  pub b_x : r.b ≡ r.x → B ≡ X
  pub b_a : r.b ≡ r.a → B ≡ A

module _ (c : Box) (r : Record) where
  pub put_x : r.x < length c → (X A B : Interval) → at (put c r X A B) r.x ≡ X
  put_x l X A B = get_or-set_same (set (set c r.b B) r.a A) r.x X _ (simp length-set l)

  pub put_a : r.a < length c → (X A B : Interval) → Agree r X A B → at (put c r X A B) r.a ≡ A
  put_a l X A B g =
      set_cases (λ I. I ≡ A) (set (set c r.b B) r.a A) r.x r.a X
      (get_or-set_same (set c r.b B) r.a A _ (simp length-set l)) (λ e. sym (g.a_x e))

  pub put_b : r.b < length c → (X A B : Interval) → Agree r X A B → at (put c r X A B) r.b ≡ B
  put_b l X A B g =
      set_cases (λ I. I ≡ B) (set (set c r.b B) r.a A) r.x r.b X
      (set_cases (λ I. I ≡ B) (set c r.b B) r.a r.b A (get_or-set_same c r.b B _ l) (λ e. sym (g.b_a e))) (λ e. sym (g.b_x e))

  pub put_other : (X A B : Interval) (j : ℕ) → j ≢ r.x → j ≢ r.a → j ≢ r.b → at (put c r X A B) j ≡ at c j
  put_other X A B j p q s =
      get_or-set_other (set (set c r.b B) r.a A) r.x j X _ p
      ∙ get_or-set_other (set c r.b B) r.a j A _ q
      ∙ get_or-set_other c r.b j B _ s

-- ---- a record over three different cells of the box
pub record Three (c : Box) (r : Record) : Type 0 where
  pub x_in : r.x < length c
  pub a_in : r.a < length c
  pub b_in : r.b < length c
  pub a_x : r.a ≢ r.x
  pub b_x : r.b ≢ r.x
  pub b_a : r.b ≢ r.a

three_agree : (c : Box) (r : Record) → Three c r → (X A B : Interval) → Agree r X A B
three_agree c r t X A B = record { a_x = λ e. absurd (t.a_x e); b_x = λ e. absurd (t.b_x e); b_a = λ e. absurd (t.b_a e) }

-- the step that a narrowing tells, with h for the second interval
abbrev pub step_of : Box → Record → (Interval → Interval) → Narrowing → Step
step_of c r h none = unsolved
step_of c r h (ends X A B) = left (put c r X (h A) B)

-- ---- a sum x ⊕ g a = b: the values g a of a's cell run through A, and h turns an interval of them back
module _ (f e : ℕ) (c : Box) (r : Record) (t : Three c r) (A : Interval) (g : ℕ → ℕ) (h : Interval → Interval)
    (naming : named r ≡ r.x ∷ r.a ∷ r.b ∷ [])
    (fitting : (v : Values) → fits f e r v ≡ eqb (Sums.sum f e (v r.x) (g (v r.a))) (v r.b))
    (to : (y : ℕ) → In (at c r.a) y → In A (g y))
    (from : (y : ℕ) → In A y → In (at c r.a) (g y))
    (twice : (y : ℕ) → In A y → g (g y) ≡ y)
    (back : (P : ℕ → Type 0) → ((y : ℕ) → P y → In A y) → (I : Interval) → Spans P I → Spans (λ y. In (at c r.a) y × P (g y)) (h I)) where
  abbrev Turned : ℕ → ℕ → ℕ → Type 0
  Turned x a b = L.Solution f e (at c r.x) A (at c r.b) x a b

  abbrev Triple : ℕ → ℕ → ℕ → Type 0
  Triple x a b = In (at c r.a) a × Turned x (g a) b

  -- the record's solutions are those triples
  solution_to : (v : Values) → Solution (fits f e) c r v → Triple (v r.x) (v r.a) (v r.b)
  solution_to v s =
      let i = subst (Each (λ j. In (at c j) (v j))) naming s.inside in
      (i.1.0, record { x_in = i.0; a_in = to (v r.a) i.1.0; b_in = i.1.1.0; is = eqb-true _ _ (sym (fitting v) ∙ s.fits) })

  solution_from : (v : Values) → Triple (v r.x) (v r.a) (v r.b) → Solution (fits f e) c r v
  solution_from v p = record {
    inside = subst (Each (λ j. In (at c j) (v j))) (sym naming) (p.1.x_in, (p.0, (p.1.b_in, tt)));
    fits = fitting v ∙ eq-eqb _ _ p.1.is;
  }

  made : (x a b : ℕ) → Triple x a b → Solution (fits f e) c r (three r.x r.a x a b)
  made x a b p =
      solution_from (three r.x r.a x a b)
      (rw (at_x r.x r.a r.b x a b, at_a r.x r.a r.b x a b t.a_x, at_b r.x r.a r.b x a b t.b_x t.b_a) p)

  returned : (x a b : ℕ) → Turned x a b → Triple x (g a) b
  returned x a b s = (from a s.a_in, subst (λ (y : ℕ). Turned x y b) (sym (twice a s.a_in)) s)

  -- a value at each cell, by its triple
  has_x : (x a b : ℕ) → Triple x a b → Has (fits f e) c r r.x x
  has_x x a b p = record { values = three r.x r.a x a b; is = at_x r.x r.a r.b x a b; solution = made x a b p }

  has_a : (x a b : ℕ) → Triple x a b → Has (fits f e) c r r.a a
  has_a x a b p = record { values = three r.x r.a x a b; is = at_a r.x r.a r.b x a b t.a_x; solution = made x a b p }

  has_b : (x a b : ℕ) → Triple x a b → Has (fits f e) c r r.b b
  has_b x a b p = record { values = three r.x r.a x a b; is = at_b r.x r.a r.b x a b t.b_x t.b_a; solution = made x a b p }

  module _ (X' A' B' : Interval) (hull : Hull f e (at c r.x) A (at c r.b) X' A' B') where
    spans_x : Spans (Has (fits f e) c r r.x) X'
    spans_x =
        same_spans (λ y w. has_x y (g w.a) w.b (returned y w.a w.b w.solution))
        (λ y w.
        let p = solution_to w.values w.solution in
        record { a = g (w.values r.a); b = w.values r.b; solution = subst (λ (z : ℕ). Turned z (g (w.values r.a)) (w.values r.b)) w.is p.1 })
        X' hull.xs

    spans_a : Spans (Has (fits f e) c r r.a) (h A')
    spans_a =
        same_spans (λ y p. has_a p.1.x y p.1.b (p.0, p.1.solution))
        (λ y w.
        let p = solution_to w.values w.solution in
        let q = subst (λ (z : ℕ). Triple (w.values r.x) z (w.values r.b)) w.is p in
        (q.0, record { x = w.values r.x; b = w.values r.b; solution = q.1 }))
        (h A') (back (HasA f e (at c r.x) A (at c r.b)) (λ y w. w.solution.a_in) A' hull.«as»)

    spans_b : Spans (Has (fits f e) c r r.b) B'
    spans_b =
        same_spans (λ y w. has_b w.x (g w.a) y (returned w.x w.a y w.solution))
        (λ y w.
        let p = solution_to w.values w.solution in
        record { x = w.values r.x; a = g (w.values r.a); solution = subst (λ (z : ℕ). Turned (w.values r.x) (g (w.values r.a)) z) w.is p.1 })
        B' hull.bs

    leaves : Left (fits f e) c r (put c r X' (h A') B')
    leaves = let g = three_agree c r t X' (h A') B' in record {
      cells = simp length-set;
      spans = subst (Each (λ i. Spans (Has (fits f e) c r i) (at (put c r X' (h A') B') i))) (sym naming)
          (rw (put_x c r t.x_in X' (h A') B') spans_x, (rw (put_a c r t.a_in X' (h A') B' g) spans_a, (rw (put_b c r t.b_in X' (h A') B' g) spans_b, tt)));
      others = λ j n. let m = subst (Each (λ i. j ≢ i)) naming n in put_other c r X' (h A') B' j m.0 m.1.0 m.1.1.0;
    }

  names : Each (λ i. i < length c) (named r)
  names = subst (Each (λ i. i < length c)) (sym naming) (t.x_in, (t.a_in, (t.b_in, tt)))

  triple_step : (t : Narrowing) → narrowing f e (at c r.x) A (at c r.b) ≡ t → step (fits f e) c r ≡ step_of c r h t
  triple_step none n =
      sym (step_unique (fits f e) (fits_local f e) c r names unsolved (λ v s. narrowing_none f e (at c r.x) A (at c r.b) n _ _ _ (solution_to v s).1))
  triple_step (ends X' A' B') n =
      sym (step_unique (fits f e) (fits_local f e) c r names (left (put c r X' (h A') B')) (leaves X' A' B' (narrowing_hull f e (at c r.x) A (at c r.b) X' A' B' n)))

-- ---- a sum: a's interval as it is
module _ (f e : ℕ) (c : Box) (r : Record) (k : kind_of r.kind ≡ Sum) (t : Three c r) where
  same_back : (P : ℕ → Type 0) → ((y : ℕ) → P y → In (at c r.a) y) → (I : Interval) → Spans P I → Spans (λ y. In (at c r.a) y × P y) I
  same_back P inside I s = same_spans (λ y p. (inside y p, p)) (λ y p. p.1) I s

  pub sum_step : (t : Narrowing) → narrowing f e (at c r.x) (at c r.a) (at c r.b) ≡ t → step (fits f e) c r ≡ step_of c r (λ I. I) t
  sum_step =
      triple_step f e c r t (at c r.a) (λ y. y) (λ I. I) (ap (λ (l : Kind). named_by l r) k) (fits_as f e r Sum k) (λ y i. i) (λ y i. i) (λ y i. refl) same_back

-- ---- a diff: the sum with the mirror of a's interval
module _ (f e : ℕ) (c : Box) (r : Record) (k : kind_of r.kind ≡ Diff) (t : Three c r) (bounded : Bounded f e (at c r.a)) where
  pub diff_step : (t : Narrowing) → narrowing f e (at c r.x) (reflection f e (at c r.a)) (at c r.b) ≡ t → step (fits f e) c r ≡ step_of c r (reflection f e) t
  diff_step =
      triple_step f e c r t (reflection f e (at c r.a)) (mirrored f e) (reflection f e) (ap (λ (l : Kind). named_by l r) k) (fits_as f e r Diff k)
      (in_reflection f e (at c r.a)) (in_reflected f e (at c r.a) bounded) (mirror_twice f e (at c r.a) bounded) (mirror_spans f e (at c r.a) bounded)

-- ---- a neg over two different cells of the box
pub record Two (c : Box) (r : Record) : Type 0 where
  pub x_in : r.x < length c
  pub a_in : r.a < length c
  pub a_x : r.a ≢ r.x

-- x gets what it shares with the mirror of a, and a the mirror of that
module _ (f e : ℕ) (c : Box) (r : Record) (k : kind_of r.kind ≡ Neg) (t : Two c r) (x-bounded : Bounded f e (at c r.x)) (a-bounded : Bounded f e (at c r.a)) where
  abbrev S : Interval
  S = shared (at c r.x) (reflection f e (at c r.a))

  abbrev pub pair : Box
  pair = set (set c r.a (reflection f e S)) r.x S

  pair_x : at pair r.x ≡ S
  pair_x = get_or-set_same (set c r.a (reflection f e S)) r.x S _ (simp length-set t.x_in)

  pair_a : at pair r.a ≡ reflection f e S
  pair_a = get_or-set_other (set c r.a (reflection f e S)) r.x r.a S _ t.a_x ∙ get_or-set_same c r.a (reflection f e S) _ t.a_in

  naming : named r ≡ r.x ∷ r.a ∷ []
  naming = ap (λ (l : Kind). named_by l r) k

  -- its solutions: x in what is shared, and its mirror
  record Opposed (x a : ℕ) : Type 0 where
    shared : In S x
    is : a ≡ mirrored f e x

  opposed_to : (v : Values) → Solution (fits f e) c r v → Opposed (v r.x) (v r.a)
  opposed_to v s =
      let i = subst (Each (λ j. In (at c j) (v j))) naming s.inside in
      let z : v r.a ≡ mirrored f e (v r.x) = eqb-true _ _ (sym (fits_as f e r Neg k v) ∙ s.fits) in
      let m = in_twice f e (at c r.x) x-bounded (v r.x) i.0 in
      let n = in_twice f e (at c r.a) a-bounded (v r.a) i.1.0 in
      record {
        shared = record { low = omega (arith, i.0.low, i.1.0.high, z, m, n); high = omega (arith, i.0.high, i.1.0.low, z, m, n) };
        is = z;
      }

  opposed : (y : ℕ) → In S y → Solution (fits f e) c r (three r.x r.a y (mirrored f e y) 0)
  opposed y i =
      let l = finite_twice f e (at c r.a).low a-bounded.low in
      let h = finite_twice f e (at c r.a).high a-bounded.high in
      let x = at_x r.x r.a r.b y (mirrored f e y) 0 in
      let a = at_a r.x r.a r.b y (mirrored f e y) 0 t.a_x in
      record {
        inside = subst (Each (λ j. In (at c j) (three r.x r.a y (mirrored f e y) 0 j))) (sym naming)
            (rw x (record { low = omega (arith, i.low); high = omega (arith, i.high) }), (rw a (record { low = omega (arith, i.high, l); high = omega (arith, i.low, h) }), tt));
        fits = fits_as f e r Neg k (three r.x r.a y (mirrored f e y) 0) ∙ eq-eqb _ _ (a ∙ ap (mirrored f e) (sym x));
      }

  has_first : (y : ℕ) → In S y → Has (fits f e) c r r.x y
  has_first y i = record { values = three r.x r.a y (mirrored f e y) 0; is = at_x r.x r.a r.b y (mirrored f e y) 0; solution = opposed y i }

  has_second : (y : ℕ) → In S y → Has (fits f e) c r r.a (mirrored f e y)
  has_second y i = record { values = three r.x r.a y (mirrored f e y) 0; is = at_a r.x r.a r.b y (mirrored f e y) 0 t.a_x; solution = opposed y i }

  pair_names : Each (λ i. i < length c) (named r)
  pair_names = subst (Each (λ i. i < length c)) (sym naming) (t.x_in, (t.a_in, tt))

  pair_leaves : S.low ≤ S.high → Left (fits f e) c r pair
  pair_leaves o = record {
    cells = simp length-set;
    spans = subst (Each (λ i. Spans (Has (fits f e) c r i) (at pair i))) (sym naming) (rw pair_x first, (rw pair_a second, tt));
    others = λ j n.
        let m = subst (Each (λ i. j ≢ i)) naming n in
        get_or-set_other (set c r.a (reflection f e S)) r.x j S _ m.0 ∙ get_or-set_other c r.a j (reflection f e S) _ m.1.0;
  }
    where
      least : In S S.low
      least = record { low = omega arith; high = o }

      greatest : In S S.high
      greatest = record { low = o; high = omega arith }

      first : Spans (Has (fits f e) c r r.x) S
      first = record { low = has_first S.low least; high = has_first S.high greatest; all = λ y w. subst (In S) w.is (opposed_to w.values w.solution).shared }

      second : Spans (Has (fits f e) c r r.a) (reflection f e S)
      second = record {
        low = has_second S.high greatest;
        high = has_second S.low least;
        all = λ y w.
            let p = opposed_to w.values w.solution in
            record { low = omega (arith, w.is, p.is, p.shared.high); high = omega (arith, w.is, p.is, p.shared.low) };
      }

  pub neg_solved : S.low ≤ S.high → step (fits f e) c r ≡ left pair
  neg_solved o = sym (step_unique (fits f e) (fits_local f e) c r pair_names (left pair) (pair_leaves o))

  pub neg_unsolved : S.high < S.low → step (fits f e) c r ≡ unsolved
  neg_unsolved o =
      sym (step_unique (fits f e) (fits_local f e) c r pair_names unsolved (λ v s. let p = opposed_to v s in omega (arith, p.shared.low, p.shared.high, o)))
