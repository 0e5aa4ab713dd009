-- b's ends by a few sums: the sum of the low ends, or a sum below which the grid has none that reaches b; the mirror image for the high end; and b's own end where a sum makes it. Rests on `ladder`'s LeastSum, Grid and Solutions.
use mathlib.Core.Path.{◌≡◌, refl, sym, ap, ap₂, ◌∙◌, subst}
use mathlib.Core.Logic.{inl, inr}
use mathlib.Core.Bool.{Bool, true, false, not, cond, ◌&&◌, ◌||◌, true≢false}
use Prim.Native.Nat.{ℕ, ◌*◌, ◌≤◌, ◌<◌, min, max}
use native.Mathlib.Nat.{le_refl}
use native.Mathlib.Omega.{arith}
use lib.Dec.{leb}
use borrow.Author.Tests.{le-leb, lt-leb, leb-true, leb-false}
use Rattle.ladder.specs.Ordinal as L
use Rattle.ladder.specs.Search as S
use Rattle.ladder.specs.Solution.{In, Bounded}
use Rattle.ladder.specs.Solution as Solution
use Rattle.ladder.specs.Narrowing as N
use Rattle.ladder.proofs.Cases.{le_or_lt}
use Rattle.ladder.proofs.Ordinals.{ordinal_finite, finite_twice}
use Rattle.ladder.proofs.Numbers.{number_finite}
use Rattle.ladder.proofs.Sum.{sum_comm, sum_mono, sum_mirror}
use Rattle.ladder.proofs.LeastSum.{lows_least, floor_least}
use Rattle.ladder.proofs.Grid.{grid_low}
use Rattle.ladder.proofs.Solutions.{finite_in, in_reflected, mirror_bounded, mirror_grid, mirror_b, mirror_b_greatest}
use Rattle.arith.specs.declared.format.Format.{Format}
use Rattle.arith.specs.declared.interval.Interval.{Interval}
use Rattle.arith.specs.Formats.{Sound, is_finite, Finite, ordinal, sum, mirrored}
use Rattle.arith.specs.Intervals.{ends_finite}
use Rattle.arith.proofs.Formats.{both}
use Rattle.arith.proofs.Intervals.{ends_both, range_ends}
use Rattle.machine.specs.declared.guess.Pair.{Pair}
use Rattle.machine.specs.declared.«end».End.{End}
use Rattle.machine.specs.Floats.{is_number, ordinals, Adds, Negates}
use Rattle.machine.specs.Shortcuts.{left_x, left_a, HasB, CornersOf, Known, at_low, at_sum, at_gap, KnownEnd, LowEnd, HighEnd, Reached, Mirrors}
use Rattle.machine.proofs.Floats.{number_of, chosen}

-- ---- one of two
module _ (F : Format) where
  lesser_is : (p q r : ℕ) → r ≡ cond (leb (ordinal F p) (ordinal F q)) p q → ordinal F r ≡ min (ordinal F p) (ordinal F q)
  lesser_is p q r e = elim (le_or_lt (ordinal F p) (ordinal F q)) [
    | inl l ↦ let z : r ≡ p = simp (le-leb _ _ l) at e in omega (arith, ap (ordinal F) z)
    | inr l ↦ let z : r ≡ q = simp (lt-leb _ _ l) at e in omega (arith, ap (ordinal F) z)
  ]

  greater_is : (p q r : ℕ) → r ≡ cond (leb (ordinal F p) (ordinal F q)) q p → ordinal F r ≡ max (ordinal F p) (ordinal F q)
  greater_is p q r e = elim (le_or_lt (ordinal F p) (ordinal F q)) [
    | inl l ↦ let z : r ≡ q = simp (le-leb _ _ l) at e in omega (arith, ap (ordinal F) z)
    | inr l ↦ let z : r ≡ p = simp (lt-leb _ _ l) at e in omega (arith, ap (ordinal F) z)
  ]

  finite_at : (p : ℕ) → is_finite F p ≡ true → Finite F (ordinal F p)
  finite_at p h = ordinal_finite F.fraction F.exponent p h

  pub ends_of_lem : (i : Interval) → is_finite F i.low ≡ true → is_finite F i.high ≡ true → ends_finite F i ≡ true
  unfolding ends_finite
  ends_of_lem i l h = ap₂ ◌&&◌ l h

  -- a number whose ordinal lies between finite ones
  between : (p : ℕ) → is_number F p ≡ true → (l h : ℕ) → Finite F l → Finite F h → l ≤ ordinal F p → ordinal F p ≤ h → is_finite F p ≡ true
  between p n l h nl nh i j = number_finite F.fraction F.exponent p n (record { low = omega arith; high = omega arith })

  -- a number inside an interval
  pub inside_finite : (i : Interval) → ends_finite F i ≡ true → (p : ℕ) → is_number F p ≡ true → In (ordinals F i) (ordinal F p) → is_finite F p ≡ true
  inside_finite i h p n w =
      let e = ends_both F i h in
      between p n (ordinal F i.low) (ordinal F i.high) (finite_at i.low e.0) (finite_at i.high e.1) w.low w.high

  -- ---- an end that a sum shows
  -- what least_end asks
  abbrev pub Ready : ℕ → ℕ → ℕ → ℕ → Type 0
  Ready low k u b = (is_number F low ≡ true) × (is_finite F k ≡ true) × (is_finite F u ≡ true) × (is_finite F b ≡ true) × (ordinal F low ≤ ordinal F k) × (ordinal F b ≤ ordinal F k)

  module _ (low k u b : ℕ) where
    settled : (known : Bool) (v : ℕ) → known ≡ true → is_finite F v ≡ true → Known F low k u b v → KnownEnd F low k u b (record { b = v; known = known })
    settled true v t n s = record { finite = n; known = λ z. s; own = λ z. absurd (true≢false z) }
    settled false v t n s = absurd (true≢false (sym t))

    unsettled : (known : Bool) (v : ℕ) → known ≡ false → v ≡ b → is_finite F b ≡ true → KnownEnd F low k u b (record { b = v; known = known })
    unsettled true v t e n = absurd (true≢false t)
    unsettled false v t e n = record { finite = subst (λ (p : ℕ). is_finite F p ≡ true) (sym e) n; known = λ z. absurd (true≢false (sym z)); own = λ z. e }

    module _ (nl : is_number F low ≡ true) (nk : is_finite F k ≡ true) (nb : is_finite F b ≡ true) (lk : ordinal F low ≤ ordinal F k) (bk : ordinal F b ≤ ordinal F k) where
      -- the greater of m and low, where m is between b and k
      greater_end : (m v : ℕ) → is_number F m ≡ true → ordinal F b ≤ ordinal F m → ordinal F m ≤ ordinal F k → v ≡ cond (leb (ordinal F m) (ordinal F low)) low m → (is_finite F v ≡ true) × (ordinal F v ≡ max (ordinal F m) (ordinal F low))
      greater_end m v n l h e =
          let z = greater_is m low v e in
          (between v (chosen (λ (p : ℕ). is_number F p ≡ true) (leb (ordinal F m) (ordinal F low)) v low m e nl n) (ordinal F b) (ordinal F k) (finite_at b nb) (finite_at k nk) (omega arith) (omega arith), z)

      shown : (short near level known : Bool) (m v : ℕ) → short ≡ leb (ordinal F b) (sum F (ordinal F k) (mirrored F (ordinal F u))) → near ≡ leb (ordinal F b) (ordinal F low) → level ≡ leb (ordinal F k) (ordinal F b)
          → known ≡ ((near || level) || not short) → m ≡ cond (not short) k b → v ≡ cond (leb (ordinal F m) (ordinal F low)) low m → KnownEnd F low k u b (record { b = v; known = known })
      shown false near level known m v p q r s t e =
          let g = greater_end m v (subst (λ (i : ℕ). is_number F i ≡ true) (sym t) (number_of F k nk)) (omega (arith, ap (ordinal F) t)) (omega (arith, ap (ordinal F) t)) e in
          settled known v (s ∙ or_true near level) g.0 (at_gap (leb-false _ _ (sym p)) (omega (arith, g.1, ap (ordinal F) t)))
        where
          or_true : (i j : Bool) → ((i || j) || true) ≡ true
          or_true true j = refl
          or_true false true = refl
          or_true false false = refl
      shown true true level known m v p q r s t e =
          let g = greater_end m v (subst (λ (i : ℕ). is_number F i ≡ true) (sym t) (number_of F b nb)) (omega (arith, ap (ordinal F) t)) (omega (arith, ap (ordinal F) t)) e in
          let l = leb-true (ordinal F b) (ordinal F low) (sym q) in
          settled known v s g.0 (at_low l (omega (arith, g.1, ap (ordinal F) t)))
      shown true false true known m v p q r s t e =
          let g = greater_end m v (subst (λ (i : ℕ). is_number F i ≡ true) (sym t) (number_of F b nb)) (omega (arith, ap (ordinal F) t)) (omega (arith, ap (ordinal F) t)) e in
          let l = leb-true (ordinal F k) (ordinal F b) (sym r) in
          let n = leb-false (ordinal F b) (ordinal F low) (sym q) in
          settled known v s g.0 (at_sum l (omega (arith, g.1, ap (ordinal F) t)))
      shown true false false known m v p q r s t e = unsettled known v s (e ∙ ap (λ (t : Bool). cond t low m) (ap (λ (i : ℕ). leb (ordinal F i) (ordinal F low)) t ∙ sym q) ∙ t) nb

      -- as the code has it: s is k less u
      pub known_end : (o s : ℕ) → Negates F u o → Adds F k o s → (short near level known : Bool) (m v : ℕ) → short ≡ leb (ordinal F b) (ordinal F s) → near ≡ leb (ordinal F b) (ordinal F low)
          → level ≡ leb (ordinal F k) (ordinal F b) → known ≡ ((near || level) || not short) → m ≡ cond (not short) k b → v ≡ cond (leb (ordinal F m) (ordinal F low)) low m
          → KnownEnd F low k u b (record { b = v; known = known })
      known_end o s d a short near level known m v p = shown short near level known m v (p ∙ ap (leb (ordinal F b)) (a.is nk ∙ ap (sum F (ordinal F k)) d.is))

  -- ---- a sum that makes b
  -- what is clipped into an interval lies inside it
  pub clipped : (i : Interval) (d g y : ℕ) → ordinal F i.low ≤ ordinal F i.high → g ≡ cond (leb (ordinal F d) (ordinal F i.low)) i.low d → y ≡ cond (leb (ordinal F g) (ordinal F i.high)) g i.high
      → In (ordinals F i) (ordinal F y)
  clipped i d g y l p q =
      let a = greater_is d i.low g p in
      let b = lesser_is g i.high y q in
      record { low = omega arith; high = omega arith }

  pub made : (i : Interval) (c b y s : ℕ) (no_more no_less : Bool) → In (ordinals F i) (ordinal F y) → ordinal F s ≡ sum F (ordinal F y) (ordinal F c) → no_more ≡ leb (ordinal F s) (ordinal F b)
      → no_less ≡ leb (ordinal F b) (ordinal F s) → (no_more && no_less) ≡ true → Reached F i (record { low = c; high = c }) b
  made i c b y s no_more no_less w e p q t =
      let h = both no_more no_less t in
      let l = leb-true (ordinal F s) (ordinal F b) (sym p ∙ h.0) in
      let g = leb-true (ordinal F b) (ordinal F s) (sym q ∙ h.1) in
      record { y = ordinal F y; z = ordinal F c; x_in = w; a_in = record { low = le_refl _; high = le_refl _ }; is = omega arith }

  -- by the low end of one, which lies in it
  pub low_made : (i j : Interval) (b : ℕ) → ordinal F j.low ≤ ordinal F j.high → Reached F i (record { low = j.low; high = j.low }) b → Reached F i j b
  low_made i j b l r = record { y = r.y; z = r.z; x_in = r.x_in; a_in = record { low = r.a_in.low; high = omega (arith, r.a_in.high) }; is = r.is }

  pub swapped : (i j : Interval) (b : ℕ) → Reached F i j b → Reached F j i b
  swapped i j b r = record { y = r.z; z = r.y; x_in = r.a_in; a_in = r.x_in; is = sum_comm F.fraction F.exponent r.z r.y ∙ r.is }

-- ---- the ends of the b in a triple
module _ (F : Format) (ok : Sound F) where
  abbrev f : ℕ
  f = F.fraction

  abbrev e : ℕ
  e = F.exponent

  module _ (X A B : Solution.Interval) (low k u b : ℕ) (is : ordinal F low ≡ sum F X.low A.low) (at : ordinal F b ≡ B.low) (h : N.HasB f e X A B (ordinal F k)) where
    -- the sum of the low ends and b's low end are no more than a sum in a triple
    lows_below : (ordinal F low ≤ ordinal F k) × (ordinal F b ≤ ordinal F k)
    lows_below =
        let r = h.solution in
        (omega (arith, sum_mono f e ok.some X.low h.x A.low h.a r.x_in.low r.a_in.low, r.is), omega (arith, r.b_in.low))

    -- an end that is known is the least
    known_least : Bounded f e B → S.Grid f e X A (ordinal F u) → (v : ℕ) → Known F low k u b v → S.Least (N.HasB f e X A B) (ordinal F v)
    known_least n g v (at_low l z) = rw (z) (lows_least f e ok.some X A B (ordinal F low) is (ordinal F k) h (omega arith))
    known_least n g v (at_sum l z) = rw (z) (floor_least f e X A B (ordinal F k) (omega arith) h)
    known_least n g v (at_gap l z) =
        rw (z)
        (record {
          holds = h;
          least = λ y w. elim (le_or_lt (ordinal F k) y) [ inl i ↦ i | inr i ↦ absurd (nearer y w i) ];
        })
      where
        nearer : (y : ℕ) → N.HasB f e X A B y → y < ordinal F k → ⊥
        nearer y w i =
            let r = h.solution in
            let t = w.solution in
            grid_low f e ok.some X A (ordinal F u) g h.x h.a B.low r.x_in r.a_in
            (rw r.is (finite_in f e B n (ordinal F k) r.b_in))
            n.low
            (rw (r.is, ← at) l)
            w.x w.a t.x_in t.a_in (rw t.is t.b_in.low) (rw (t.is, r.is) i)

  module _ (p q : Pair) (u : ℕ) (b : Interval) (c : CornersOf F p q u b) where
    abbrev X : Solution.Interval
    X = ordinals F (left_x p q)

    abbrev A : Solution.Interval
    A = ordinals F (left_a p q)

    abbrev B : Solution.Interval
    B = ordinals F b

    ends : Bounded f e B
    ends = range_ends F b _ refl c.finite

    -- both corners stand in triples of what is left
    first_in : HasB F (left_x p q) (left_a p q) b (ordinal F p.sum)
    first_in = let d = c.bounds in record {
      x = ordinal F p.low;
      a = ordinal F p.high;
      solution = record {
        x_in = record { low = le_refl _; high = d.x_order };
        a_in = record { low = d.a_order; high = le_refl _ };
        b_in = c.corners.first;
        is = sym c.first.is;
      };
    }

    second_in : HasB F (left_x p q) (left_a p q) b (ordinal F q.sum)
    second_in = let d = c.bounds in record {
      x = ordinal F q.high;
      a = ordinal F q.low;
      solution = record {
        x_in = record { low = d.x_order; high = le_refl _ };
        a_in = record { low = le_refl _; high = d.a_order };
        b_in = c.corners.second;
        is = sum_comm f e (ordinal F q.high) (ordinal F q.low) ∙ sym c.second.is;
      };
    }

    -- and so does the one chosen, which is finite
    corner_in : (t : Bool) (k : ℕ) → k ≡ cond t p.sum q.sum → HasB F (left_x p q) (left_a p q) b (ordinal F k)
    corner_in t k z = chosen (λ (r : ℕ). HasB F (left_x p q) (left_a p q) b (ordinal F r)) t k p.sum q.sum z first_in second_in

    pub corner_finite : (t : Bool) (k : ℕ) → k ≡ cond t p.sum q.sum → is_finite F k ≡ true
    corner_finite t k z = inside_finite F b c.finite k (chosen (λ (r : ℕ). is_number F r ≡ true) t k p.sum q.sum z c.first.number c.second.number) (corner_in t k z).solution.b_in

    -- ---- the low end
    pub low_ready : (t : Bool) (low k : ℕ) → Adds F p.low q.low low → k ≡ cond t p.sum q.sum → Ready F low k u b.low
    low_ready t low k s z =
        let o = lows_below X A B low k u b.low (s.is c.first.low) refl (corner_in t k z) in
        (s.number, corner_finite t k z, c.u_finite, (ends_both F b c.finite).0, o.0, o.1)

    pub low_end : (t : Bool) (low k : ℕ) (r : End) → Adds F p.low q.low low → k ≡ cond t p.sum q.sum → KnownEnd F low k u b.low r → LowEnd F p q b r
    low_end t low k r s z w = record {
      finite = w.finite;
      known = λ n. known_least X A B low k u b.low (s.is c.first.low) refl (corner_in t k z) ends c.grid r.b (w.known n);
      own = λ n. ap (ordinal F) (w.own n);
    }

    -- ---- the high end, in the mirror
    module _ (t : Bool) (high g low k v : ℕ) (s : Adds F q.high p.high high) (z : g ≡ cond t p.sum q.sum) (nl : Negates F high low) (nk : Negates F g k) (nv : Negates F b.high v) where
      x_ends : Bounded f e X
      x_ends = record { low = finite_at F p.low c.first.low; high = finite_at F q.high c.second.high }

      a_ends : Bounded f e A
      a_ends = record { low = finite_at F q.low c.second.low; high = finite_at F p.high c.first.high }

      low_is : ordinal F low ≡ sum F (mirrored F (ordinal F q.high)) (mirrored F (ordinal F p.high))
      low_is =
          nl.is ∙ ap (mirrored F) (s.is c.second.high)
          ∙ sym (sum_mirror f e ok.some (ordinal F q.high) (ordinal F p.high) (finite_twice f e _ x_ends.high) (finite_twice f e _ a_ends.high))

      mirrored_in : N.HasB f e (S.reflection f e X) (S.reflection f e A) (S.reflection f e B) (ordinal F k)
      mirrored_in = rw nk.is (mirror_b f e ok.some X A B x_ends a_ends ends (ordinal F g) (corner_in t g z))

      pub high_ready : Ready F low k u v
      high_ready =
          let o = lows_below (S.reflection f e X) (S.reflection f e A) (S.reflection f e B) low k u v low_is nv.is mirrored_in in
          (nl.number, nk.finite (corner_finite t g z), c.u_finite, nv.finite (ends_both F b c.finite).1, o.0, o.1)

      pub high_end : (r : End) (w : ℕ) → KnownEnd F low k u v r → Negates F r.b w → HighEnd F p q b (record { b = w; known = r.known })
      high_end r w d nw = record {
        finite = nw.finite d.finite;
        known = λ n. rw nw.is
            (mirror_b_greatest f e ok.some X A B x_ends a_ends ends (ordinal F r.b)
            (known_least (S.reflection f e X) (S.reflection f e A) (S.reflection f e B) low k u v low_is nv.is mirrored_in (mirror_bounded f e B ends) (mirror_grid f e ok.some X A x_ends a_ends (ordinal F u) c.grid) r.b (d.known n)));
        own = λ n. omega (arith, nw.is, ap (ordinal F) (d.own n), nv.is, finite_twice f e (ordinal F b.high) ends.high);
      }

  -- ---- a sum that makes b, in the mirror
  -- r runs from the opposite of i's high end to that of its low end

  module _ (i r : Interval) (n : ends_finite F i ≡ true) (m : Mirrors F i r) where
    pub mirror_order : ordinal F i.low ≤ ordinal F i.high → ordinal F r.low ≤ ordinal F r.high
    mirror_order l = omega (arith, m.1, m.2)

    mirror_in_lem : (y : ℕ) → In (ordinals F r) y → In (ordinals F i) (mirrored F y)
    mirror_in_lem y w = in_reflected f e (ordinals F i) (range_ends F i _ refl n) y (record { low = omega (arith, m.1); high = omega (arith, m.2) })

    mirror_twice : (y : ℕ) → In (ordinals F r) y → y ≤ 2 * L.sign f e
    mirror_twice y w = finite_twice f e y (finite_in f e (ordinals F r) (range_ends F r _ refl m.0) y w)

  pub mirror_made : (i j r s : Interval) (b v : ℕ) → ends_finite F i ≡ true → ends_finite F j ≡ true → is_finite F b ≡ true → Mirrors F i r → Mirrors F j s → Negates F b v → Reached F r s v → Reached F i j b
  mirror_made i j r s b v ni nj nb mr ms nv t = record {
    y = mirrored F t.y;
    z = mirrored F t.z;
    x_in = mirror_in_lem i r ni mr t.y t.x_in;
    a_in = mirror_in_lem j s nj ms t.z t.a_in;
    is = sum_mirror f e ok.some t.y t.z (mirror_twice i r ni mr t.y t.x_in) (mirror_twice j s nj ms t.z t.a_in)
        ∙ omega (arith, t.is, nv.is, finite_twice f e (ordinal F b) (finite_at F b nb));
  }
